use Rattle.std.proofs.Common.{◌≡◌, ◌+◌, ◌-◌, arith, eq-eqb}
use Rattle.maps.proofs.Least.{search_hit, search_over}
use Rattle.labels.specs.Inside.{not_labelled}
use Rattle.labels.proofs.not_labelled.Goals as goal

pub returns-then-label-eq0 : goal.returns-then-label-eq0
unfolding not_labelled
returns-then-label-eq0 c =
    let here : c.loop-i.i + 1 - 1 ≡ c.loop-i.i = omega arith in
    search_hit _ c.loop-i.invariant (omega arith) (omega arith) (rw here (eq-eqb _ 0 c.if-label-eq0.true))

pub returns : goal.returns
unfolding not_labelled
returns c = search_over _ c.loop-i.invariant (omega arith)
