use Rattle.std.proofs.Common.{◌≡◌, ◌≤◌, ◌<◌, take, suc, sym, ◌∙◌, arith}
use Rattle.maps.specs.Least.{nth}
use Rattle.maps.proofs.Least.{nth-suc}
use Rattle.labels.proofs.Inside.{holds_length}
use Rattle.words.proofs.Forgetting.{forgetting_start, forgetting_turn, forgetting_done}
use Rattle.words.proofs.engine.forget.Goals as goal

-- the dart whose turn it is
read : (c : goal.After-from) → c.from.result ≡ nth (take c.args.given c.args.queue.now) (suc c.loop-d.d-index)
read c = c.from.ensures ∙ sym (nth-suc (take c.args.given c.args.queue.now) c.loop-d.d-index)

below : (c : goal.After-from) → c.loop-d.d-index < c.args.given
below c = omega (arith, holds_length c.requires.holds)

inside : (c : goal.After-from) → (1 ≤ c.from.result) × (c.from.result ≤ 1020)
inside c = rw (read c) (c.requires.inside (suc c.loop-d.d-index) (omega arith) (below c))

pub loop-d-init : goal.loop-d-init
loop-d-init c = forgetting_start c.requires.holds

pub overflow_sub-labels : goal.overflow_sub-labels
overflow_sub-labels c = (inside c).0

pub bounds-labels-from : goal.bounds-labels-from
bounds-labels-from c = omega (arith, inside c.before)

pub loop-d-preserved : goal.loop-d-preserved
loop-d-preserved c = forgetting_turn c.loop-d.invariant c.from.result (read c.before) (inside c.before).0 (inside c.before).1 (below c.before)

pub returns : goal.returns
returns c =
    let long = holds_length c.requires.holds in
    forgetting_done c.loop-d.invariant long (omega (arith, long))
