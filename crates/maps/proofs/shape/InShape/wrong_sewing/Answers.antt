-- The search for a sewing that breaks the rule, from the least that it speaks of.
use Rattle.std.proofs.Common.{sym, ◌∙◌, arith}
use Rattle.maps.specs.Given.{map_of}
use Rattle.maps.specs.Inside.{wrong_sewing}
use Rattle.maps.proofs.Least.{passed_turn, search_hit, search_over}
use Rattle.maps.proofs.shape.InShape.wrong_sewing.Goals as goal

pub loop-i-init : goal.loop-i-init
loop-i-init g c = (c.least_sewing-i.ensures.some, λ j low below. c.least_sewing-i.ensures.below _ _ j low below)

pub returns-then-breaks : goal.returns-then-breaks
unfolding wrong_sewing map_of
returns-then-breaks g c = search_hit _ c.loop-i.invariant.1 (omega arith) (omega arith) (sym c.breaks.ensures ∙ c.if-breaks.true)

pub loop-i-preserved : goal.loop-i-preserved
loop-i-preserved g c = (omega arith, passed_turn _ c.loop-i.invariant.1 (sym c.breaks.ensures ∙ c.if-breaks.false))

pub returns : goal.returns
unfolding wrong_sewing map_of
returns g c = search_over _ c.loop-i.invariant.1 (omega arith)
