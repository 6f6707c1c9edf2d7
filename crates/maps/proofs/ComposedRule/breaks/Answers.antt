-- The search for a composition that fails.
use Rattle.std.proofs.Common.{sym, ◌∙◌, arith}
use Rattle.maps.specs.Rules.{composes_wrong}
use Rattle.maps.proofs.Least.{passed_start, passed_turn, passed_misses, misses_some, passes_some}
use Rattle.maps.proofs.ComposedRule.breaks.Goals as goal

pub loop-i-init : goal.loop-i-init
loop-i-init c = passed_start _

pub returns-then-parts : goal.returns-then-parts
unfolding composes_wrong
returns-then-parts c = sym (passes_some _ _ c.loop-i.i (omega arith) (omega arith) (sym c.parts.ensures ∙ c.if-parts.true))

pub loop-i-preserved : goal.loop-i-preserved
loop-i-preserved c = passed_turn _ c.loop-i.invariant (sym c.parts.ensures ∙ c.if-parts.false)

pub returns : goal.returns
unfolding composes_wrong
returns c = sym (misses_some _ _ (passed_misses _ c.loop-i.invariant (omega arith)))
