-- Each way out is one case of rule 7's test.
use Rattle.maps.proofs.Rules.{unanswered_first, unanswered_unsewn, unanswered_sewn}
use Rattle.maps.proofs.ReversedRule.breaks.Goals as goal

pub returns-then-i-lt2 : goal.returns-then-i-lt2
returns-then-i-lt2 c = unanswered_first _ _ _ c.if-i-lt2.true

pub returns-then-e-ne0 : goal.returns-then-e-ne0
returns-then-e-ne0 c = unanswered_sewn _ _ _ c.if-i-lt2.false _ _ c.sewn-e.ensures c.if-e-ne0.true c.sewn.ensures

pub returns-else-e-ne0 : goal.returns-else-e-ne0
returns-else-e-ne0 c = rw c.if-e-ne0.false (unanswered_unsewn _ _ _ c.if-i-lt2.false _ c.sewn-e.ensures c.if-e-ne0.false)
