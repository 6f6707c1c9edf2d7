-- The two ways out are the two cases of a composition.
use Rattle.maps.proofs.Rules.{parted_unsewn, parted_sewn}
use Rattle.maps.proofs.shape.InShape.parts.Goals as goal

pub returns-then-e-ne0 : goal.returns-then-e-ne0
returns-then-e-ne0 c = parted_sewn _ _ _ _ _ _ c.sewn.ensures c.sewn-e.ensures c.if-e-ne0.true _ _ c.sewn-then-e-ne0.ensures c.sewn-then-e-ne0-2.ensures

pub returns-else-e-ne0 : goal.returns-else-e-ne0
returns-else-e-ne0 c = rw c.if-e-ne0.false (parted_unsewn _ _ _ _ _ _ c.sewn.ensures c.sewn-e.ensures c.if-e-ne0.false)
