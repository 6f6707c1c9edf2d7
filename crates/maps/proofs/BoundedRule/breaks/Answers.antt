-- The test is the rule's.
use Rattle.std.proofs.Common.{refl}
use Rattle.maps.specs.Rules.{exceeds}
use Rattle.maps.specs.Given.{map_of}
use Rattle.maps.proofs.BoundedRule.breaks.Goals as goal

pub returns : goal.returns
unfolding exceeds map_of
returns c = rw c.sewn.ensures refl
