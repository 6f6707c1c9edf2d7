-- `words::orbits::Forest::new` meets its contract: no dart is over another.
use Rattle.words.proofs.Forest.{descends_none}
use Rattle.words.proofs.orbits.Forest.new.Goals as goal

pub invariant_of-result : goal.invariant_of-result
invariant_of-result c = record { lower = descends_none }
