-- the first k darts of the queue are served
use Rattle.std.proofs.Common.{◌-◌}
use Rattle.maps.specs.Given.{map_of}
use Rattle.maps.specs.Shown.{given}
use Rattle.labels.proofs.Inside.{Running}
use Rattle.labels.proofs.SewnTable.reach.Given as goal

abbrev pub invariant-loop-k : goal.invariant-loop-k
invariant-loop-k l = Running (map_of (given l.fn.self.table)) 1 l.labels l.queue l.labelling.given l.k

abbrev pub decreases-loop-k : goal.decreases-loop-k
decreases-loop-k l = (map_of (given l.fn.self.table)).darts - l.k
