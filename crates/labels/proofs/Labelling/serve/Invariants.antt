-- β0, β1, .. βi of the dart are met
use Rattle.std.proofs.Common.{take}
use Rattle.maps.specs.Given.{map_of}
use Rattle.maps.specs.Shown.{given}
use Rattle.labels.specs.Queue.{tried}
use Rattle.labels.specs.Inside.{Holds}
use Rattle.labels.proofs.Labelling.serve.Given as goal

abbrev pub invariant-loop-e : goal.invariant-loop-e
invariant-loop-e l = Holds l.labels l.queue l.labelling.given (tried (map_of (given l.fn.map.table)) (take l.fn.self.given l.fn.queue) l.fn.d l.e-index)
