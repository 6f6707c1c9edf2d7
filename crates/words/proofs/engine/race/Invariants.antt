use Rattle.maps.specs.Given.{map_of}
use Rattle.maps.specs.Shown.{given}
use Rattle.words.proofs.Racing.{Serving, Rowing}
use Rattle.words.proofs.engine.race.Given as goal

abbrev pub invariant-labels : goal.invariant-labels
invariant-labels l = Serving (map_of (given l.map.table)) l.d l.rows l.firm l.fn.word l.labels l.queue l.word l.labelling.given l.side l.p l.k

abbrev pub invariant-loop-e : goal.invariant-loop-e
invariant-loop-e l =
    Rowing (map_of (given l.map.table)) l.d l.rows l.k l.firm l.initial.word l.labels l.queue l.word l.labelling.given l.initial.side l.initial.p l.side l.p l.e-index
