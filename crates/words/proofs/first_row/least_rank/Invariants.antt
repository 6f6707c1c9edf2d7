-- `words::first_row::least_rank`: the least rank of the starts below d.
use Rattle.maps.specs.Given.{map_of}
use Rattle.maps.specs.Shown.{given}
use Rattle.words.proofs.FirstRow.{Ranking}
use Rattle.words.proofs.first_row.least_rank.Given as goal

abbrev pub invariant-loop-d : goal.invariant-loop-d
invariant-loop-d l = Ranking (map_of (given l.map.table)) l.least l.d
