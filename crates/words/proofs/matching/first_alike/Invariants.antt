-- `words::matching::first_alike`: the starts below d are tried against the word held, and none yields it.
use Rattle.std.proofs.Common.{◌≡◌, ◌*◌, take}
use Rattle.maps.specs.Given.{map_of}
use Rattle.maps.specs.Shown.{given}
use Rattle.maps.proofs.Least.{Passed}
use Rattle.words.specs.Words.{yields}
use Rattle.words.proofs.matching.first_alike.Given as goal

abbrev pub invariant-loop-d : goal.invariant-loop-d
invariant-loop-d l = record {
  firm : l.word ≡ l.initial.word;
  so_far : Passed (yields (map_of (given l.map.table)) (take (l.map.table.n * l.map.table.m) l.initial.word)) l.d;
}
