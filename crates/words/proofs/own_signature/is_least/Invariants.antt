-- `words::own_signature::is_least`: the starts below d are tried or passed over, and none is less.
use Rattle.std.proofs.Common.{◌≡◌, ◌*◌, take}
use Rattle.maps.specs.Given.{map_of}
use Rattle.maps.specs.Shown.{given}
use Rattle.maps.proofs.Least.{Passed}
use Rattle.words.specs.Words.{word, less}
use Rattle.words.proofs.Kin.{Kin}
use Rattle.words.proofs.own_signature.is_least.Given as goal

abbrev pub invariant-loop-d : goal.invariant-loop-d
invariant-loop-d l = record {
  firm : l.word ≡ l.initial.word;
  kin : Kin (map_of (given l.map.table)) l.forest.up;
  none_less : Passed (λ e. less (word (map_of (given l.map.table)) e) (take (l.map.table.n * l.map.table.m) l.initial.word)) l.d;
}
