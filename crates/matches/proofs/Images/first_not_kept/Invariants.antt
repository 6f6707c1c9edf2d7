-- Every dart below d is kept.
use Rattle.maps.specs.Given.{map_of}
use Rattle.maps.specs.Shown.{given}
use Rattle.maps.proofs.Least.{Passed}
use Rattle.matches.specs.Judge.{parts}
use Rattle.matches.proofs.Images.first_not_kept.Given as goal

abbrev pub invariant-loop-d : goal.invariant-loop-d
invariant-loop-d l =
    Passed (parts (map_of (given l.self.pair.first)) (map_of (given l.self.pair.second)) l.self.list.now) l.d
