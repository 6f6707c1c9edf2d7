-- Every dart up to the index is good, and its value is noted.
use Rattle.std.proofs.Common.{◌+◌, length}
use Rattle.maps.proofs.Least.{Passed}
use Rattle.matches.proofs.Judge.{bad}
use Rattle.matches.proofs.Inside.{Users}
use Rattle.matches.proofs.first_bad.Given as goal

abbrev pub invariant-loop-index : goal.invariant-loop-index
invariant-loop-index l =
    record { users : Users l.list l.index l.used; so_far : Passed (bad (length l.list) l.list) (l.index + 1) }
