-- The loop of `drawer::check::first_bad`. Assumes nothing.
use Rattle.maps.proofs.Least.{Passed}
use Rattle.drawer.specs.Drawer.{bad_record}
use Rattle.drawer.proofs.check.first_bad.Given as goal

-- no record before k is bad
abbrev pub invariant-loop-k : goal.invariant-loop-k
invariant-loop-k l = Passed (bad_record l.held.records.bytes.now) l.k
