-- A reading completes at most one record, so the records are no more than the readings.
use Rattle.std.proofs.Common.{◌≤◌}
use Rattle.layouts.proofs.list.Given as goal

abbrev pub invariant-loop : goal.invariant-loop
invariant-loop g l = l.progress.records ≤ l.counter
