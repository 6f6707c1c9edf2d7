-- Each run fills some of what is open.
use Rattle.std.proofs.Common.{length}
use Rattle.bench.proofs.read.Line.list.Given as goal

abbrev pub decreases-loop-open : goal.decreases-loop-open
decreases-loop-open g l = length l.open
