-- The first i numbers of the word stand behind the fields.
use Rattle.std.proofs.Common.{◌≡◌}
use Rattle.drawer.proofs.Writing.{begun}
use Rattle.drawer.proofs.write.record_of.Given as goal

abbrev pub invariant-loop-i : goal.invariant-loop-i
invariant-loop-i l = l.filed ≡ begun l.die l.n l.m l.word l.i
