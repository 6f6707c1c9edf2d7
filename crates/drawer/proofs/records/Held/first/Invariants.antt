-- The loop of `drawer::records::Held::first`. Assumes nothing.
use Prim.Native.Nat.{◌+◌}
use Rattle.maps.proofs.Least.{Passed}
use Rattle.drawer.specs.Drawer.{entry_at}
use Rattle.drawer.proofs.records.Held.first.Given as goal

-- no record before it has what is looked for
abbrev pub invariant-loop-i : goal.invariant-loop-i
invariant-loop-i g l = Passed (λ j. g.S.Sought.has l.sought (entry_at l.self.records.bytes.now j)) (l.i + 1)
