-- The record at which `drawer::check::first_bad` stops is bad. Assumes nothing.
use mathlib.Core.Path.{sym}
use native.Mathlib.Omega.{arith}
use Rattle.maps.proofs.Least.{search_hit}
use Rattle.drawer.proofs.check.first_bad.Goals as goal

pub returns-then-is_bad : goal.returns-then-is_bad
returns-then-is_bad c = search_hit _ c.loop-k.invariant (omega arith) (omega arith) (sym c.if-is_bad.ensures)
