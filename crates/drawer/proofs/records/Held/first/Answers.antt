-- The record at which `drawer::records::Held::first` stops has what is looked for. Assumes nothing.
use native.Mathlib.Omega.{arith}
use borrow.Author.Rules.{rules}
use Rattle.maps.proofs.Least.{search_hit}
use Rattle.drawer.specs.Drawer.{entry_at}
use Rattle.drawer.proofs.records.Held.first.Goals as goal

pub returns-then-is_in : goal.returns-then-is_in
unfolding entry_at
returns-then-is_in g c = search_hit _ c.loop-i.invariant (omega arith) (search rules) (search rules)
