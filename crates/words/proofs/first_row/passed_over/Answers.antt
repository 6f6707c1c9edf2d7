-- `words::first_row::passed_over` meets its contract: what is over the start is read, and then its rank.
use Rattle.words.proofs.Usable.{placed}
use Rattle.words.proofs.first_row.passed_over.Goals as goal

pub is_under-requires : goal.is_under-requires
is_under-requires c = let p = placed c.args.map c.args.d c.requires in record { low = p.0; high = p.1 }
