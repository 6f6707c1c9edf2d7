-- What is read in the row is what the dart is sewn to.
use Rattle.std.proofs.Common.{◌≡◌, ◌+◌, ◌-◌, ◌*◌, arith}
use Rattle.matches.proofs.Inside.{row_read}
use Rattle.matches.proofs.row_of.Goals as goal

pub returns-clause-sewn : goal.returns-clause-sewn
returns-clause-sewn c =
    let row = (c.args.d - 1) * c.args.table.n in
    let long : row + c.args.table.n - row ≡ c.args.table.n = omega arith in
    rw long (row_read c.requires.shaped c.args.d c.requires.dart)
