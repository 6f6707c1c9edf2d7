use Rattle.std.proofs.Common.{arith}
use Rattle.labels.proofs.Inside.{darts_few, back_is}
use Rattle.labels.proofs.SewnTable.before.Goals as goal

pub bounds-self-from : goal.bounds-self-from
bounds-self-from c = omega (arith, darts_few c.args.self.shaped)

pub returns : goal.returns
returns c = rw c.from.ensures (back_is c.args.self.shaped c.requires c.args.self.backs)
