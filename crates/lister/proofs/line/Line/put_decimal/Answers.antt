-- Zeros stand before the digits that were put.
use Rattle.std.proofs.Common.{arith}
use Rattle.lister.proofs.Printing.{zeros_before}
use Rattle.lister.proofs.line.Line.put_decimal.Goals as goal

pub invariant_of-self-clause-zeros : goal.invariant_of-self-clause-zeros
invariant_of-self-clause-zeros c =
    let line = c.args.self.now in
    zeros_before line.bytes _ _ line.start (omega arith) line.zeros c.write_digits-self.ensures.before
