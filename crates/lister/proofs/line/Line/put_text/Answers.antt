-- Zeros stand before a text that was put.
use Rattle.std.proofs.Common.{arith}
use Rattle.std.proofs.lemmas.List.{length-take-le, take_at}
use Rattle.lister.proofs.Printing.{zeros_before}
use Rattle.lister.proofs.line.Line.put_text.Goals as goal

pub invariant_of-self-clause-zeros : goal.invariant_of-self-clause-zeros
invariant_of-self-clause-zeros c =
    let line = c.args.self.now in
    zeros_before line.bytes _ _ line.start (omega arith) line.zeros (take_at _ _ _ (length-take-le _ _ (omega arith)))
