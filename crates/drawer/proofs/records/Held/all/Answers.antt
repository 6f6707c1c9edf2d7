-- The chunks that `drawer::records::Held::all` hands back are the records. Assumes nothing.
use native.Mathlib.Omega.{arith}
use Rattle.std.proofs.lemmas.List.{length-take}
use Rattle.drawer.proofs.Checking.{record_in_chunks}
use Rattle.drawer.proofs.records.Held.all.Goals as goal

pub returns-clause-each : goal.returns-clause-each
returns-clause-each c i low =
    let long = length-take c.args.self.records.count c.as_chunks.result.0.now in
    rw c.as_chunks.ensures.front (record_in_chunks c.args.self.records.count _ i _ (omega (arith, c.args.self.inside)) (omega (arith, long)))
