-- The fields are put, then the word number by number.
use Rattle.std.proofs.Common.{arith}
use Rattle.drawer.proofs.Writing.{begun_fields, begun_whole}
use Rattle.drawer.proofs.write.record_of.Goals as goal

pub loop-i-init : goal.loop-i-init
loop-i-init c = begun_fields _ _ _ c.args.layout.numbers.now _ _ _ (omega arith) c.to_le_bytes.ensures c.to_le_bytes-2.ensures c.put_fields.ensures

pub returns : goal.returns
returns c = begun_whole _ _ _ _ _ _ c.loop-i.invariant (omega arith) c.requires.long
