-- What was seen, with what is left of the bytes, has the answer of the whole.
use Rattle.std.proofs.Common.{◌≡◌, ◌&&◌, drop}
use Rattle.drawer.specs.Record.{all_zero}
use Rattle.drawer.proofs.fields.all_zero.Given as goal

abbrev pub invariant-loop-b : goal.invariant-loop-b
invariant-loop-b l = (l.zero && all_zero (drop l.b-index l.bytes)) ≡ all_zero l.bytes
