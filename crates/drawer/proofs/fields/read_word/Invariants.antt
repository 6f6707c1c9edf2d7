-- The first i numbers are copied, and what stands behind them is as it was.
use Rattle.std.proofs.Common.{◌≡◌, ◌++◌, drop}
use Rattle.drawer.specs.Record.{numbers}
use Rattle.drawer.proofs.fields.read_word.Given as goal

abbrev pub invariant-loop-i : goal.invariant-loop-i
invariant-loop-i l = l.word ≡ numbers l.i (drop 8 l.filed) ++ drop l.i l.initial.word
