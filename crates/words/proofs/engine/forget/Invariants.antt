use Rattle.std.proofs.Common.{take}
use Rattle.words.proofs.Forgetting.{Forgetting}
use Rattle.words.proofs.engine.forget.Given as goal

abbrev pub invariant-loop-d : goal.invariant-loop-d
invariant-loop-d l = Forgetting l.labels (take l.given l.queue) l.given l.d-index
