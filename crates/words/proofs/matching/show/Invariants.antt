-- `words::matching::show`: the places of the queues that are passed have their images.
use Rattle.std.proofs.Common.{length}
use Rattle.words.proofs.Images.{Showing}
use Rattle.words.proofs.matching.show.Given as goal

abbrev pub invariant-loop-dart : goal.invariant-loop-dart
invariant-loop-dart l = Showing l.first l.second l.initial.output l.output (length l.yielded)
