-- `words::orbits::Forest::join_all`: what stands at the places passed is joined.
use Rattle.std.proofs.Common.{◌≡◌, length}
use Rattle.words.specs.Forest.{joined_all}
use Rattle.words.proofs.orbits.Forest.join_all.Given as goal

abbrev pub invariant-loop-d : goal.invariant-loop-d
invariant-loop-d l = l.self.up ≡ joined_all (length l.yielded) l.queue l.lead l.initial.self.up
