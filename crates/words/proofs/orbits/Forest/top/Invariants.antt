-- `words::orbits::Forest::top`: `above` is over `top`, which is d or over it, and has its top.
use Rattle.std.proofs.Common.{◌≡◌}
use Rattle.maps.specs.Least.{nth}
use Rattle.words.specs.Forest.{Placed, top_of}
use Rattle.words.proofs.orbits.Forest.top.Given as goal

abbrev pub invariant-loop-above : goal.invariant-loop-above
invariant-loop-above l = record {
  placed : Placed l.top;
  over : l.above ≡ nth l.self.up l.top;
  one_top : top_of l.self.up l.top ≡ top_of l.self.up l.d;
}

abbrev pub decreases-loop-above : goal.decreases-loop-above
decreases-loop-above l = l.above
