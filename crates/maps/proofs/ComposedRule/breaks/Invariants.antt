-- No composition of βj with a lesser βi fails at d.
use Rattle.maps.specs.Given.{map_of}
use Rattle.maps.specs.Rules.{parted}
use Rattle.maps.specs.Shown.{given}
use Rattle.maps.proofs.Least.{Passed}
use Rattle.maps.proofs.ComposedRule.breaks.Given as goal

abbrev pub invariant-loop-i : goal.invariant-loop-i
invariant-loop-i l = Passed (λ k. parted (map_of (given l.shape.table)) k l.j l.d) l.i
