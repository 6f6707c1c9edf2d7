-- No dart below d has an entry that breaks the rule.
use Rattle.maps.specs.Given.{map_of}
use Rattle.maps.specs.Shown.{given}
use Rattle.maps.proofs.Least.{Passed}
use Rattle.maps.proofs.Rules.{at_dart}
use Rattle.maps.proofs.shape.InShape.wrong_entry.Given as goal

abbrev pub invariant-loop-d : goal.invariant-loop-d
invariant-loop-d g l = Passed (at_dart (map_of (given l.self.table)) g.R.Rule.rule) l.d
