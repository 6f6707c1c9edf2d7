-- No sewing of d below i breaks the rule.
use Rattle.std.proofs.Common.{◌≤◌}
use Rattle.maps.specs.Given.{map_of}
use Rattle.maps.specs.Shown.{given}
use Rattle.maps.proofs.Least.{Passed}
use Rattle.maps.proofs.shape.InShape.wrong_sewing.Given as goal

abbrev pub invariant-loop-i : goal.invariant-loop-i
invariant-loop-i g l = (1 ≤ l.i) × Passed (λ j. g.R.Rule.rule.broken (map_of (given l.self.table)) l.d j) l.i
