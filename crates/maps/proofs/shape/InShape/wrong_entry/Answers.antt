-- The search for a dart that has a wrong entry.
use Rattle.std.proofs.Common.{arith}
use Rattle.maps.specs.Given.{map_of, place_of}
use Rattle.maps.specs.Shown.{given}
use Rattle.maps.proofs.Least.{passed_start}
use Rattle.maps.proofs.Rules.{entry_found, row_passed, entries_over, sewing_inside}
use Rattle.maps.proofs.shape.InShape.wrong_entry.Goals as goal

pub loop-d-init : goal.loop-d-init
loop-d-init g c = passed_start _

pub overflow_add-result : goal.overflow_add-result
unfolding map_of
overflow_add-result g c = omega (arith, sewing_inside c.args.self.shaped g.R.Rule.rule _ _ (omega arith) (omega arith) c.in-Some.ensures)

pub returns-in-Some : goal.returns-in-Some
unfolding map_of place_of
returns-in-Some g c =
    entry_found (map_of (given c.args.self.table)) g.R.Rule.rule c.args.self.shaped.bounds.dim_least _ c.loop-d.invariant _ (omega arith, omega arith) c.in-Some.ensures

pub loop-d-preserved : goal.loop-d-preserved
unfolding map_of
loop-d-preserved g c = row_passed (map_of (given c.args.self.table)) g.R.Rule.rule c.args.self.shaped.bounds.dim_least _ c.loop-d.invariant c.in_default.ensures

pub returns : goal.returns
unfolding map_of
returns g c = entries_over (map_of (given c.args.self.table)) g.R.Rule.rule c.args.self.shaped.bounds.dim_least _ c.loop-d.invariant (omega arith)
