-- `words::first_row::least_rank` meets its contract.
use Rattle.std.proofs.Common.{arith}
use Rattle.maps.specs.Given.{map_of}
use Rattle.maps.proofs.Accepted.{darts_most}
use Rattle.words.proofs.Usable.{usable}
use Rattle.words.proofs.FirstRow.{ranking_start, ranking_turn, ranking_done}
use Rattle.words.proofs.first_row.least_rank.Goals as goal

pub rank-least-requires : goal.rank-least-requires
rank-least-requires c = (omega arith, (usable c.args.map).taken.bounds.darts_least)

pub rank-requires : goal.rank-requires
unfolding map_of
rank-requires c = (omega arith, omega arith)

pub loop-d-init : goal.loop-d-init
loop-d-init c = ranking_start (usable c.args.map).taken.bounds.darts_least c.rank-least.ensures

pub loop-d-preserved : goal.loop-d-preserved
unfolding map_of
loop-d-preserved c =
    rw c.min-least.ensures (ranking_turn c.loop-d.invariant (omega arith, omega arith) c.rank.ensures)

pub returns : goal.returns
unfolding map_of
returns c = ranking_done c.loop-d.invariant (omega arith)

pub overflow_add-d-end : goal.overflow_add-d-end
overflow_add-d-end c = omega (arith, darts_most (usable c.args.map).shaped.bounds)
