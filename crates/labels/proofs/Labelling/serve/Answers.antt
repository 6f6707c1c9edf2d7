-- β0 is met, and then the numbers of the dart's row, one after the other.
use Rattle.std.proofs.Common.{◌≡◌, arith}
use Rattle.labels.proofs.Inside.{darts_few, first_meets, first_tried, next_meets, next_tried, served_row}
use Rattle.labels.proofs.Labelling.serve.Goals as goal

pub meet-labelling-requires : goal.meet-labelling-requires
meet-labelling-requires c = first_meets c.args.map.within (darts_few c.args.map.shaped) _ c.requires.good c.requires.holds c.before-2.ensures

pub loop-e-init : goal.loop-e-init
loop-e-init c = first_tried _ _ _ c.before-2.ensures c.meet-labelling.ensures

pub meet-labelling-requires-in-loop-e : goal.meet-labelling-requires-in-loop-e
meet-labelling-requires-in-loop-e c =
    next_meets c.args.map.within (darts_few c.args.map.shaped) _ c.requires.good _ c.loop-e.invariant (c.row-e-items.ensures.sews _ (omega (arith, c.row-e-items.ensures.long)))

pub loop-e-preserved : goal.loop-e-preserved
loop-e-preserved c = next_tried _ _ _ _ c.loop-e.invariant (c.row-e-items.ensures.sews _ (omega (arith, c.row-e-items.ensures.long))) c.meet-labelling-in-loop-e.ensures

pub returns : goal.returns
returns c = let all : c.loop-e.e-index ≡ c.args.map.table.n = omega (arith, c.row-e-items.ensures.long) in served_row _ _ _ (rw all at c.loop-e.invariant)
