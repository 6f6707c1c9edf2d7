-- A dart that is given again has its β0 already; else its β0 is written, and rule 6 holds so far.
use Rattle.std.proofs.Common.{arith}
use Rattle.maps.specs.Given.{map_of}
use Rattle.maps.proofs.Given.{sewn_inside}
use Rattle.maps.proofs.Answer.{sewing_start, sewing_given, sewing_unsewn, sewing_clash, sewing_over}
use Rattle.maps.proofs.shape.InShape.sew_back.Goals as goal
use Rattle.maps.proofs.shape.InShape.sew_back.Goals.{then-e-ne0+else-back-e-ne0, else-e-ne0}

pub loop-d-init : goal.loop-d-init
loop-d-init c = sewing_start _ c.requires.zeros

pub offset_bounds-back-e : goal.offset_bounds-back-e
offset_bounds-back-e c = omega (arith, sewn_inside c.args.self.shaped c.requires.within _ _ c.sewn-e.ensures)

pub bounds-back-e : goal.bounds-back-e
bounds-back-e c = omega (arith, sewn_inside c.args.self.shaped c.requires.within _ _ c.sewn-e.ensures)

pub returns-then-back-e-ne0 : goal.returns-then-back-e-ne0
unfolding map_of
returns-then-back-e-ne0 c =
    sewing_clash c.loop-d.invariant c.args.self.shaped.bounds.dim_least (omega arith) c.sewn-e.ensures c.if-e-ne0.true
    (sewn_inside c.args.self.shaped c.requires.within _ _ c.sewn-e.ensures)
    c.if-back-e-ne0.true

pub offset_bounds-back-e-then-e-ne0 : goal.offset_bounds-back-e-then-e-ne0
offset_bounds-back-e-then-e-ne0 c = omega (arith, sewn_inside c.args.self.shaped c.requires.within _ _ c.sewn-e.ensures)

pub bounds-back-e-then-e-ne0 : goal.bounds-back-e-then-e-ne0
bounds-back-e-then-e-ne0 c = omega (arith, sewn_inside c.args.self.shaped c.requires.within _ _ c.sewn-e.ensures)

pub loop-d-preserved : goal.loop-d-preserved
unfolding map_of
loop-d-preserved c =
    let dim = c.args.self.shaped.bounds.dim_least in
    elim c.if-e-ne0.branch [
      | then-e-ne0+else-back-e-ne0 w ↦ rw w.back-is (sewing_given c.loop-d.invariant dim (omega arith) c.sewn-e.ensures w.if-e-ne0.true (sewn_inside c.args.self.shaped c.requires.within _ _ c.sewn-e.ensures) w.if-back-e-ne0.false)
      | else-e-ne0 w ↦ rw w.back-is (sewing_unsewn c.loop-d.invariant dim (omega arith) c.sewn-e.ensures w.if-e-ne0.false)
    ]

pub returns : goal.returns
unfolding map_of
returns c = sewing_over c.loop-d.invariant c.args.self.shaped.bounds.dim_least (omega arith)
