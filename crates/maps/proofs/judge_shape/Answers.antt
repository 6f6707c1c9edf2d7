-- Each of 1 to 4 by its test; past them the entries' answer is the judge's.
use Rattle.std.proofs.Common.{refl, sym, ◌∙◌, arith}
use Rattle.maps.proofs.Rules.{shape_dimension, shape_size, shape_long, shape_passed, sewing_shape, sewing_short, sewing_entries}
use Rattle.maps.proofs.judge_shape.Goals as goal

pub returns-then-not-has_dimension : goal.returns-then-not-has_dimension
returns-then-not-has_dimension c = sewing_shape _ _ 1 (omega arith) (shape_dimension _ (sym c.has_dimension.ensures ∙ c.if-not-has_dimension.true))

pub returns-then-not-has_size : goal.returns-then-not-has_size
returns-then-not-has_size c = sewing_shape _ _ 2 (omega arith) (shape_size _ (sym c.if-not-has_dimension.ensures) (sym c.if-not-has_size.ensures))

pub returns-then-table : goal.returns-then-table
returns-then-table c = sewing_shape _ _ 3 (omega arith) (shape_long _ (sym c.if-not-has_dimension.ensures) (sym c.if-not-has_size.ensures) c.if-table.true)

pub returns-then-not-has_room : goal.returns-then-not-has_room
returns-then-not-has_room c =
    sewing_short _ _ (shape_passed _ (sym c.if-not-has_dimension.ensures) (sym c.if-not-has_size.ensures) c.if-table.false) (sym c.if-not-has_room.ensures)

pub returns : goal.returns
returns c =
    (refl, sewing_entries _ _ (shape_passed _ (sym c.if-not-has_dimension.ensures) (sym c.if-not-has_size.ensures) c.if-table.false) (sym c.if-not-has_room.ensures))
