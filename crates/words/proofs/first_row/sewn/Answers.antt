-- `words::first_row::sewn` meets its contract: a sewing up to the dimension is read off the table.
use Rattle.std.proofs.Common.{◌≡◌, ◌-◌, suc, ◌∙◌, arith}
use Rattle.maps.proofs.Given.{in_row, row_sew}
use Rattle.words.proofs.Usable.{usable, row_few}
use Rattle.words.proofs.first_row.sewn.Goals as goal

pub overflow_mul-d : goal.overflow_mul-d
overflow_mul-d c = omega (arith, row_few c.args.map c.args.d c.requires.dart)

pub overflow_add-d : goal.overflow_add-d
overflow_add-d c = omega (arith, row_few c.args.map c.args.d c.requires.dart)

pub offset_bounds-map-d : goal.offset_bounds-map-d
offset_bounds-map-d c = omega (arith, row_few c.args.map c.args.d c.requires.dart)

pub bounds-map-d : goal.bounds-map-d
bounds-map-d c = in_row (usable c.args.map).shaped c.args.d (c.args.i - 1) c.requires.dart (omega arith)

pub returns : goal.returns
returns c =
    let here : suc (c.args.i - 1) ≡ c.args.i = omega arith in
    c.from.ensures ∙ rw here at (row_sew (usable c.args.map).shaped c.args.d (c.args.i - 1) c.requires.dart (omega arith))
