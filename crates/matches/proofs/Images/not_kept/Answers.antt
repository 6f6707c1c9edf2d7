-- The image of a dart is one, and the rows of both are as long as there are sewings.
use Rattle.std.proofs.Common.{◌+◌, sym, ap, ◌∙◌, arith}
use Rattle.maps.specs.Given.{map_of}
use Rattle.maps.specs.Shown.{given}
use Rattle.maps.specs.Map.{sew}
use Rattle.matches.proofs.Inside.{parts_read}
use Rattle.matches.proofs.Images.not_kept.Goals as goal

pub row_of-image_row-requires-clause-dart : goal.row_of-image_row-requires-clause-dart
row_of-image_row-requires-clause-dart c =
    let image = c.args.self.to_darts c.args.d c.requires.0 c.requires.1 in
    (omega (arith, c.image.ensures), omega (arith, c.image.ensures, c.args.self.pair.same_darts))

pub returns : goal.returns
unfolding map_of
returns c =
    let pair = c.args.self.pair in
    c.differ.ensures
    ∙ parts_read (map_of (given pair.first)) (map_of (given pair.second)) c.args.self.list.now c.row_of-row.result.now c.row_of-image_row.result.now c.args.d
    c.row_of-row.ensures.long (c.row_of-image_row.ensures.long ∙ sym pair.same_dim) c.row_of-row.ensures.sewn
    (λ i below. c.row_of-image_row.ensures.sewn i (omega (arith, pair.same_dim)) ∙ ap (sew (map_of (given pair.second)) (i + 1)) c.image.ensures)
