-- `words::first_row::rank` meets its contract: the sewings are read off the table and the array of β0.
use Rattle.std.proofs.Common.{◌≡◌, not, eqb, ap, ap₂, ◌∙◌, arith}
use Rattle.std.proofs.lemmas.Bool.{le-ltb}
use Rattle.maps.specs.Map.{sew}
use Rattle.maps.specs.Given.{map_of}
use Rattle.maps.specs.Shown.{given}
use Rattle.maps.proofs.Map.{sew_high}
use Rattle.words.specs.FirstRow.{first_label}
use Rattle.words.proofs.FirstRow.{rank_read}
use Rattle.words.proofs.Usable.{usable, placed, back_read}
use Rattle.words.proofs.first_row.rank.Goals as goal
use Rattle.words.proofs.first_row.rank.Goals.{then-map-gt1, else-map-gt1}

pub offset_bounds-map-d : goal.offset_bounds-map-d
offset_bounds-map-d c = let p = placed c.args.map c.args.d c.requires in omega arith

pub bounds-map-d : goal.bounds-map-d
bounds-map-d c = let p = placed c.args.map c.args.d c.requires in omega arith

pub sewn-requires-clause-sewing : goal.sewn-requires-clause-sewing
sewn-requires-clause-sewing c = (omega arith, (usable c.args.map).shaped.bounds.dim_least)

-- whether the dart is 2-sewn: beyond the dimension nothing is
second : (c : goal.After-from-2) → c.if-map-gt1.second ≡ not (eqb (sew (map_of (given c.args.map.table)) 2 c.args.d) 0)
unfolding map_of
second c = elim c.if-map-gt1.branch [
  | then-map-gt1 w ↦ w.second-is ∙ ap (λ x. not (eqb x 0)) w.sewn-then-map-gt1.ensures
  | else-map-gt1 w ↦
      let none : sew (map_of (given c.args.map.table)) 2 c.args.d ≡ 0 = sew_high (map_of (given c.args.map.table)) 2 c.args.d (omega (arith, w.if-map-gt1.false)) in
      rw none (w.second-is ∙ le-ltb 1 _ w.if-map-gt1.false)
]

pub returns : goal.returns
returns c =
    let first = c.first_label-first.ensures.is ∙ ap₂ (first_label c.args.d) (c.from.ensures ∙ back_read c.args.map c.args.d c.requires) c.sewn.ensures in
    rw c.from-2.ensures (rank_read _ _ _ _ first (second c))
