-- The laws of `specs/Given.antt`: where an entry of a dart table lies, and that the map is read there.
--     in_table       the place of an entry is inside the table
--     table_sew      βi(d) is read at index (d − 1)·n + (i − 1)
--     sewn_inside    what a dart is sewn to has a place in an array of 1,020
--     in_row, row_sew     the same along a row, the sewing counted from 0
-- Assumes nothing.
use Prim.Native.Nat.{ℕ, suc, ◌+◌, ◌-◌, ◌*◌, ◌≤◌, ◌<◌}
use mathlib.Core.Path.{◌≡◌, sym, ap, ◌∙◌}
use native.Mathlib.Omega.{arith}
use native.Mathlib.Nat.{mul-le-mul_right, mul_comm}
use lib.ListN.{length, get_or}
use Rattle.maps.specs.Least.{nth}
use Rattle.maps.specs.Map.{IsDart, sew}
use Rattle.maps.specs.Given.{Given, place_of, map_of, Shaped}
use Rattle.maps.proofs.Least.{nth_one_more}
use Rattle.maps.specs.Accepted.{ToDarts}
use Rattle.maps.proofs.Map.{sew_beta}
use Rattle.maps.proofs.Accepted.{darts_most}

module _ {g : Given} (s : Shaped g) where
  pub in_table : (d i : ℕ) → 1 ≤ d → d ≤ g.m → 1 ≤ i → i ≤ g.n → (d - 1) * g.n + (i - 1) < length g.table
  in_table d i dl dh il ih =
      let row : suc (d - 1) * g.n ≤ g.m * g.n = mul-le-mul_right g.n (omega arith) in
      omega (arith, s.long, mul_comm g.m g.n)

  pub table_sew : (d i : ℕ) → 1 ≤ d → d ≤ g.m → 1 ≤ i → i ≤ g.n → sew (map_of g) i d ≡ get_or g.table ((d - 1) * g.n + (i - 1)) 0
  unfolding map_of place_of
  table_sew d i dl dh il ih =
      let e : (d - 1) * g.n + i ≡ (d - 1) * g.n + (i - 1) + 1 = omega arith in
      sew_beta (map_of g) i d (dl, dh) il ih ∙ ap (nth g.table) e ∙ nth_one_more g.table ((d - 1) * g.n + (i - 1))

  -- what a dart is sewn to has a place in an array of 1,020
  pub sewn_inside : ToDarts (map_of g) → (i d : ℕ) {x : ℕ} → x ≡ sew (map_of g) i d → x ≤ 1020
  unfolding map_of
  sewn_inside within i d is = omega (arith, within i d, darts_most s.bounds)

  -- the same along a dart's row, the sewing counted from 0
  pub in_row : (d i : ℕ) → IsDart (map_of g) d → i < g.n → (d - 1) * g.n + i < length g.table
  unfolding map_of
  in_row d i dart below = omega (arith, in_table d (suc i) dart.0 dart.1 (omega arith) below)

  pub row_sew : (d i : ℕ) → IsDart (map_of g) d → i < g.n → get_or g.table ((d - 1) * g.n + i) 0 ≡ sew (map_of g) (suc i) d
  unfolding map_of
  row_sew d i dart below =
      let less : suc i - 1 ≡ i = omega arith in
      rw less at (sym (table_sew d (suc i) dart.0 dart.1 (omega arith) below))
