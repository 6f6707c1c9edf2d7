-- A map that `src/` holds may be used: what its type says of it, taken apart.
--     usable        its table is in shape, its map accepted, and β0 of it at hand
--     map_held      the map itself
--     judged_clear, judged_check, judged_backs
--                   what the judge has passed, with whatever output, is such a map
--     placed        a dart has its place in the arrays
--     back_read     β0 of a dart, as it is read
--     row_within    a dart's row lies in the table
--     row, row_long, row_read
--                   β1 .. βn of a dart, as they are read
-- Assumes nothing.
use Prim.Native.Nat.{ℕ, suc, ◌+◌, ◌-◌, ◌*◌, ◌≤◌, ◌<◌}
use mathlib.Core.Path.{◌≡◌, refl, sym, ap, ◌∙◌}
use mathlib.Core.Bool.{true}
use mathlib.Core.List.{List}
use native.Mathlib.Omega.{arith}
use native.Mathlib.Nat.{mul_comm, mul-le-mul_right, suc-mul}
use lib.ListN.{length, get_or, take, drop, length-drop}
use lib.Seq.{get_or-take, length-take-le}
use Rattle.std.proofs.lemmas.List.{get_or-drop}
use Rattle.std.specs.Prelude.{Ok}
use Rattle.maps.specs.Map as maps
use Rattle.maps.specs.Map.{IsDart, sew}
use Rattle.maps.specs.Accepted.{Accepted}
use Rattle.maps.specs.Given.{Given, map_of, Shaped}
use Rattle.maps.specs.Verdict.{accepted, accepts}
use Rattle.maps.specs.Answer.{backs_of}
use Rattle.maps.specs.Shown.{given}
use Rattle.maps.specs.Rules.{judge_output}
use Rattle.maps.specs.declared.Output.{Output}
use Rattle.maps.specs.declared.Output.TheVariants as output
use Rattle.maps.proofs.Accepted.{darts_most}
use Rattle.maps.proofs.Given.{row_sew}
use Rattle.maps.proofs.Answer.{backs_sew}
use Rattle.labels.specs.Judging.{table_answer, check_answer, Judges}
use Rattle.labels.proofs.Judging.{table_clear, clear_table, table_whole}
use Rattle.words.specs.declared.map.Map.{Map}

-- a table that the judge has passed, and β0 as it leaves it
pub record Usable (g : Given) (back : List ℕ) : Type 0 where
  pub shaped : Shaped g
  pub taken : Accepted (map_of g)
  pub backs : back ≡ backs_of (map_of g)

pub usable : (map : Map) → Usable (given map.table) map.back.now
unfolding check_answer
usable map =
    let c = table_clear output.Nothing (given map.table) (table_whole output.Nothing (given map.table) map.accepted) in
    record { shaped = c.1; taken = c.2; backs = map.backs }

abbrev pub map_held : Map → maps.Map
map_held map = map_of (given map.table)

module _ (map : Map) where
  few : map.table.m ≤ 1020
  few = darts_most (usable map).shaped.bounds

  module _ (x : ℕ) (dart : IsDart (map_held map) x) where
    pub placed : (1 ≤ x) × (x ≤ 1020)
    unfolding map_of
    placed = (dart.0, omega (arith, dart.1, few))

    pub back_read : get_or map.back.now (x - 1) 0 ≡ sew (map_held map) 0 x
    back_read = ap (λ (l : List ℕ). get_or l (x - 1) 0) (usable map).backs ∙ backs_sew (map_held map) x dart placed.1

    pub row_within : (x - 1) * map.table.n + map.table.n ≤ length map.table.numbers.now
    unfolding map_of
    row_within =
        let back : suc (x - 1) ≡ x = omega (arith, dart.0) in
        let row : suc (x - 1) * map.table.n ≤ map.table.m * map.table.n = mul-le-mul_right map.table.n (omega (arith, dart.1, back)) in
        omega (arith, row, suc-mul (x - 1) map.table.n, mul_comm map.table.m map.table.n, (usable map).shaped.long)

    pub row_few : (x - 1) * map.table.n + map.table.n ≤ 1020
    unfolding map_of
    row_few = omega (arith, row_within, (usable map).shaped.long, (usable map).shaped.bounds.table_most)

    -- the row as it is cut out of the table
    abbrev pub row : List ℕ
    row = take ((x - 1) * map.table.n + map.table.n - (x - 1) * map.table.n) (drop ((x - 1) * map.table.n) map.table.numbers.now)

    pub row_long : length row ≡ map.table.n
    row_long =
        let numbers = map.table.numbers.now in
        let from = (x - 1) * map.table.n in
        length-take-le (from + map.table.n - from) (drop from numbers) (omega (arith, length-drop from numbers, row_within)) ∙ (let all : from + map.table.n - from ≡ map.table.n = omega arith in all)

    pub row_read : (i : ℕ) → i < map.table.n → get_or row i 0 ≡ sew (map_held map) (suc i) x
    row_read i below =
        get_or-take ((x - 1) * map.table.n + map.table.n - (x - 1) * map.table.n) (drop ((x - 1) * map.table.n) map.table.numbers.now) i 0 (omega arith)
        ∙ get_or-drop ((x - 1) * map.table.n) map.table.numbers.now i 0
        ∙ row_sew (usable map).shaped x i dart below

-- what the judge has passed, with whatever output, is such a map
module _ {o : Output} {g : Given} {u : Unit} {back labels : List ℕ} (j : Judges o g (Ok u) back labels) where
  judged_passed : table_answer o g ≡ accepted
  judged_passed = sym j.answer.verdict

  pub judged_clear : (judge_output o g.n g.m ≡ accepted) × Shaped g × Accepted (map_of g)
  judged_clear = table_clear o g judged_passed

  pub judged_check : accepts (check_answer g) ≡ true
  unfolding check_answer judge_output accepts accepted
  judged_check = rw (clear_table output.Nothing g refl judged_clear.1.long judged_clear.2) refl

  pub judged_backs : back ≡ backs_of (map_of g)
  unfolding accepts accepted
  judged_backs = j.answer.backs ∙ rw judged_passed refl
