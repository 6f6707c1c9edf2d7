-- The lines of the display's table that the calls on a drawer can show, in their order (01, numbers 13 to 18), and what they
-- say of the answers.
--     Bad D k                   record k is bad, in the words of document 01
--     drawer_lines              the drawer check
--     search_lines              search
--     filing_lines              filing
--     DrawerShows, SearchShows, FilingShows
--                               the answer of each call is what its lines show
--     SearchNumbers, FilingNumbers
--                               search and filing never give 4
-- Assumes nothing.
use Rattle.std.specs.Prelude.{ℕ, ◌+◌, ◌*◌, ◌≤◌, ◌<◌, ◌≡◌, List, [], ◌∷◌, ◌++◌, ◌⊎◌, length}
use Rattle.maps.specs.Least.{nth}
use Rattle.maps.specs.Accepted.{InBounds, Accepted}
use Rattle.maps.specs.Given.{Given, map_of}
use Rattle.maps.specs.Verdict.{refused}
use Rattle.maps.specs.Lines.{Line, Shows, plain, check_lines}
use Rattle.words.specs.Words.{signature}
use Rattle.drawer.specs.Record.{record_size, zero_byte_in}
use Rattle.drawer.specs.Drawer.{Drawer, most_records, record_at, entry_at, layout_of, drawer_answer, search_answer, filing_answer}

-- k is one of the records
abbrev pub IsRecord : Drawer → ℕ → Type 0
IsRecord D k = (1 ≤ k) × (k ≤ D.count)

-- n, m and word of record k
abbrev pub layout_at : Drawer → ℕ → Given
layout_at D k = (entry_at D.bytes k).layout

-- 01: "A record is bad when"
pub data Bad (D : Drawer) (k : ℕ) : Type 0 where
  -- "its die number is 0"
  no_die : (entry_at D.bytes k).die ≡ 0 → Bad D k
  -- "n or m is out of bounds"
  out_of_bounds : ¬ InBounds (layout_at D k).n (layout_at D k).m → Bad D k
  -- "the zero byte [..] isn't zero"
  zero_byte : ¬ (zero_byte_in (record_at D.bytes k) ≡ 0) → Bad D k
  -- "or filling isn't zero": a byte after the word
  filling : (p : ℕ) → 8 + 2 * ((layout_at D k).n * (layout_at D k).m) < p → ¬ (nth (record_at D.bytes k) p ≡ 0) → Bad D k
  -- "the word isn't an accepted map"
  no_map : ¬ Accepted (map_of (layout_at D k)) → Bad D k
  -- "equal to its own signature"
  other_word : ¬ ((layout_at D k).table ≡ signature (map_of (layout_at D k))) → Bad D k
  -- "its die number [..] stands in an earlier record"
  die_repeated : (j : ℕ) → 1 ≤ j → j < k → (entry_at D.bytes j).die ≡ (entry_at D.bytes k).die → Bad D k
  -- "or its layout (n, m and word)"
  layout_repeated : (j : ℕ) → 1 ≤ j → j < k → layout_at D j ≡ layout_at D k → Bad D k

unfoldable pub drawer_lines : Drawer → List Line
drawer_lines D =
    -- 13: "record count above 1,024, or its bytes exceed the lent drawer"
    plain 13 ((most_records < D.count) ⊎ (length D.bytes < D.count * record_size))
    -- 14: "a bad record"
    ∷ record { number = 14; Holds = λ k. IsRecord D k × Bad D k }
    ∷ []

-- 01: "search gives 1..9, 13, 14, 15"
unfoldable pub search_lines : Given → Drawer → List Line
search_lines g D =
    check_lines g
    ++ (drawer_lines D
    -- 15: "not found"
    ++ (plain 15 (¬ ((k : ℕ) × IsRecord D k × (layout_at D k ≡ layout_of g))) ∷ []))

-- 01: "filing gives 1..9, 13, 14, 16, 17, 18, in these orders"
unfoldable pub filing_lines : ℕ → Given → Drawer → List Line
filing_lines die g D =
    check_lines g
    ++ (drawer_lines D
    -- 16: "die number 0 or already filed", place "0, or the record"
    ++ (record { number = 16; Holds = λ k. ((k ≡ 0) × (die ≡ 0)) ⊎ (IsRecord D k × ((entry_at D.bytes k).die ≡ die)) }
    -- 17: "layout already filed"
    ∷ record { number = 17; Holds = λ k. IsRecord D k × (layout_at D k ≡ layout_of g) }
    -- 18: "count is 1,024, or the drawer has no room for one record more"
    ∷ plain 18 ((D.count ≡ most_records) ⊎ (length D.bytes < (D.count + 1) * record_size))
    ∷ []))

unfoldable pub DrawerShows : Type 1
DrawerShows = (D : Drawer) → Shows (drawer_lines D) (drawer_answer D)

unfoldable pub SearchShows : Type 1
SearchShows = (g : Given) (D : Drawer) → Shows (search_lines g D) (refused (search_answer g D).number (search_answer g D).place)

unfoldable pub FilingShows : Type 1
FilingShows = (die : ℕ) (g : Given) (D : Drawer) → Shows (filing_lines die g D) (refused (filing_answer die g D).number (filing_answer die g D).place)

unfoldable pub SearchNumbers : Type 0
SearchNumbers = (g : Given) (D : Drawer) → ¬ ((search_answer g D).number ≡ 4)

unfoldable pub FilingNumbers : Type 0
FilingNumbers = (die : ℕ) (g : Given) (D : Drawer) → ¬ ((filing_answer die g D).number ≡ 4)
