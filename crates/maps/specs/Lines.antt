-- The display's table as data (01, "Numbers the display can show"): what a list of lines shows, and the lines of one map.
--     Line              a number, and the places that the line holds of
--     Shows ls v        v is what the lines ls show: the first line that holds, at its least place, or accepted
--     raised ls         the lines of a second map, 20 higher
--     shape_lines       1, 2 and 3
--     room_lines        4, of the output that a call is lent
--     entry_lines       5 to 8
--     map_lines         5 to 9
--     table_lines       1 to 9, for a call that is lent a table and an output; `check_lines` for the plain check
-- Position in a list ranks, never the number. Assumes nothing.
use Rattle.std.specs.Prelude.{ℕ, ◌+◌, ◌*◌, ◌≤◌, ◌<◌, ◌≡◌, List, [], ◌∷◌, ◌++◌, map, ◌⊎◌, length}
use Rattle.maps.specs.Map.{Map, IsDart, sew}
use Rattle.maps.specs.Given.{Given, place_of, map_of}
use Rattle.maps.specs.Accepted.{Path}
use Rattle.maps.specs.Verdict.{Verdict, accepted, refused}
use Rattle.maps.specs.declared.Output.{Output}
use Rattle.maps.specs.declared.Output.TheVariants.{Nothing, Word, Images}

pub record Line : Type 1 where
  pub number : ℕ
  pub Holds : ℕ → Type 0

-- a line holds of no place
abbrev pub Silent : Line → Type 0
Silent l = (p : ℕ) → ¬ l.Holds p

pub data Shows : List Line → Verdict → Type 1 where
  -- no line: accepted
  none : Shows [] accepted
  -- the first line holds of p and of no lesser place: its number, at p (0 is no line's number: it stands for accepted)
  here : {l : Line} {ls : List Line} {p : ℕ} → 1 ≤ l.number → l.Holds p → ((q : ℕ) → q < p → ¬ l.Holds q) → Shows (l ∷ ls) (refused l.number p)
  -- the first line holds of no place: what the others show
  on : {l : Line} {ls : List Line} {v : Verdict} → Silent l → Shows ls v → Shows (l ∷ ls) v

-- a line that names no place: it holds of place 0 where A does
abbrev pub plain : ℕ → Type 0 → Line
plain k A = record { number = k; Holds = λ p. (p ≡ 0) × A }

-- 01: "the second, whose refusals are 20 higher"
unfoldable pub raised : List Line → List Line
raised ls = map (λ l. record { number = 20 + l.number; Holds = l.Holds }) ls

unfoldable pub shape_lines : Given → List Line
shape_lines g =
    -- 1: "n outside 1..4"
    plain 1 ((g.n ≡ 0) ⊎ (4 < g.n))
    -- 2: "m = 0 or n·m > 1,020"
    ∷ plain 2 ((g.m ≡ 0) ⊎ (1020 < g.n * g.m))
    -- 3: "table length is not n·m"
    ∷ plain 3 (¬ (length g.table ≡ g.n * g.m))
    ∷ []

-- 4: "output shorter than n·m (signature) or m (match)"; a call that is lent none has no such line
unfoldable pub room_lines : Output → ℕ → ℕ → List Line
room_lines Nothing n m = []
room_lines (Word room) n m = plain 4 (room < n * m) ∷ []
room_lines (Images room) n m = plain 4 (room < m) ∷ []

-- βi(d) is an entry of the table
abbrev pub Entry : Map → ℕ → ℕ → Type 0
Entry M d i = IsDart M d × (1 ≤ i) × (i ≤ M.dim)

-- 5: "an entry exceeds m"
abbrev pub Exceeds : Map → ℕ → ℕ → Type 0
Exceeds M d i = M.darts < sew M i d

-- 6: "β1 gives a dart that a lower dart's β1 gives"
abbrev pub GivenBefore : Map → ℕ → ℕ → Type 0
GivenBefore M d i = (i ≡ 1) × (0 < sew M 1 d) × ((e : ℕ) × (1 ≤ e) × (e < d) × (sew M 1 e ≡ sew M 1 d))

-- 7: "βi, i ≥ 2, fails the rule above": βi(d) is not 0, and βi of it is not d
abbrev pub Unanswered : Map → ℕ → ℕ → Type 0
Unanswered M d i = (2 ≤ i) × (0 < sew M i d) × (¬ (sew M i (sew M i d) ≡ d))

-- 8: "a composition fails": for some h from 1 to j−2, e = βh(βj(d)) is not 0, and βh(βj(e)) is not d
abbrev pub Parted : Map → ℕ → ℕ → Type 0
Parted M d j = (h e : ℕ) × (1 ≤ h) × (h + 2 ≤ j) × (sew M h (sew M j d) ≡ e) × (0 < e) × (¬ (sew M h (sew M j e) ≡ d))

-- a line on entries; 02, wish 1: it holds of the place, in the dart table, of an entry that breaks its rule
abbrev pub entry_line : Map → ℕ → (Map → ℕ → ℕ → Type 0) → Line
entry_line M k Breaks = record { number = k; Holds = λ p. (d i : ℕ) × Entry M d i × (p ≡ place_of M.dim d i) × Breaks M d i }

unfoldable pub entry_lines : Map → List Line
entry_lines M = entry_line M 5 Exceeds ∷ entry_line M 6 GivenBefore ∷ entry_line M 7 Unanswered ∷ entry_line M 8 Parted ∷ []

-- 9: "not connected", of a "dart not reached"
abbrev pub reach_line : Map → Line
reach_line M = record { number = 9; Holds = λ d. IsDart M d × (¬ Path M 1 d) }

unfoldable pub map_lines : Map → List Line
map_lines M = entry_lines M ++ (reach_line M ∷ [])

-- 01: "Within one map the lower number comes first"
unfoldable pub table_lines : Output → Given → List Line
table_lines o g = shape_lines g ++ (room_lines o g.n g.m ++ map_lines (map_of g))

-- 01: "The plain check [..] never give[s] 4"
unfoldable pub check_lines : Given → List Line
check_lines g = table_lines Nothing g
