-- What the display showed of a wrong entry before document 02: its dart (01, column "Place" of 5 to 8).
--     dart_lines    5 to 8 as 01 has them
--     base_lines    1 to 9 as 01 has them
--     read_off n v  the verdict v with the dart in the entry's place, for a table of dimension n
-- That the base's answer is what is read off is `BaseReadOff`, in the theorems of `labels`, where 9 is judged. Assumes nothing.
use Rattle.std.specs.Prelude.{ℕ, Bool, cond, ◌&&◌, List, [], ◌∷◌, ◌++◌, leb}
use Rattle.maps.specs.Map.{Map}
use Rattle.maps.specs.Given.{Given, map_of}
use Rattle.maps.specs.Verdict.{Verdict, refused}
use Rattle.maps.specs.Lines.{Line, shape_lines, room_lines, Entry, Exceeds, GivenBefore, Unanswered, Parted, reach_line}
use Rattle.maps.specs.Rules.{dart_at}
use Rattle.maps.specs.declared.Output.{Output}

-- the line holds of the dart of an entry that breaks its rule
abbrev pub dart_line : Map → ℕ → (Map → ℕ → ℕ → Type 0) → Line
dart_line M k Breaks = record { number = k; Holds = λ d. (i : ℕ) × Entry M d i × Breaks M d i }

unfoldable pub dart_lines : Map → List Line
dart_lines M = dart_line M 5 Exceeds ∷ dart_line M 6 GivenBefore ∷ dart_line M 7 Unanswered ∷ dart_line M 8 Parted ∷ []

unfoldable pub base_lines : Output → Given → List Line
base_lines o g = shape_lines g ++ (room_lines o g.n g.m ++ (dart_lines (map_of g) ++ (reach_line (map_of g) ∷ [])))

-- 5 to 8 are about entries
unfoldable pub of_entry : ℕ → Bool
of_entry k = leb 5 k && leb k 8

unfoldable pub base_place : ℕ → ℕ → ℕ → ℕ
base_place n k p = cond (of_entry k) (dart_at n p) p

unfoldable pub read_off : ℕ → Verdict → Verdict
read_off n v = refused v.number (base_place n v.number v.place)
