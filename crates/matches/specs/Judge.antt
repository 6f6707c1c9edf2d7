-- What the judging of a handed-in list answers, for every input (01, "Numbers the display can show", 10 to 12).
--     bad_image m f      the first dart whose value in the list f is 0, above m or used before, or 0
--     parts M M' f d     some βi, i from 1 to n, of dart d is not kept by f, sewn or unsewn
--     judge_answer       number and place
--     judge_lines        the lines of the display's table that it can show, in their order
-- Assumes nothing.
use Rattle.std.specs.Prelude.{ℕ, ◌-◌, ◌≤◌, ◌<◌, ◌≡◌, Bool, not, ◌||◌, List, [], ◌∷◌, ◌++◌, ◌⊎◌, eqb, ltb, length}
use Rattle.maps.specs.Least.{nth, least, some}
use Rattle.maps.specs.Map.{Map, IsDart, sew}
use Rattle.maps.specs.Given.{Given, map_of}
use Rattle.maps.specs.Verdict.{Verdict, unless, at_least, in_order, of_second}
use Rattle.maps.specs.Lines.{Line, plain, raised, check_lines}
use Rattle.labels.specs.Judging.{check_answer}
use Rattle.words.specs.Match.{judge_pair, Unlike}

-- 11: "first dart whose value is 0, above m or used before"
unfoldable pub bad_image : ℕ → List ℕ → ℕ
bad_image m f =
    least m (λ d. eqb (nth f d) 0 || ltb m (nth f d) || some (d - 1) (λ e. eqb (nth f e) (nth f d)))

-- 12: "fails the matching rule above, sewn or unsewn"; f(0) = 0 is `nth`'s
unfoldable pub parts : Map → Map → List ℕ → ℕ → Bool
parts M M' f d = some M.dim (λ i. not (eqb (nth f (sew M i d)) (sew M' i (nth f d))))

-- 01: "Then come 10, 11, 12; for a proposed list, 10 is given only where n or m differ"
unfoldable pub judge_answer : Given → Given → List ℕ → Verdict
judge_answer a b f =
    in_order
    (check_answer a
    ∷ of_second (check_answer b)
    ∷ judge_pair a b
    ∷ unless (eqb (length f) a.m) 11 0
    ∷ at_least 11 (bad_image a.m f)
    ∷ at_least 12 (least a.m (parts (map_of a) (map_of b) f))
    ∷ [])

-- the value of dart d is 0, above m or used before
abbrev pub BadImage : ℕ → List ℕ → ℕ → Type 0
BadImage m f d = (nth f d ≡ 0) ⊎ (m < nth f d) ⊎ ((e : ℕ) × (1 ≤ e) × (e < d) × (nth f e ≡ nth f d))

-- some βi of dart d is not kept
abbrev pub NotKept : Map → Map → List ℕ → ℕ → Type 0
NotKept M M' f d = (i : ℕ) × (1 ≤ i) × (i ≤ M.dim) × (¬ (nth f (sew M i d) ≡ sew M' i (nth f d)))

unfoldable pub judge_lines : Given → Given → List ℕ → List Line
judge_lines a b f =
    check_lines a
    ++ (raised (check_lines b)
    -- 10: "n or m differ"
    ++ (plain 10 (Unlike a b)
    -- 11: "length other than m, or isn't one-to-one onto 1..m": place "0 for length, else first dart whose value is" wrong
    ∷ record { number = 11; Holds = λ d. ((d ≡ 0) × (¬ (length f ≡ a.m))) ⊎ (IsDart (map_of a) d × BadImage a.m f d) }
    -- 12: "fails the matching rule above, sewn or unsewn"
    ∷ record { number = 12; Holds = λ d. IsDart (map_of a) d × NotKept (map_of a) (map_of b) f d }
    ∷ []))
