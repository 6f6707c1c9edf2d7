-- What the judging of a handed-in list means, as statements.
--     JudgeAccepts     it accepts exactly when the list is a matching, of two tables that the check accepts
--     JudgeShows       its answer is what its lines show
--     JudgeNumbers     it never gives 4 or 24
-- Assumes nothing.
use Rattle.std.specs.Prelude.{ℕ, ◌≡◌, List, ◌↔◌}
use Rattle.maps.specs.Matching.{Matching}
use Rattle.maps.specs.Given.{Given, map_of}
use Rattle.maps.specs.Verdict.{accepted}
use Rattle.maps.specs.Lines.{Shows}
use Rattle.labels.specs.Judging.{check_answer}
use Rattle.matches.specs.Judge.{judge_answer, judge_lines}

unfoldable pub JudgeAccepts : Type 0
JudgeAccepts =
    (a b : Given) (f : List ℕ)
    → (judge_answer a b f ≡ accepted) ↔ (check_answer a ≡ accepted) × (check_answer b ≡ accepted) × Matching (map_of a) (map_of b) f

unfoldable pub JudgeShows : Type 1
JudgeShows = (a b : Given) (f : List ℕ) → Shows (judge_lines a b f) (judge_answer a b f)

unfoldable pub JudgeNumbers : Type 0
JudgeNumbers = (a b : Given) (f : List ℕ) → (¬ ((judge_answer a b f).number ≡ 4)) × (¬ ((judge_answer a b f).number ≡ 24))
