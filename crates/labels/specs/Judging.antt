-- The judging of one dart table, for every call that takes one (01, "Numbers the display can show", 1 to 9).
--     not_reached M        the least dart that the labelling from dart 1 does not reach, or 0
--     judge_map M          5 to 9
--     table_answer o g     1 to 9, of a table and the output that the call is lent
--     check_answer g       what the plain check answers: it is lent no output, so it never gives 4
--     Judges               what `judge` answers and leaves in the arrays that it is lent
-- Assumes nothing.
use Rattle.std.specs.Prelude.{ℕ, ◌≡◌, List, [], ◌∷◌, eqb, replicate, Result}
use Rattle.maps.specs.Least.{least}
use Rattle.maps.specs.Map.{Map}
use Rattle.maps.specs.Given.{Given, map_of}
use Rattle.maps.specs.Verdict.{Verdict, at_least, in_order}
use Rattle.maps.specs.Rules.{judge_shape, judge_output, judge_entries}
use Rattle.maps.specs.Answer.{JudgedAs}
use Rattle.maps.specs.declared.Refusal.{Refusal}
use Rattle.maps.specs.declared.Output.{Output}
use Rattle.maps.specs.declared.Output.TheVariants.{Nothing}
use Rattle.labels.specs.Queue.{label_in, labelling}

-- 9: "dart not reached", the least
unfoldable pub not_reached : Map → ℕ
not_reached M =
    let q = labelling M 1 in
    least M.darts (λ d. eqb (label_in q d) 0)

unfoldable pub judge_map : Map → Verdict
judge_map M = in_order (judge_entries M ∷ at_least 9 (not_reached M) ∷ [])

-- 01: "Within one map the lower number comes first"
unfoldable pub table_answer : Output → Given → Verdict
table_answer o g = in_order (judge_shape g ∷ judge_output o g.n g.m ∷ judge_map (map_of g) ∷ [])

unfoldable pub check_answer : Given → Verdict
check_answer g = table_answer Nothing g

-- the answer of `judge`, by the types of `src/`, with the array of β0 and the room to work in that it leaves
pub record Judges (o : Output) (g : Given) (r : Result Unit Refusal) (back labels : List ℕ) : Type 0 where
  pub answer : JudgedAs (table_answer o) g r back
  pub blank : labels ≡ replicate 1020 0
