-- What the match answers and what it leaves in its output, for every input (01, "Labels, words, signature", "Matching").
--     image_of_first M M'   the least dart of M' whose word is M's word from dart 1, or 0
--     shown M M'            the matching shown: dart 1 goes there, and labels are kept
--     judge_pair            10 where n or m differ
--     judge_matching        10 where there is no matching
--     match_answer          number and place
--     match_output          the output's contents afterwards
--     shown_mismatch, match_verdict
--                           what the display shows of an answer of `src/`
--     MatchesAs             what `match_maps` answers and leaves in its output
--     match_lines           the lines of the display's table that it can show, in their order
-- Assumes nothing.
use Rattle.std.specs.Prelude.{ℕ, ◌+◌, ◌≡◌, cond, ◌&&◌, List, [], ◌∷◌, ◌++◌, ◌⊎◌, eqb, ltb, length, Result, Ok, Err}
use Rattle.maps.specs.Least.{least}
use Rattle.maps.specs.Map.{Map}
use Rattle.maps.specs.Matching.{Matched}
use Rattle.maps.specs.Given.{Given, map_of}
use Rattle.maps.specs.Verdict.{Verdict, accepted, refused, accepts, unless, in_order, of_second}
use Rattle.maps.specs.Lines.{Line, plain, raised, table_lines, check_lines}
use Rattle.maps.specs.Shown.{shown_refusal}
use Rattle.maps.specs.declared.Output.TheVariants.{Images}
use Rattle.labels.specs.Judging.{table_answer, check_answer}
use Rattle.words.specs.Words.{word, yields, by_labels}
use Rattle.words.specs.Sign.{over}
use Rattle.words.specs.declared.matching.Mismatch.{Mismatch}
use Rattle.words.specs.declared.matching.Mismatch.TheVariants.{First, Second, Unmatched}

-- 01: "the least dart e of the second map whose word equals the first map's word from dart 1"
unfoldable pub image_of_first : Map → Map → ℕ
image_of_first M M' =
    let w = word M 1 in
    least M'.darts (yields M' w)

-- the images of the darts 1 to m: the dart labelled k from dart 1 goes to the dart labelled k from the image of dart 1
unfoldable pub shown : Map → Map → List ℕ
shown M M' = by_labels M 1 M' (image_of_first M M')

-- 10: "n or m differ"
unfoldable pub judge_pair : Given → Given → Verdict
judge_pair a b = unless (eqb a.n b.n && eqb a.m b.m) 10 0

-- 10: "or no matching"
unfoldable pub judge_matching : Map → Map → Verdict
judge_matching M M' = unless (ltb 0 (image_of_first M M')) 10 0

-- 01: "judge the first map, then the second"; "the output is judged with the first map, against its m"
unfoldable pub match_answer : Given → Given → ℕ → Verdict
match_answer a b room =
    in_order
    (table_answer (Images room) a
    ∷ of_second (check_answer b)
    ∷ judge_pair a b
    ∷ judge_matching (map_of a) (map_of b)
    ∷ [])

-- 01: "Every refusal leaves all lent buffers with the contents they had"; "writes the first [..] m numbers [..] and nothing beyond"
unfoldable pub match_output : Given → Given → List ℕ → List ℕ
match_output a b out =
    cond (accepts (match_answer a b (length out)))
    (over (shown (map_of a) (map_of b)) out)
    out

-- what the display shows of a mismatch: "the second, whose refusals are 20 higher"
abbrev pub shown_mismatch : Mismatch → Verdict
shown_mismatch (First r) = shown_refusal r
shown_mismatch (Second r) = refused (20 + (shown_refusal r).number) (shown_refusal r).place
shown_mismatch Unmatched = refused 10 0

-- and of an answer
abbrev pub match_verdict : Result Unit Mismatch → Verdict
match_verdict (Ok _) = accepted
match_verdict (Err e) = shown_mismatch e

-- the answer r, and `after` in the output that held `before`
pub record MatchesAs (a b : Given) (before : List ℕ) (r : Result Unit Mismatch) (after : List ℕ) : Type 0 where
  pub answer : match_verdict r ≡ match_answer a b (length before)
  pub written : after ≡ match_output a b before

-- n or m differ
abbrev pub Unlike : Given → Given → Type 0
Unlike a b = (¬ (a.n ≡ b.n)) ⊎ (¬ (a.m ≡ b.m))

unfoldable pub match_lines : Given → Given → ℕ → List Line
match_lines a b room =
    table_lines (Images room) a
    ++ (raised (check_lines b)
    -- 10: "n or m differ, or no matching"
    ++ (plain 10 (Unlike a b ⊎ (¬ Matched (map_of a) (map_of b))) ∷ []))
