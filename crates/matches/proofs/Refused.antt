-- Refusals of the match and of the judging of a list, computed: each number that they can give, and cases that a wrong definition
-- would answer otherwise. Assumes nothing.
use Prim.Native.Nat.{ℕ, ◌+◌}
use mathlib.Core.Bool.{Bool, true, ◌&&◌}
use mathlib.Core.List.{List, [], ◌∷◌, map}
use lib.Dec.{T}
use Rattle.maps.specs.Given.{Given, lent}
use Rattle.maps.specs.Verdict.{Verdict}
use Rattle.words.specs.Match.{match_answer}
use Rattle.words.proofs.Opened.{opened}
use Rattle.matches.specs.Judge.{bad_image, parts, judge_answer}
use Rattle.matches.specs.Bench.{gives}

-- an answer, with the number and place that it must have
record Answered : Type 0 where
  answer : Verdict
  number : ℕ
  place : ℕ

abbrev is : Verdict → ℕ → ℕ → Answered
is v k p = record { answer = v; number = k; place = p }

abbrev all : List Answered → Bool
all [] = true
all (a ∷ rest) = gives a.answer a.number a.place && all rest

-- an open chain of two darts, an unsewn dart, and a dart sewn to itself
abbrev chain : Given
chain = lent 1 2 (2 ∷ 0 ∷ [])

abbrev alone : Given
alone = lent 1 1 (0 ∷ [])

abbrev looped : Given
looped = lent 1 1 (1 ∷ [])

-- a ring of three darts, and one whose last dart is 2-sewn to itself
abbrev ring : Given
ring = lent 2 3 (2 ∷ 0 ∷ 3 ∷ 0 ∷ 1 ∷ 0 ∷ [])

abbrev marked : Given
marked = lent 2 3 (2 ∷ 0 ∷ 3 ∷ 0 ∷ 1 ∷ 3 ∷ [])

-- what the plain check refuses, with its number and place
record Faulty : Type 0 where
  given : Given
  number : ℕ
  place : ℕ

abbrev faulty : Given → ℕ → ℕ → Faulty
faulty g k p = record { given = g; number = k; place = p }

abbrev faults : List Faulty
faults =
    faulty (lent 0 1 []) 1 0
    ∷ faulty (lent 5 1 (0 ∷ 0 ∷ 0 ∷ 0 ∷ 0 ∷ [])) 1 0
    ∷ faulty (lent 1 0 []) 2 0
    ∷ faulty (lent 1 1 (1 ∷ 1 ∷ [])) 3 0
    ∷ faulty (lent 1 2 (2 ∷ 3 ∷ [])) 5 2
    ∷ faulty (lent 2 2 (0 ∷ 0 ∷ 0 ∷ 3 ∷ [])) 5 4
    ∷ faulty (lent 1 2 (1 ∷ 1 ∷ [])) 6 2
    ∷ faulty (lent 2 2 (1 ∷ 0 ∷ 1 ∷ 0 ∷ [])) 6 3
    ∷ faulty (lent 2 2 (0 ∷ 2 ∷ 0 ∷ 0 ∷ [])) 7 2
    ∷ faulty (lent 2 2 (0 ∷ 0 ∷ 0 ∷ 1 ∷ [])) 7 4
    ∷ faulty (lent 3 3 (0 ∷ 0 ∷ 2 ∷ 3 ∷ 0 ∷ 1 ∷ 0 ∷ 0 ∷ 0 ∷ [])) 8 3
    ∷ faulty (lent 4 3 (0 ∷ 0 ∷ 0 ∷ 2 ∷ 0 ∷ 3 ∷ 0 ∷ 1 ∷ 0 ∷ 2 ∷ 0 ∷ 0 ∷ [])) 8 4
    ∷ faulty (lent 1 2 (1 ∷ 2 ∷ [])) 9 2
    ∷ faulty (lent 2 2 (1 ∷ 0 ∷ 2 ∷ 0 ∷ [])) 9 2
    ∷ []

-- 1 to 9 of the first map, whatever the second, and 21 to 29 of the second: for the match, with room for every image, and for a list
abbrev matches : List Answered
matches =
    is (match_answer chain alone 1) 4 0
    ∷ is (match_answer (lent 1 2 (1 ∷ 1 ∷ [])) alone 1) 4 0
    ∷ is (match_answer alone chain 1) 10 0
    ∷ is (match_answer alone looped 1) 10 0
    ∷ is (match_answer chain (lent 1 2 (0 ∷ 1 ∷ [])) 2) 0 0
    ∷ []

abbrev lists : List Answered
lists =
    is (judge_answer chain alone (1 ∷ 2 ∷ [])) 10 0
    ∷ is (judge_answer chain alone []) 10 0
    ∷ is (judge_answer chain chain (1 ∷ [])) 11 0
    ∷ is (judge_answer chain chain (1 ∷ 2 ∷ 0 ∷ [])) 11 0
    ∷ is (judge_answer chain chain (1 ∷ 0 ∷ [])) 11 2
    ∷ is (judge_answer chain chain (3 ∷ 1 ∷ [])) 11 1
    ∷ is (judge_answer chain chain (2 ∷ 2 ∷ [])) 11 2
    ∷ is (judge_answer ring ring (1 ∷ 2 ∷ 2 ∷ [])) 11 3
    ∷ is (judge_answer chain chain (2 ∷ 1 ∷ [])) 12 1
    ∷ is (judge_answer ring marked (1 ∷ 2 ∷ 3 ∷ [])) 12 3
    ∷ is (judge_answer alone looped (1 ∷ [])) 12 1
    ∷ is (judge_answer looped alone (1 ∷ [])) 12 1
    ∷ is (judge_answer chain chain (1 ∷ 2 ∷ [])) 0 0
    ∷ []

pub matches_refused : T (all matches)
unfolding opened gives
matches_refused = tt

pub first_refused : T (all (map (λ f. is (match_answer f.given looped 9) f.number f.place) faults))
unfolding opened gives
first_refused = tt

pub second_refused : T (all (map (λ f. is (match_answer looped f.given 9) (20 + f.number) f.place) faults))
unfolding opened gives
second_refused = tt

pub lists_refused : T (all lists)
unfolding opened gives bad_image parts judge_answer
lists_refused = tt

pub list_first_refused : T (all (map (λ f. is (judge_answer f.given looped []) f.number f.place) faults))
unfolding opened gives bad_image parts judge_answer
list_first_refused = tt

pub list_second_refused : T (all (map (λ f. is (judge_answer looped f.given []) (20 + f.number) f.place) faults))
unfolding opened gives bad_image parts judge_answer
list_second_refused = tt
