-- What the display shows: a number and a place (01, "Numbers the display can show").
--     Verdict          a number and a place: 0 and 0 for accepted
--     unless b k p     accepted where the test b passes, else number k at place p
--     at_least k p     accepted where p is 0, else number k at place p
--     in_order vs      the first of the verdicts that refuses
--     of_second v      v as a verdict on a second map
-- Assumes nothing.
use Rattle.std.specs.Prelude.{ℕ, ◌+◌, Bool, cond, List, [], ◌∷◌, eqb}

pub record Verdict : Type 0 where
  pub number : ℕ
  pub place : ℕ

unfoldable pub accepted : Verdict
accepted = record { number = 0; place = 0 }

unfoldable pub refused : ℕ → ℕ → Verdict
refused k p = record { number = k; place = p }

unfoldable pub accepts : Verdict → Bool
accepts v = eqb v.number 0

-- accepted where the test passes, else number k at place p
unfoldable pub unless : Bool → ℕ → ℕ → Verdict
unless b k p = cond b accepted (refused k p)

-- 01: "The place is always the least one": p is the least wrong place, or 0 where there is none
unfoldable pub at_least : ℕ → ℕ → Verdict
at_least k p = unless (eqb p 0) k p

-- 01: "the lower number comes first", "in these orders"
unfoldable pub in_order : List Verdict → Verdict
in_order [] = accepted
in_order (v ∷ vs) = cond (accepts v) (in_order vs) v

-- 01: "the second, whose refusals are 20 higher"
unfoldable pub of_second : Verdict → Verdict
of_second v = cond (accepts v) accepted (refused (20 + v.number) v.place)
