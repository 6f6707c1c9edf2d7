-- How far the input is read, and what each part of the program makes of it.
--     all_read p       how many bytes were read
--     Counted p        one more record can be counted
--     Added p k q      q is k bytes further than p
--     Stepped p s      what one reading from p may give
--     Status s         the two statuses with which the program ends
-- Assumes nothing.
use Rattle.std.specs.Prelude.{ℕ, ◌+◌, ◌*◌, ◌≤◌, ◌<◌, ◌≡◌, ◌⊎◌, ℤ, pos, Option, Some, None, Result, Ok, Err}
use Rattle.layouts.specs.declared.progress.Progress.{Progress}
use Rattle.layouts.specs.declared.fault.Fault.{Fault}

-- whole records, and the bytes of the next
abbrev pub all_read : Progress → ℕ
all_read p = p.records * 2048 + p.bytes

-- below 2⁶⁴ - 1, the last number of a `usize`
abbrev pub Counted : Progress → Type 0
Counted p = p.records < 18446744073709551615

-- the equation and the bound leave no second q
pub record Added (p : Progress) (k : ℕ) (q : Progress) : Type 0 where
  pub reads : all_read q ≡ all_read p + k
  pub lacks : q.bytes < 2048

-- a step reads at least one byte, and none behind the record under way
abbrev pub Stepped : Progress → Result (Option Progress) Fault → Type 0
Stepped p (Ok (Some q)) = (all_read p < all_read q) × ((all_read q ≤ p.records * 2048 + 2048) × (q.bytes < 2048))
Stepped p (Ok None) = Unit
Stepped p (Err f) = Unit

-- 0 or 1: which of them, no contract says
abbrev pub Status : ℤ → Type 0
Status s = (s ≡ pos 0) ⊎ (s ≡ pos 1)
