-- What the function that makes a line answers, by the types of `src/`.
--     PrintedAs     a line at the end of its array, and zeros before it
-- Assumes nothing.
use Rattle.std.specs.Prelude.{ℕ, ◌+◌, ◌≡◌, List, ◌++◌, length, replicate}
use Rattle.lister.specs.declared.line.Line.{Line}

-- the answer r is the line l
pub record PrintedAs (l : List ℕ) (r : Line) : Type 0 where
  pub begins : r.start + length l ≡ 128
  pub printed : r.bytes ≡ replicate r.start 0 ++ l
