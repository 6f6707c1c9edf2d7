-- Lexicographic order by the place of the first number in which two words differ (`less` of `specs/Words.antt`).
--     before_at, less_at     v comes before w where the numbers up to a place are the same and v has the lesser number there
-- Assumes nothing.
use Prim.Native.Nat.{ℕ, zero, suc, ◌<◌}
use mathlib.Core.Path.{◌≡◌}
use mathlib.Core.Bool.{true}
use mathlib.Core.List.{List, [], ◌∷◌}
use native.Mathlib.Omega.{arith}
use lib.ListN.{length, get_or, take}
use Rattle.words.specs.Words.{less}
use Rattle.words.proofs.Order.{Before, first, rest, before_less}

-- lists that are the same have the same first number, and the same numbers after it
same_head : {x y : ℕ} {v w : List ℕ} → ◌≡◌ {A = List ℕ} (x ∷ v) (y ∷ w) → x ≡ y
same_head e = cc

same_tail : {x y : ℕ} {v w : List ℕ} → ◌≡◌ {A = List ℕ} (x ∷ v) (y ∷ w) → v ≡ w
same_tail e = cc

pub before_at : (v w : List ℕ) (p : ℕ) → p < length v → p < length w → take p v ≡ take p w → get_or v p 0 < get_or w p 0 → Before v w
before_at [] w p here there same lower = absurd (omega arith)
before_at (x ∷ v) [] p here there same lower = absurd (omega arith)
before_at (x ∷ v) (y ∷ w) zero here there same lower = first lower
before_at (x ∷ v) (y ∷ w) (suc p) here there same lower =
    rest (same_head same) (before_at v w p (omega arith) (omega arith) (same_tail same) lower)

-- at the first number in which they differ, v has the lesser
pub less_at : (v w : List ℕ) (p : ℕ) → p < length v → p < length w → take p v ≡ take p w → get_or v p 0 < get_or w p 0 → less v w ≡ true
less_at v w p here there same lower = before_less (before_at v w p here there same lower)
