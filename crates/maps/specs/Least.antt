-- Numbers counted from 1: places of a list, the first numbers, and the least of them that passes a test.
--     nth xs p      what stands at place p of xs: 0 at place 0 and past the end
--     up_to k       1, 2, .. k
--     least k p     the least number from 1 to k that passes p, or 0 where none does
--     found_at p    the number p, or none where it is 0: what a search answers in `src/`
--     some k p      one of the numbers from 1 to k passes p
--     count k p     how many of the numbers from 1 to k pass p
-- Assumes nothing.
use Rattle.std.specs.Prelude.{ℕ, zero, suc, ◌+◌, Bool, cond, List, [], ◌∷◌, ◌++◌, eqb, ltb, get_or, Option, None, Some}

-- what stands at place p of xs, counted from 1: place 0 holds 0, and so does what lies past the end
unfoldable pub nth : List ℕ → ℕ → ℕ
nth xs p = get_or (0 ∷ xs) p 0

-- 1, 2, .. k
unfoldable pub up_to : ℕ → List ℕ
up_to zero = []
up_to (suc k) = up_to k ++ (suc k ∷ [])

-- the least number from 1 to k that passes p, or 0 where none does
unfoldable pub least : ℕ → (ℕ → Bool) → ℕ
least zero p = 0
least (suc k) p =
    let below = least k p in
    cond (ltb 0 below) below (cond (p (suc k)) (suc k) 0)

-- a number counted from 1, or none for 0
unfoldable pub found_at : ℕ → Option ℕ
found_at p = cond (eqb p 0) None (Some p)

-- one of the numbers from 1 to k passes p
unfoldable pub some : ℕ → (ℕ → Bool) → Bool
some k p = ltb 0 (least k p)

-- how many of the numbers from 1 to k pass p
unfoldable pub count : ℕ → (ℕ → Bool) → ℕ
count zero p = 0
count (suc k) p = count k p + cond (p (suc k)) 1 0
