-- Numbers taken to as many numbers, no two to one: `none_missed`, each of them is met.
-- Assumes nothing.
use Prim.Native.Nat.{ℕ, suc, ◌≤◌}
use mathlib.Core.Path.{◌≡◌, sym, ◌∙◌}
use mathlib.Core.Bool.{Bool, true, false, cond}
use native.Mathlib.Omega.{arith}
use borrow.Author.Tests.{eqb-true, eqb-false}
use lib.Dec.{eqb}
use Rattle.maps.specs.Least.{least, some}
use Rattle.maps.proofs.Least.{Tested, passes, fails, tested, Found, some_found, some_misses}
use Rattle.labels.proofs.Pigeonhole.{OneToOne, pigeonhole}

-- a number that f misses could be the image of one number more
module _ (f : ℕ → ℕ) (m e : ℕ) (o : OneToOne f m m) (low : 1 ≤ e) (high : e ≤ m) where
  more : ℕ → ℕ
  more k = cond (eqb k (suc m)) e (f k)

  more_last : (k : ℕ) → eqb k (suc m) ≡ true → more k ≡ e
  unfolding more
  more_last k is = simp is

  more_before : (k : ℕ) → eqb k (suc m) ≡ false → more k ≡ f k
  unfolding more
  more_before k is = simp is

  before : (k : ℕ) → k ≤ suc m → eqb k (suc m) ≡ false → k ≤ m
  before k most is = let other : ¬ (k ≡ suc m) = eqb-false k (suc m) is in omega arith

  more_one_to_one : ((k : ℕ) → 1 ≤ k → k ≤ m → ¬ (f k ≡ e)) → OneToOne more (suc m) m
  more_one_to_one missed = record { within = within; apart = apart }
    where
      within : (k : ℕ) → 1 ≤ k → k ≤ suc m → (1 ≤ more k) × (more k ≤ m)
      within k one most = at (tested (eqb k (suc m)))
        where
          at : Tested (eqb k (suc m)) → (1 ≤ more k) × (more k ≤ m)
          at (passes is) = rw (more_last k is) (low, high)
          at (fails is) = rw (more_before k is) (o.within k one (before k most is))

      apart : (j k : ℕ) → 1 ≤ j → j ≤ suc m → 1 ≤ k → k ≤ suc m → more j ≡ more k → j ≡ k
      apart j k one-j most-j one-k most-k same = at (tested (eqb j (suc m))) (tested (eqb k (suc m)))
        where
          at : Tested (eqb j (suc m)) → Tested (eqb k (suc m)) → j ≡ k
          at (passes is) (passes is') = eqb-true j (suc m) is ∙ sym (eqb-true k (suc m) is')
          at (passes is) (fails is') = absurd (missed k one-k (before k most-k is') (sym (more_before k is') ∙ sym same ∙ more_last j is))
          at (fails is) (passes is') = absurd (missed j one-j (before j most-j is) (sym (more_before j is) ∙ same ∙ more_last k is'))
          at (fails is) (fails is') =
              o.apart j k one-j (before j most-j is) one-k (before k most-k is') (sym (more_before j is) ∙ same ∙ more_before k is')

  -- so f misses none
  pub none_missed : (d : ℕ) × (1 ≤ d) × (d ≤ m) × (f d ≡ e)
  none_missed = at (tested (some m hits))
    where
      hits : ℕ → Bool
      hits d = eqb (f d) e

      at : Tested (some m hits) → (d : ℕ) × (1 ≤ d) × (d ≤ m) × (f d ≡ e)
      at (passes is) =
          let d = least m hits in
          let found : Found hits m d = some_found hits m is in
          (d, found.low, found.high, eqb-true (f d) e found.hit)
      at (fails is) =
          let fewer : suc m ≤ m =
          pigeonhole more (suc m) m (more_one_to_one (λ k one most. eqb-false (f k) e (some_misses hits m is k one most))) in
          absurd (omega arith)
