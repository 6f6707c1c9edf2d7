-- Numbers taken to numbers, no two to one.
--     OneToOne f m n     f takes the numbers 1 to m to numbers 1 to n, no two of them to one
--     pigeonhole         then m is at most n
-- Assumes nothing.
use Prim.Native.Nat.{ℕ, zero, suc, ◌≤◌}
use mathlib.Core.Path.{◌≡◌, sym, ◌∙◌}
use mathlib.Core.Bool.{true, false, cond}
use native.Mathlib.Omega.{arith}
use native.Mathlib.Nat.{le_step}
use borrow.Author.Tests.{eqb-true, eqb-false}
use lib.Dec.{eqb}
use Rattle.maps.proofs.Least.{Tested, passes, fails, tested}

pub record OneToOne (f : ℕ → ℕ) (m n : ℕ) : Type 0 where
  pub within : (k : ℕ) → 1 ≤ k → k ≤ m → (1 ≤ f k) × (f k ≤ n)
  pub apart : (j k : ℕ) → 1 ≤ j → j ≤ m → 1 ≤ k → k ≤ m → f j ≡ f k → j ≡ k

-- f, but what it takes to b goes where f takes a
lowered : (ℕ → ℕ) → ℕ → ℕ → ℕ → ℕ
lowered f a b k = cond (eqb (f k) b) (f a) (f k)

lowered_hit : (f : ℕ → ℕ) (a b k : ℕ) → eqb (f k) b ≡ true → lowered f a b k ≡ f a
unfolding lowered
lowered_hit f a b k e = simp e

lowered_miss : (f : ℕ → ℕ) (a b k : ℕ) → eqb (f k) b ≡ false → lowered f a b k ≡ f k
unfolding lowered
lowered_miss f a b k e = simp e

module _ (f : ℕ → ℕ) (m n : ℕ) (o : OneToOne f (suc m) (suc n)) where
  down : ℕ → ℕ
  down k = lowered f (suc m) (suc n) k

  -- no number up to m goes where suc m goes
  last_apart : (k : ℕ) → 1 ≤ k → k ≤ m → f k ≡ f (suc m) → ⊥
  last_apart k low high e =
      let z : k ≡ suc m = o.apart k (suc m) low (le_step high) (omega arith) (omega arith) e in
      omega arith

  lowered_within : (k : ℕ) → 1 ≤ k → k ≤ m → (1 ≤ down k) × (down k ≤ n)
  unfolding down
  lowered_within k low high = at (tested (eqb (f k) (suc n)))
    where
      at : Tested (eqb (f k) (suc n)) → (1 ≤ lowered f (suc m) (suc n) k) × (lowered f (suc m) (suc n) k ≤ n)
      at (passes e) =
          let ne : f (suc m) ≡ suc n → ⊥ = λ z. last_apart k low high (eqb-true (f k) (suc n) e ∙ sym z) in
          let w = o.within (suc m) (omega arith) (omega arith) in
          rw (lowered_hit f (suc m) (suc n) k e) (omega arith)
      at (fails e) =
          let ne : f k ≡ suc n → ⊥ = eqb-false (f k) (suc n) e in
          let w = o.within k low (le_step high) in
          rw (lowered_miss f (suc m) (suc n) k e) (omega arith)

  lowered_apart : (j k : ℕ) → 1 ≤ j → j ≤ m → 1 ≤ k → k ≤ m → down j ≡ down k → j ≡ k
  unfolding down
  lowered_apart j k lj hj lk hk same = at (tested (eqb (f j) (suc n))) (tested (eqb (f k) (suc n)))
    where
      at : Tested (eqb (f j) (suc n)) → Tested (eqb (f k) (suc n)) → j ≡ k
      at (passes a) (passes b) = o.apart j k lj (le_step hj) lk (le_step hk) (eqb-true (f j) (suc n) a ∙ sym (eqb-true (f k) (suc n) b))
      at (passes a) (fails b) =
          absurd (last_apart k lk hk (sym (lowered_miss f (suc m) (suc n) k b) ∙ sym same ∙ lowered_hit f (suc m) (suc n) j a))
      at (fails a) (passes b) =
          absurd (last_apart j lj hj (sym (lowered_miss f (suc m) (suc n) j a) ∙ same ∙ lowered_hit f (suc m) (suc n) k b))
      at (fails a) (fails b) =
          o.apart j k lj (le_step hj) lk (le_step hk) (sym (lowered_miss f (suc m) (suc n) j a) ∙ same ∙ lowered_miss f (suc m) (suc n) k b)

  lowered_one_to_one : OneToOne down m n
  lowered_one_to_one = record { within = lowered_within; apart = lowered_apart }

-- what goes into fewer numbers goes twice into one
pub pigeonhole : (f : ℕ → ℕ) (m n : ℕ) → OneToOne f m n → m ≤ n
pigeonhole f zero n o = omega arith
pigeonhole f (suc m) zero o = let w = o.within 1 (omega arith) (omega arith) in absurd (omega arith)
pigeonhole f (suc m) (suc n) o =
    let h : m ≤ n = pigeonhole (down f m n o) m n (lowered_one_to_one f m n o) in
    omega arith
