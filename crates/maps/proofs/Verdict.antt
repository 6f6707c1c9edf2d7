-- The laws of `specs/Verdict.antt`: the first verdict that refuses, and verdicts by tests.
--     refused_refuses                     a refusal does not accept
--     in_order_passed, in_order_refused   the first verdict of a list accepts, or is the answer
--     in_order_first                      a list that begins with a refusal shows it
--     in_order_on, in_order_last          a list whose first verdict is accepted
--     at_least-some, at_least_none        a verdict by the least wrong place, which is there or is not
--     in_order_one                        one verdict, as a list
--     in_order-accepts                    a list that accepts is accepted, at place 0
--     unless_passed, unless_refused       a verdict by a test
--     unless-accepts                      it accepts exactly where the test passes
-- Assumes nothing.
use Prim.Native.Nat.{ℕ, ◌≤◌}
use mathlib.Core.Path.{◌≡◌, refl, sym, ap, ◌∙◌}
use mathlib.Core.Bool.{Bool, true, false}
use mathlib.Core.List.{List, [], ◌∷◌}
use native.Mathlib.Omega.{arith}
use borrow.Author.Tests.{eq-eqb, ne_eqb}
use lib.Dec.{eqb}
use Rattle.maps.specs.Verdict.{Verdict, accepted, refused, accepts, unless, at_least, in_order}
use Rattle.maps.proofs.Least.{Tested, passes, fails, tested, true_not_false}

pub refused_refuses : (k p : ℕ) → 1 ≤ k → accepts (refused k p) ≡ false
unfolding accepts refused
refused_refuses k p low = ne_eqb k 0 (λ z. omega arith)

module _ (v : Verdict) (vs : List Verdict) where
  pub in_order_passed : accepts v ≡ true → in_order (v ∷ vs) ≡ in_order vs
  unfolding in_order
  in_order_passed e = simp e

  pub in_order_refused : accepts v ≡ false → in_order (v ∷ vs) ≡ v
  unfolding in_order
  in_order_refused e = simp e

  pub in_order_first : (k p : ℕ) → 1 ≤ k → v ≡ refused k p → in_order (v ∷ vs) ≡ refused k p
  in_order_first k p low is = in_order_refused (ap accepts is ∙ refused_refuses k p low) ∙ is

-- a list whose first verdict is accepted goes on with the others
pub in_order_on : (v : Verdict) (vs : List Verdict) → v ≡ accepted → in_order (v ∷ vs) ≡ in_order vs
unfolding accepts accepted
in_order_on v vs is = in_order_passed v vs (ap accepts is)

pub in_order_last : (v : Verdict) → v ≡ accepted → in_order (v ∷ []) ≡ accepted
unfolding in_order
in_order_last v is = in_order_on v [] is

-- one verdict, as a list
pub in_order_one : (v : Verdict) → (accepts v ≡ true → v ≡ accepted) → in_order (v ∷ []) ≡ v
unfolding in_order
in_order_one v whole = at (tested (accepts v))
  where
    at : Tested (accepts v) → in_order (v ∷ []) ≡ v
    at (passes e) = simp e (sym (whole e))
    at (fails e) = simp e

-- a list that accepts is accepted, at place 0
pub in_order-accepts : (vs : List Verdict) → accepts (in_order vs) ≡ true → in_order vs ≡ accepted
unfolding in_order
in_order-accepts [] e = refl
in_order-accepts (v ∷ vs) e = at (tested (accepts v)) (in_order-accepts vs)
  where
    at : Tested (accepts v) → (accepts (in_order vs) ≡ true → in_order vs ≡ accepted) → in_order (v ∷ vs) ≡ accepted
    at (passes a) rest = simp a (rest (simp a at e))
    at (fails a) rest = absurd (true_not_false (sym (ap accepts (in_order_refused v vs a)) ∙ e) a)

module _ (b : Bool) (k p : ℕ) where
  pub unless_passed : b ≡ true → unless b k p ≡ accepted
  unfolding unless
  unless_passed e = simp e

  pub unless_refused : b ≡ false → unless b k p ≡ refused k p
  unfolding unless
  unless_refused e = simp e

pub unless-accepts : (b : Bool) (k p : ℕ) → 1 ≤ k → accepts (unless b k p) ≡ b
unfolding accepts accepted
unless-accepts true k p low = ap accepts (unless_passed true k p refl)
unless-accepts false k p low = ap accepts (unless_refused false k p refl) ∙ refused_refuses k p low

pub at_least-some : (k p : ℕ) → (p ≡ 0 → ⊥) → at_least k p ≡ refused k p
unfolding at_least
at_least-some k p some = unless_refused (eqb p 0) k p (ne_eqb p 0 some)

pub at_least_none : (k p : ℕ) → p ≡ 0 → at_least k p ≡ accepted
unfolding at_least
at_least_none k p none = unless_passed (eqb p 0) k p (eq-eqb p 0 none)
