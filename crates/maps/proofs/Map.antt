-- The laws of `specs/Map.antt`: what `sew` is, inside and outside the darts, and how β0 and β1 undo one another.
--     sew_zero, sew_outside, sew_none, sew_high
--                                         nothing is sewn to 0, to what is no dart, or by a sewing above n
--     sew_beta, sew_back                  inside, `sew` is what is written, and β0 is `back`
--     sewn_dart                           what is sewn is a dart
--     back_dart                           β0 leads to a dart or to nothing
--     back_forth, forth_back              β1 after β0, and β0 after β1
-- Assumes nothing.
use Prim.Native.Nat.{ℕ, ◌≤◌, ◌<◌}
use mathlib.Core.Path.{◌≡◌, refl, sym, ◌∙◌}
use mathlib.Core.Bool.{Bool, false, cond, ◌&&◌}
use mathlib.Core.Logic.{◌⊎◌, ⊎_elim}
use native.Mathlib.Omega.{arith}
use borrow.Author.Tests.{le-leb, lt-leb, leb-true, leb-false, eq-eqb, ne_eqb, eqb-true, ltb-true, ltb-false}
use lib.Dec.{leb, eqb, ltb}
use Rattle.maps.specs.Least.{least}
use Rattle.maps.specs.Map.{Map, IsDart, is_dart, back, sew}
use Rattle.maps.specs.Accepted.{OpenMap}
use Rattle.maps.proofs.Least.{Tested, passes, fails, tested, Found, least_found, least_is, least_le}

module _ (M : Map) (i d : ℕ) where
  pub sew_zero : sew M i 0 ≡ 0
  unfolding sew is_dart
  sew_zero = refl

  pub sew_outside : M.darts < d → sew M i d ≡ 0
  unfolding sew is_dart
  sew_outside h = at (tested (leb 1 d))
    where
      at : Tested (leb 1 d) → cond (leb 1 d && leb d M.darts && leb i M.dim) (cond (eqb i 0) (back M d) (M.beta i d)) 0 ≡ 0
      at (passes e) = simp (e, lt-leb d M.darts h)
      at (fails e) = simp e

  -- d is no dart
  pub sew_none : (d ≡ 0) ⊎ (M.darts < d) → sew M i d ≡ 0
  sew_none none = ⊎_elim (λ zero. rw zero sew_zero) sew_outside none

  pub sew_high : M.dim < i → sew M i d ≡ 0
  unfolding sew
  sew_high h = at (tested (is_dart M d))
    where
      at : Tested (is_dart M d) → cond (is_dart M d && leb i M.dim) (cond (eqb i 0) (back M d) (M.beta i d)) 0 ≡ 0
      at (passes e) = simp (e, lt-leb i M.dim h)
      at (fails e) = simp e

  pub sew_beta : IsDart M d → 1 ≤ i → i ≤ M.dim → sew M i d ≡ M.beta i d
  unfolding sew is_dart
  sew_beta h low high = simp (le-leb 1 d h.0, le-leb d M.darts h.1, le-leb i M.dim high, ne_eqb i 0 (λ e. omega arith))

  -- what is sewn to something is a dart, and the sewing is one of 0 to n
  pub sewn_dart : 0 < sew M i d → IsDart M d
  sewn_dart h = at (tested (leb 1 d)) (tested (leb d M.darts))
    where
      at : Tested (leb 1 d) → Tested (leb d M.darts) → IsDart M d
      at (passes low) (passes high) = (leb-true 1 d low, leb-true d M.darts high)
      at (passes low) (fails high) = absurd (let z : sew M i d ≡ 0 = sew_outside (leb-false d M.darts high) in omega arith)
      at (fails low) t =
          absurd
          (let e : d ≡ 0 = omega (arith, leb-false 1 d low) in
          let z : sew M i d ≡ 0 = rw e sew_zero in
          omega arith)

  pub sewn_low : 0 < sew M i d → i ≤ M.dim
  sewn_low h = at (tested (leb i M.dim))
    where
      at : Tested (leb i M.dim) → i ≤ M.dim
      at (passes e) = leb-true i M.dim e
      at (fails e) = absurd (let z : sew M i d ≡ 0 = sew_high (leb-false i M.dim e) in omega arith)

pub sew_back : (M : Map) (d : ℕ) → IsDart M d → sew M 0 d ≡ back M d
unfolding sew is_dart
sew_back M d h = simp (le-leb 1 d h.0, le-leb d M.darts h.1, le-leb 0 M.dim (omega arith))

-- β0 leads to a dart or to nothing
pub back_dart : (M : Map) (d : ℕ) → sew M 0 d ≤ M.darts
unfolding back
back_dart M d = at (tested (ltb 0 (sew M 0 d)))
  where
    at : Tested (ltb 0 (sew M 0 d)) → sew M 0 d ≤ M.darts
    at (fails e) = omega (arith, ltb-false 0 (sew M 0 d) e)
    at (passes e) = rw (sew_back M d (sewn_dart M 0 d (ltb-true 0 (sew M 0 d) e))) (least_le (λ e. eqb (M.beta 1 e) d) M.darts)

-- the test of `back`: β1 takes e to d, as written
unfoldable pub takes : Map → ℕ → ℕ → Bool
takes M d e = eqb (M.beta 1 e) d

back_least : (M : Map) (d : ℕ) → back M d ≡ least M.darts (takes M d)
unfolding back takes
back_least M d = refl

module _ (M : Map) (some_dim : 1 ≤ M.dim) where
  -- β1 of β0(d) is d
  pub back_forth : (d e : ℕ) → sew M 0 d ≡ e → 0 < e → sew M 1 e ≡ d
  unfolding takes
  back_forth d e is pos =
      let dart : IsDart M d = sewn_dart M 0 d (rw is pos) in
      let same : least M.darts (takes M d) ≡ e = sym (back_least M d) ∙ sym (sew_back M d dart) ∙ is in
      let f : Found (takes M d) M.darts e = rw same at (least_found (takes M d) M.darts (rw same pos)) in
      sew_beta M 1 e (f.low, f.high) (omega arith) some_dim ∙ eqb-true (M.beta 1 e) d f.hit

  -- β0 of β1(d) is d, where β1 takes no two darts to one
  pub forth_back : OpenMap M → (d e : ℕ) → sew M 1 d ≡ e → 0 < e → sew M 0 e ≡ d
  unfolding takes
  forth_back o d e is pos = sew_back M e there ∙ back_least M e ∙ least_is (takes M e) M.darts found
    where
      dart : IsDart M d
      dart = sewn_dart M 1 d (rw is pos)

      there : IsDart M e
      there = (pos, rw is at (o.to_darts 1 d))

      written : (c : ℕ) → IsDart M c → sew M 1 c ≡ M.beta 1 c
      written c h = sew_beta M 1 c h (omega arith) some_dim

      earlier : (c : ℕ) → 1 ≤ c → c < d → Tested (takes M e c) → takes M e c ≡ false
      earlier c low high (fails miss) = miss
      earlier c low high (passes hit) =
          let h : IsDart M c = (low, omega (arith, dart.1)) in
          let same : sew M 1 c ≡ e = written c h ∙ eqb-true (M.beta 1 c) e hit in
          let z : c ≡ d = o.one_to_one c d (rw same pos) (same ∙ sym is) in
          absurd (omega arith)

      found : Found (takes M e) M.darts d
      found =
          record {
            low = dart.0;
            high = dart.1;
            hit = eq-eqb (M.beta 1 d) e (sym (written d dart) ∙ is);
            before = λ c low high. earlier c low high (tested (takes M e c));
          }
