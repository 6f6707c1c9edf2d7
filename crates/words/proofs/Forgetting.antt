-- Labels forgotten along the queue: once its darts are passed, none is left. Assumes nothing.
use Prim.Native.Nat.{ℕ, suc, ◌+◌, ◌-◌, ◌≤◌, ◌<◌}
use mathlib.Core.Path.{◌≡◌, sym, ap, ◌∙◌}
use mathlib.Core.List.{List}
use mathlib.Core.Logic.{◌⊎◌, inl, inr}
use native.Mathlib.Omega.{arith}
use native.Mathlib.Nat.{eq-zero-or-pos}
use borrow.Author.Tests.{eqb-true, eqb-false}
use lib.Dec.{eqb}
use lib.ListN.{length, get_or, set, replicate, length-set, length-replicate, get_or-replicate}
use lib.Seq.{get_or-set_same, get_or-set_other, ext_get_or}
use Rattle.maps.specs.Least.{nth}
use Rattle.maps.proofs.Least.{Tested, passes, fails, tested}
use Rattle.labels.specs.Queue.{label_in}
use Rattle.labels.specs.Inside.{Holds}
use Rattle.labels.proofs.Queue.{label_in_le, nth-label_in}

-- the first k darts of the queue q are forgotten: a dart that has a label still stands after them
pub record Forgetting (labels q : List ℕ) (given k : ℕ) : Type 0 where
  pub within : k ≤ given
  pub long : length labels ≡ 1020
  pub left : (d : ℕ) → 1 ≤ d → d ≤ 1020 → (get_or labels (d - 1) 0 ≡ 0) ⊎ (k < label_in q d)

pub forgetting_start : {labels queue q : List ℕ} {given : ℕ} → Holds labels queue given q → Forgetting labels q given 0
forgetting_start {labels} {queue} {q} h =
    record { within = omega arith; long = h.long_labels; left = λ d low high. at d (h.label d low high) (eq-zero-or-pos (label_in q d)) }
  where
    at : (d : ℕ) → get_or labels (d - 1) 0 ≡ label_in q d → (label_in q d ≡ 0) ⊎ (0 < label_in q d) → (get_or labels (d - 1) 0 ≡ 0) ⊎ (0 < label_in q d)
    at d is (inl none) = inl (is ∙ none)
    at d is (inr pos) = inr pos

module _ {labels q : List ℕ} {given k : ℕ} (f : Forgetting labels q given k) where
  -- the dart x after the first k is forgotten
  pub forgetting_turn : (x : ℕ) → x ≡ nth q (suc k) → 1 ≤ x → x ≤ 1020 → k < given → Forgetting (set labels (x - 1) 0) q given (k + 1)
  forgetting_turn x is low high turn =
      record {
        within = omega arith;
        long = length-set labels (x - 1) 0 ∙ f.long;
        left = λ d dl dh. at d dl (tested (eqb d x)) (f.left d dl dh);
      }
    where
      after : (d : ℕ) → (d ≡ x → ⊥) → k < label_in q d → k + 1 < label_in q d
      after d other h = at (tested (eqb (label_in q d) (suc k)))
        where
          at : Tested (eqb (label_in q d) (suc k)) → k + 1 < label_in q d
          at (passes e) =
              let there = ap (nth q) (eqb-true (label_in q d) (suc k) e) in
              absurd (other (sym (nth-label_in q d (omega arith)) ∙ there ∙ sym is))
          at (fails e) = let ne = eqb-false (label_in q d) (suc k) e in omega arith

      at : (d : ℕ) → 1 ≤ d → Tested (eqb d x) → (get_or labels (d - 1) 0 ≡ 0) ⊎ (k < label_in q d) →
          (get_or (set labels (x - 1) 0) (d - 1) 0 ≡ 0) ⊎ (k + 1 < label_in q d)
      at d dl (passes e) s =
          let same : d ≡ x = eqb-true d x e in
          inl (rw same (get_or-set_same labels (x - 1) 0 0 (omega (arith, f.long))))
      at d dl (fails e) (inl none) =
          let other : d ≡ x → ⊥ = eqb-false d x e in
          inl (get_or-set_other labels (x - 1) (d - 1) 0 0 (λ z. other (omega arith)) ∙ none)
      at d dl (fails e) (inr h) = inr (after d (eqb-false d x e) h)

  -- past the queue's end no label is left
  pub forgetting_done : length q ≡ given → given ≤ k → labels ≡ replicate 1020 0
  forgetting_done is past =
      ext_get_or 0 labels (replicate 1020 0) (f.long ∙ sym (length-replicate {A = ℕ} 1020 0)) (λ i h. at i (rw f.long at h))
    where
      none : (d : ℕ) → (get_or labels (d - 1) 0 ≡ 0) ⊎ (k < label_in q d) → get_or labels (d - 1) 0 ≡ 0
      none d (inl e) = e
      none d (inr h) = absurd (omega (arith, label_in_le q d))

      at : (i : ℕ) → i < 1020 → get_or labels i 0 ≡ get_or (replicate 1020 0) i 0
      at i h =
          let back : suc i - 1 ≡ i = omega arith in
          rw back at (none (suc i) (f.left (suc i) (omega arith) h)) ∙ sym (get_or-replicate {A = ℕ} 1020 i 0 0 h)
