-- The laws of the order of words, and of the least one (000, definition 9; `specs/Words.antt`).
--     same_equal, equal_same          the test of two lists is their equality
--     less_irreflexive, less_transitive, compared
--                                     `less` is a strict order, and of two lists one is less or they are equal
--     least_word_one, least_word_least  the least word is a word of a start, and no start's word is less
--     least_word_is                   the word of a start, where no start's word is less than it, is the least word
--     signature-same                  maps with the same words have the same signature
--     start_dart, start_word, start_least
--                                     the start is a dart, yields the signature, and no lower one does
--     symmetries_some, symmetries_most
--                                     some start yields the signature, and at most all do
-- Assumes nothing.
use Prim.Native.Nat.{ℕ, zero, suc, ◌≤◌, ◌<◌, max}
use mathlib.Core.Path.{◌≡◌, refl, sym, ap₂, ◌∙◌}
use mathlib.Core.Bool.{Bool, true, false, ◌&&◌}
use mathlib.Core.List.{List, [], ◌∷◌}
use mathlib.Core.Logic.{⊎_elim}
use native.Mathlib.Omega.{arith}
use native.Mathlib.Nat.{le-suc_iff, lt_trans}
use borrow.Author.Tests.{lt-ltb, le-ltb, ltb-true, ltb-false, eq-eqb, eqb-true}
use lib.Dec.{eqb, ltb}
use Rattle.maps.specs.Map.{Map, IsDart}
use Rattle.maps.proofs.Least.{Tested, passes, fails, tested, true_not_false, Found, passes_some, some_found}
use Rattle.maps.proofs.Least.{count_le, count_passed}
use Rattle.words.specs.Theorems.{Covers}
use Rattle.words.specs.Words.{word, same, less, lesser, least_word, signature, yields, start, symmetries}

-- a test of two tests
pub both_true : (a b : Bool) → (a && b) ≡ true → (a ≡ true) × (b ≡ true)
both_true true b e = (refl, e)
both_true false b e = absurd (true_not_false e refl)

pub same_equal : (v w : List ℕ) → same v w ≡ true → v ≡ w
unfolding same
same_equal [] [] e = refl
same_equal [] (y ∷ w) e = absurd (true_not_false e refl)
same_equal (x ∷ v) [] e = absurd (true_not_false e refl)
same_equal (x ∷ v) (y ∷ w) e =
    let b = both_true (eqb x y) (same v w) e in
    ap₂ (λ (h : ℕ) (t : List ℕ). h ∷ t) (eqb-true x y b.0) (same_equal v w b.1)

same_self : (v : List ℕ) → same v v ≡ true
unfolding same
same_self [] = refl
same_self (x ∷ v) = rw (eq-eqb x x refl, same_self v)

pub equal_same : (v w : List ℕ) → v ≡ w → same v w ≡ true
equal_same v w e = rw e (same_self w)

-- lexicographic order: v ends before w, has the lesser number at the first place, or comes before w after equal numbers
pub data Before : List ℕ → List ℕ → Type 0 where
  ended : {y : ℕ} {w : List ℕ} → Before [] (y ∷ w)
  first : {x y : ℕ} {v w : List ℕ} → x < y → Before (x ∷ v) (y ∷ w)
  rest : {x y : ℕ} {v w : List ℕ} → x ≡ y → Before v w → Before (x ∷ v) (y ∷ w)

pub before_less : {v w : List ℕ} → Before v w → less v w ≡ true
unfolding less
before_less ended = refl
before_less (first {x = x} {y = y} h) = simp (lt-ltb x y h)
before_less (rest {x = x} {y = y} e b) = simp (eq-eqb x y e, before_less b, le-ltb x y (omega arith))

pub less_before : (v w : List ℕ) → less v w ≡ true → Before v w
unfolding less
less_before [] [] e = absurd (true_not_false e refl)
less_before [] (y ∷ w) e = ended
less_before (x ∷ v) [] e = absurd (true_not_false e refl)
less_before (x ∷ v) (y ∷ w) e = at (tested (ltb x y)) (less_before v w)
  where
    at : Tested (ltb x y) → (less v w ≡ true → Before v w) → Before (x ∷ v) (y ∷ w)
    at (passes h) ih = first (ltb-true x y h)
    at (fails h) ih =
        let b = both_true (eqb x y) (less v w) (simp h at e) in
        rest (eqb-true x y b.0) (ih b.1)

before_irreflexive : {v : List ℕ} → Before v v → ⊥
before_irreflexive (first h) = omega arith
before_irreflexive (rest e b) = before_irreflexive b

before_transitive : {u v w : List ℕ} → Before u v → Before v w → Before u w
before_transitive ended (first h) = ended
before_transitive ended (rest e b) = ended
before_transitive (first h) (first k) = first (lt_trans h k)
before_transitive (first h) (rest e b) = first (rw e at h)
before_transitive (rest e a) (first k) = first (rw (← e) at k)
before_transitive (rest e a) (rest f b) = rest (e ∙ f) (before_transitive a b)

-- of two lists one comes before the other, or they are equal
pub data Compared (v w : List ℕ) : Type 0 where
  before : Before v w → Compared v w
  equal : v ≡ w → Compared v w
  after : Before w v → Compared v w

pub compared : (v w : List ℕ) → Compared v w
compared [] [] = equal refl
compared [] (y ∷ w) = before ended
compared (x ∷ v) [] = after ended
compared (x ∷ v) (y ∷ w) = at (tested (ltb x y)) (tested (ltb y x)) (compared v w)
  where
    at : Tested (ltb x y) → Tested (ltb y x) → Compared v w → Compared (x ∷ v) (y ∷ w)
    at (passes h) t c = before (first (ltb-true x y h))
    at (fails h) (passes k) c = after (first (ltb-true y x k))
    at (fails h) (fails k) c = on (omega (arith, ltb-false x y h, ltb-false y x k)) c
      where
        on : x ≡ y → Compared v w → Compared (x ∷ v) (y ∷ w)
        on e (before b) = before (rest e b)
        on e (equal f) = equal (ap₂ (λ (h : ℕ) (t : List ℕ). h ∷ t) e f)
        on e (after b) = after (rest (sym e) b)

pub less_irreflexive : (v : List ℕ) → less v v ≡ false
less_irreflexive v = at (tested (less v v))
  where
    at : Tested (less v v) → less v v ≡ false
    at (passes e) = absurd (before_irreflexive (less_before v v e))
    at (fails e) = e

pub less_transitive : (u v w : List ℕ) → less u v ≡ true → less v w ≡ true → less u w ≡ true
less_transitive u v w a b = before_less (before_transitive (less_before u v a) (less_before v w b))

-- lists of which neither is less are equal
pub less_neither : (v w : List ℕ) → less v w ≡ false → less w v ≡ false → v ≡ w
less_neither v w a b = at (compared v w)
  where
    at : Compared v w → v ≡ w
    at (before h) = absurd (true_not_false (before_less h) a)
    at (equal e) = e
    at (after h) = absurd (true_not_false (before_less h) b)

-- the lesser of two is the first, or the second where that is less
pub data Lesser (v w : List ℕ) : Type 0 where
  stays : lesser v w ≡ v → less w v ≡ false → Lesser v w
  beaten : lesser v w ≡ w → less w v ≡ true → Lesser v w

pub lesser_one : (v w : List ℕ) → Lesser v w
unfolding lesser
lesser_one v w = at (tested (less w v))
  where
    at : Tested (less w v) → Lesser v w
    at (passes e) = beaten (simp e) e
    at (fails e) = stays (simp e) e

-- what is not less than v is not less than what is less than v
less_false_kept : (u v w : List ℕ) → less u v ≡ false → less w v ≡ true → less u w ≡ false
less_false_kept u v w a b = at (tested (less u w))
  where
    at : Tested (less u w) → less u w ≡ false
    at (passes e) = absurd (true_not_false (less_transitive u w v e b) a)
    at (fails e) = e

module _ (M : Map) where
  least_word_suc : (k : ℕ) → least_word M (suc k) ≡ lesser (least_word M k) (word M (suc k))
  unfolding least_word
  least_word_suc k = refl

  -- the least word up to k is the word of a start up to k
  least_word_from : (k : ℕ) → (d : ℕ) × (1 ≤ d) × (d ≤ max 1 k) × (least_word M k ≡ word M d)
  unfolding least_word
  least_word_from zero = (1, omega arith, omega arith, refl)
  least_word_from (suc k) = at (least_word_from k) (lesser_one (least_word M k) (word M (suc k)))
    where
      at : (d : ℕ) × (1 ≤ d) × (d ≤ max 1 k) × (least_word M k ≡ word M d) → Lesser (least_word M k) (word M (suc k)) →
          (d : ℕ) × (1 ≤ d) × (d ≤ max 1 (suc k)) × (least_word M (suc k) ≡ word M d)
      at d (stays e f) = (d.0, d.1, omega arith, e ∙ d.3)
      at d (beaten e f) = (suc k, omega arith, omega arith, e)

  pub least_word_one : (k : ℕ) → 1 ≤ k → (d : ℕ) × (1 ≤ d) × (d ≤ k) × (least_word M k ≡ word M d)
  least_word_one k h = let d = least_word_from k in (d.0, d.1, omega arith, d.3)

  pub least_word_least : (k d : ℕ) → 1 ≤ d → d ≤ k → less (word M d) (least_word M k) ≡ false
  least_word_least zero d low high = absurd (omega arith)
  least_word_least (suc k) d low high =
      rw (least_word_suc k) (⊎_elim (λ h. earlier (least_word_least k d low h) (lesser_one v w)) (λ e. rw e (last (lesser_one v w))) (le-suc_iff.0 high))
    where
      v : List ℕ
      v = least_word M k

      w : List ℕ
      w = word M (suc k)

      earlier : less (word M d) v ≡ false → Lesser v w → less (word M d) (lesser v w) ≡ false
      earlier h (stays e f) = rw e h
      earlier h (beaten e f) = rw e (less_false_kept (word M d) v w h f)

      last : Lesser v w → less w (lesser v w) ≡ false
      last (stays e f) = rw e f
      last (beaten e f) = rw e (less_irreflexive w)

  pub least_word_is : (k d : ℕ) → 1 ≤ d → d ≤ k → ((e : ℕ) → 1 ≤ e → e ≤ k → less (word M e) (word M d) ≡ false) → least_word M k ≡ word M d
  least_word_is k d low high none =
      let e = least_word_one k (omega arith) in
      less_neither (least_word M k) (word M d) (rw e.3 (none e.0 e.1 e.2)) (least_word_least k d low high)

-- maps with the same words have the same signature
pub signature-same : (M M' : Map) → 1 ≤ M.darts → Covers M M' → Covers M' M → signature M ≡ signature M'
unfolding signature
signature-same M M' some over back = sym (is ∙ sym d.3)
  where
    d : (d : ℕ) × (1 ≤ d) × (d ≤ M.darts) × (least_word M M.darts ≡ word M d)
    d = least_word_one M M.darts some

    e : (e : ℕ) × IsDart M' e × (word M d.0 ≡ word M' e)
    e = over d.0 (d.1, d.2)

    none : (c : ℕ) → 1 ≤ c → c ≤ M'.darts → less (word M' c) (word M d.0) ≡ false
    none c low high =
        let b = back c (low, high) in
        rw (b.2, ← d.3) (least_word_least M M.darts b.0 b.1.0 b.1.1)

    is : least_word M' M'.darts ≡ word M d.0
    is = least_word_is M' M'.darts e.0 e.1.0 e.1.1 (rw (← e.2) none) ∙ sym e.2

module _ (M : Map) where
  pub yields_word : (w : List ℕ) (d : ℕ) → yields M w d ≡ true → word M d ≡ w
  unfolding yields
  yields_word w d e = same_equal (word M d) w e

  pub word_yields : (w : List ℕ) (d : ℕ) → word M d ≡ w → yields M w d ≡ true
  unfolding yields
  word_yields w d e = equal_same (word M d) w e

  -- no start's word is less than the signature
  pub signature_least : (d : ℕ) → IsDart M d → less (word M d) (signature M) ≡ false
  unfolding signature
  signature_least d h = least_word_least M M.darts d h.0 h.1

  -- the signature is the word of a start
  pub signature_one : 1 ≤ M.darts → (d : ℕ) × IsDart M d × (word M d ≡ signature M)
  unfolding signature
  signature_one some = let d = least_word_one M M.darts some in (d.0, (d.1, d.2), sym d.3)

module _ (M : Map) (some_dart : 1 ≤ M.darts) where
  -- the start is the least dart that yields the signature
  pub start_found : Found (yields M (signature M)) M.darts (start M)
  unfolding start
  start_found =
      let d = signature_one M some_dart in
      let hit = word_yields M (signature M) d.0 d.2 in
      some_found (yields M (signature M)) M.darts (passes_some (yields M (signature M)) M.darts d.0 d.1.0 d.1.1 hit)

  pub start_dart : IsDart M (start M)
  start_dart = (start_found.low, start_found.high)

  pub start_word : word M (start M) ≡ signature M
  start_word = yields_word M (signature M) (start M) start_found.hit

  pub start_least : (d : ℕ) → 1 ≤ d → word M d ≡ signature M → start M ≤ d
  start_least d low is = at (tested (ltb d (start M)))
    where
      at : Tested (ltb d (start M)) → start M ≤ d
      at (passes e) = absurd (true_not_false (word_yields M (signature M) d is) (start_found.before d low (ltb-true d (start M) e)))
      at (fails e) = ltb-false d (start M) e

  pub symmetries_some : 1 ≤ symmetries M
  unfolding symmetries
  symmetries_some = count_passed M.darts (yields M (signature M)) (start M) start_found.low start_found.high start_found.hit

pub symmetries_most : (M : Map) → symmetries M ≤ M.darts
unfolding symmetries
symmetries_most M = count_le M.darts (yields M (signature M))
