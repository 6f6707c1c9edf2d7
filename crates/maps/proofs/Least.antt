-- The laws of `specs/Least.antt`: places, the first numbers, and the least number that passes a test.
--     nth-suc, nth_at, nth_past   what stands at a place, and past the end
--     nth-append                  a place of the first of two lists
--     length-up_to, nth-map-up_to  a list made by a function of the numbers 1 to k
--     Tested, tested              whether a test passes, as a sum to take apart
--     least_kept, least_hit       the least up to k, at one number more
--     least_le, least_found       it is one of the numbers, and passes
--     least_none, none_least      it is 0 exactly when none passes
--     least_is                    the one that passes while no lower one does
--     least_cong                  tests that agree have the same least
--     passed_..                   a search that goes from 1 upwards
--     found_some, found_none      what a search answers where it finds a number, and where it finds none
--     some_is, none_is            and what its answer says
--     search_hit, search_over     the same of a search that goes from 1 upwards, as a loop needs them
--     count_hit, count_miss       how many pass, at one number more
--     count_le, count_passed      how many pass: at most k, and at least 1 where one is known to pass
-- Assumes nothing.
use Prim.Native.Nat.{ℕ, zero, suc, ◌+◌, ◌-◌, ◌≤◌, ◌<◌}
use mathlib.Core.Path.{◌≡◌, refl, sym, ap, ◌∙◌}
use mathlib.Core.Bool.{Bool, true, false, cond}
use mathlib.Core.List.{List, [], ◌∷◌, ◌++◌, map}
use mathlib.Core.Logic.{⊎_elim}
use lib.Seq.{get_or-append_seam}
use native.Mathlib.Omega.{arith}
use native.Mathlib.Nat.{eq-or-lt_of_le, le-suc, le-suc_iff, le_of_suc-le, le_of_suc-le-suc, not-suc-le-zero, le_trans}
use native.Mathlib.Numerals.{add-one}
use borrow.Author.Tests.{lt-ltb, le-ltb, ltb-true, ltb-false, ne_eqb, eqb-true, eqb-false}
use lib.Dec.{ltb, eqb}
use lib.ListN.{length, get_or, length-append, length-map, get_or-eq_default, get_or-append}
use Rattle.std.specs.Prelude.{Option, None, Some}
use Rattle.maps.specs.Least.{nth, up_to, least, found_at, some, count}

pub nth-suc : (xs : List ℕ) (p : ℕ) → nth xs (suc p) ≡ get_or xs p 0
unfolding nth
nth-suc xs p = refl

-- what an array has at the index of p
pub nth_at : (xs : List ℕ) (p : ℕ) → 1 ≤ p → nth xs p ≡ get_or xs (p - 1) 0
nth_at xs zero low = absurd (omega arith)
nth_at xs (suc p) low = let here : suc p - 1 ≡ p = omega arith in rw here (nth-suc xs p)

pub nth_one_more : (xs : List ℕ) (p : ℕ) → nth xs (p + 1) ≡ get_or xs p 0
nth_one_more xs p = rw add-one (nth-suc xs p)

pub nth-zero : (xs : List ℕ) → nth xs 0 ≡ 0
unfolding nth
nth-zero xs = refl

pub nth_past : (xs : List ℕ) (p : ℕ) → length xs < p → nth xs p ≡ 0
unfolding nth
nth_past xs p h = get_or-eq_default (0 ∷ xs) 0 h

-- whether a test passes, as a sum to take apart
pub data Tested (b : Bool) : Type 0 where
  passes : b ≡ true → Tested b
  fails : b ≡ false → Tested b

pub tested : (b : Bool) → Tested b
tested true = passes refl
tested false = fails refl

pub true_not_false : {b : Bool} → b ≡ true → b ≡ false → ⊥
true_not_false t f = let z : ◌≡◌ {A = Bool} true false = sym t ∙ f in mathlib.Core.Bool.true≢false z

-- no number from 1 to k passes
abbrev pub Misses : (ℕ → Bool) → ℕ → Type 0
Misses p k = (j : ℕ) → 1 ≤ j → j ≤ k → p j ≡ false

-- d is the least number from 1 to k that passes
pub record Found (p : ℕ → Bool) (k d : ℕ) : Type 0 where
  pub low : 1 ≤ d
  pub high : d ≤ k
  pub hit : p d ≡ true
  pub before : (j : ℕ) → 1 ≤ j → j < d → p j ≡ false

-- what the least is
pub data Sought (p : ℕ → Bool) (k : ℕ) : Type 0 where
  nowhere : least k p ≡ 0 → Misses p k → Sought p k
  somewhere : (d : ℕ) → least k p ≡ d → Found p k d → Sought p k

-- one number more
pub misses_more : (p : ℕ → Bool) {k : ℕ} → Misses p k → p (suc k) ≡ false → Misses p (suc k)
misses_more p {k} m miss j low high = ⊎_elim (λ h. m j low h) (λ e. rw e miss) (le-suc_iff.0 high)

found_more : (p : ℕ → Bool) {k d : ℕ} → Found p k d → Found p (suc k) d
found_more p f = record { low = f.low; high = omega arith; hit = f.hit; before = f.before }

found_next : (p : ℕ → Bool) {k : ℕ} → Misses p k → p (suc k) ≡ true → Found p (suc k) (suc k)
found_next p m hit = record { low = omega arith; high = omega arith; hit = hit; before = λ j low high. m j low (le_of_suc-le-suc high) }

module _ (p : ℕ → Bool) (k : ℕ) where
  -- where the least up to k is there, one number more changes nothing
  pub least_kept : 0 < least k p → least (suc k) p ≡ least k p
  unfolding least
  least_kept h = simp (lt-ltb 0 (least k p) h)

  -- where none passes up to k, it is the next number that passes
  pub least_hit : least k p ≡ 0 → p (suc k) ≡ true → least (suc k) p ≡ suc k
  unfolding least
  least_hit none hit = simp (none, hit)

  pub least_miss : least k p ≡ 0 → p (suc k) ≡ false → least (suc k) p ≡ 0
  unfolding least
  least_miss none miss = simp (none, miss)

sought_more : (p : ℕ → Bool) (k : ℕ) → Sought p k → Tested (p (suc k)) → Sought p (suc k)
sought_more p k (nowhere none m) (passes hit) = somewhere (suc k) (least_hit p k none hit) (found_next p m hit)
sought_more p k (nowhere none m) (fails miss) = nowhere (least_miss p k none miss) (misses_more p m miss)
sought_more p k (somewhere d is f) t =
    somewhere d (least_kept p k (rw is f.low) ∙ is) (found_more p f)

pub sought : (p : ℕ → Bool) (k : ℕ) → Sought p k
unfolding least
sought p zero = nowhere refl (λ j low high. absurd (not-suc-le-zero (le_trans low high)))
sought p (suc k) = sought_more p k (sought p k) (tested (p (suc k)))

-- two numbers that are both the least are one
pub found_only : (p : ℕ → Bool) {k d e : ℕ} → Found p k d → Found p k e → d ≡ e
found_only p {k} {d} {e} f g = at (tested (ltb d e)) (tested (ltb e d))
  where
    at : Tested (ltb d e) → Tested (ltb e d) → d ≡ e
    at (passes lt) t = absurd (true_not_false f.hit (g.before d f.low (ltb-true d e lt)))
    at (fails ge) (passes gt) = absurd (true_not_false g.hit (f.before e g.low (ltb-true e d gt)))
    at (fails ge) (fails le) = omega (arith, ltb-false d e ge, ltb-false e d le)

-- what passes up to k is not missed
found_not_missed : (p : ℕ → Bool) {k d : ℕ} → Found p k d → Misses p k → ⊥
found_not_missed p {k} {d} f m = true_not_false f.hit (m d f.low f.high)

module _ (p : ℕ → Bool) (k : ℕ) where
  pub least_none : least k p ≡ 0 → Misses p k
  least_none none = at (sought p k)
    where
      at : Sought p k → Misses p k
      at (nowhere e m) = m
      at (somewhere d is f) = absurd (let h : 1 ≤ d = f.low in let z : d ≡ 0 = sym is ∙ none in omega arith)

  pub none_least : Misses p k → least k p ≡ 0
  none_least m = at (sought p k)
    where
      at : Sought p k → least k p ≡ 0
      at (nowhere e n) = e
      at (somewhere d is f) = absurd (found_not_missed p f m)

  -- the one that passes while no lower one does
  pub least_is : {d : ℕ} → Found p k d → least k p ≡ d
  least_is {d} f = at (sought p k)
    where
      at : Sought p k → least k p ≡ d
      at (nowhere e m) = absurd (found_not_missed p f m)
      at (somewhere c is g) = is ∙ found_only p g f

  pub least_found : 0 < least k p → Found p k (least k p)
  least_found pos = at (sought p k)
    where
      at : Sought p k → Found p k (least k p)
      at (nowhere e m) = absurd (let z : least k p ≡ 0 = e in omega arith)
      at (somewhere c is g) = rw is g

  pub least_le : least k p ≤ k
  least_le = at (sought p k)
    where
      at : Sought p k → least k p ≤ k
      at (nowhere e m) = omega (arith, e)
      at (somewhere c is g) = let h : c ≤ k = g.high in omega (arith, is)

  pub some_misses : some k p ≡ false → Misses p k
  unfolding some
  some_misses e = least_none (let h : least k p ≤ 0 = ltb-false 0 (least k p) e in omega arith)

  pub misses_some : Misses p k → some k p ≡ false
  unfolding some
  misses_some m = le-ltb 0 (least k p) (let e : least k p ≡ 0 = none_least m in omega arith)

  pub some_found : some k p ≡ true → Found p k (least k p)
  unfolding some
  some_found e = least_found (ltb-true 0 (least k p) e)

  pub passes_some : (d : ℕ) → 1 ≤ d → d ≤ k → p d ≡ true → some k p ≡ true
  passes_some d low high hit = at (tested (some k p))
    where
      at : Tested (some k p) → some k p ≡ true
      at (passes e) = e
      at (fails e) = absurd (true_not_false hit (some_misses e d low high))

-- a search that has come to i: no number from 1 to below i passes
abbrev pub Passed : (ℕ → Bool) → ℕ → Type 0
Passed p i = (j : ℕ) → 1 ≤ j → j < i → p j ≡ false

pub passed_start : (p : ℕ → Bool) → Passed p 1
passed_start p j low high = absurd (omega arith)

module _ (p : ℕ → Bool) {i : ℕ} (so_far : Passed p i) where
  pub passed_turn : p i ≡ false → Passed p (i + 1)
  passed_turn miss j low high = ⊎_elim (λ e. rw e miss) (λ h. so_far j low h) (eq-or-lt_of_le (le_of_lt_add_one high))
    where
      le_of_lt_add_one : j < i + 1 → j ≤ i
      le_of_lt_add_one h = omega arith

  pub passed_misses : {k : ℕ} → k < i → Misses p k
  passed_misses past j low high = so_far j low (omega arith)

  pub passed_found : {k : ℕ} → 1 ≤ i → i ≤ k → p i ≡ true → Found p k i
  passed_found low high hit = record { low = low; high = high; hit = hit; before = so_far }

-- what a search answers
pub found_some : {p q : ℕ} → 1 ≤ p → q ≡ p → Some p ≡ found_at q
unfolding found_at
found_some {p} low is = rw is (let e : eqb p 0 ≡ false = ne_eqb p 0 (λ z. omega arith) in simp e)

pub found_none : {q : ℕ} → q ≡ 0 → None ≡ found_at q
unfolding found_at
found_none none = rw none refl

pub some_is : {p q : ℕ} → Some p ≡ found_at q → (q ≡ p) × (1 ≤ p)
unfolding found_at
some_is {p} {q} is = at (tested (eqb q 0))
  where
    at : Tested (eqb q 0) → (q ≡ p) × (1 ≤ p)
    at (passes e) = let other : Some p ≡ None = simp e at is in absurd (let z : ◌≡◌ {A = ℕ} 0 1 = cc in omega arith)
    at (fails e) = let other : Some p ≡ Some q = simp e at is in let same : q ≡ p = cc in (same, let some = eqb-false q 0 e in omega arith)

pub none_is : {q : ℕ} → None ≡ found_at q → q ≡ 0
unfolding found_at
none_is {q} is = at (tested (eqb q 0))
  where
    at : Tested (eqb q 0) → q ≡ 0
    at (passes e) = eqb-true q 0 e
    at (fails e) = let other : ◌≡◌ {A = Option ℕ} None (Some q) = simp e at is in absurd (let z : ◌≡◌ {A = ℕ} 0 1 = cc in omega arith)

module _ (p : ℕ → Bool) {i : ℕ} (so_far : Passed p i) where
  pub search_hit : {k : ℕ} → 1 ≤ i → i ≤ k → p i ≡ true → Some i ≡ found_at (least k p)
  search_hit {k} low high hit = found_some low (least_is p k (passed_found p so_far low high hit))

  pub search_over : {k : ℕ} → k < i → None ≡ found_at (least k p)
  search_over {k} past = found_none (none_least p k (passed_misses p so_far past))

-- tests that agree up to k
abbrev pub Agree : (ℕ → Bool) → (ℕ → Bool) → ℕ → Type 0
Agree p q k = (j : ℕ) → 1 ≤ j → j ≤ k → p j ≡ q j

pub least_cong : {p q : ℕ → Bool} {k : ℕ} → Agree p q k → least k p ≡ least k q
least_cong {p} {q} {k} agree = at (sought p k)
  where
    at : Sought p k → least k p ≡ least k q
    at (nowhere e m) = e ∙ sym (none_least q k (λ j low high. sym (agree j low high) ∙ m j low high))
    at (somewhere d is f) =
        is
        ∙ sym
        (least_is q k
        (record {
          low = f.low;
          high = f.high;
          hit = sym (agree d f.low f.high) ∙ f.hit;
          before = λ j low high. sym (agree j low (le_trans (le_of_suc-le high) f.high)) ∙ f.before j low high;
        }))

pub some_cong : {p q : ℕ → Bool} {k : ℕ} → Agree p q k → some k p ≡ some k q
unfolding some
some_cong agree = ap (ltb 0) (least_cong agree)

pub count_cong : {p q : ℕ → Bool} (k : ℕ) → Agree p q k → count k p ≡ count k q
unfolding count
count_cong zero agree = refl
count_cong {p} {q} (suc k) agree =
    rw (count_cong {p = p} {q = q} k (λ j low high. agree j low (le_trans high (le-suc k))), agree (suc k) (omega arith) (omega arith))

-- the numbers 1 to k
pub length-up_to : (k : ℕ) → length (up_to k) ≡ k
unfolding up_to
length-up_to zero = refl
length-up_to (suc k) = rw (length-append, length-up_to k, add-one)

module _ {A : Type 0} where
  pub map_append : (f : ℕ → A) (xs ys : List ℕ) → map f (xs ++ ys) ≡ map f xs ++ map f ys
  map_append f [] ys = refl
  map_append f (x ∷ xs) ys = ap (λ (l : List A). f x ∷ l) (map_append f xs ys)

-- a place of the first of two lists, and the place after it
pub nth-append : (xs ys : List ℕ) (p : ℕ) → p ≤ length xs → nth (xs ++ ys) p ≡ nth xs p
unfolding nth
nth-append xs ys p h = get_or-append (0 ∷ xs) ys 0 p (omega arith)

pub nth_snoc_at : (xs : List ℕ) (x p : ℕ) → length xs ≡ p → nth (xs ++ (x ∷ [])) (suc p) ≡ x
unfolding nth
nth_snoc_at xs x p e = rw (← e) (get_or-append_seam xs x [] 0)

map_id : (xs : List ℕ) → map (λ x. x) xs ≡ xs
map_id [] = refl
map_id (x ∷ xs) = ap (λ (l : List ℕ). x ∷ l) (map_id xs)

-- a list made by a function of the numbers 1 to k
pub nth-map-up_to : (f : ℕ → ℕ) (k j : ℕ) → 1 ≤ j → j ≤ k → nth (map f (up_to k)) j ≡ f j
unfolding up_to
nth-map-up_to f zero j low high = absurd (not-suc-le-zero (le_trans low high))
nth-map-up_to f (suc k) j low high =
    rw map_append
    (⊎_elim
    (λ h. rw (nth-append (map f (up_to k)) (f (suc k) ∷ []) j (rw (length-map (up_to k) f, length-up_to k) h)) (nth-map-up_to f k j low h))
    (λ e. rw e (nth_snoc_at (map f (up_to k)) (f (suc k)) k (length-map (up_to k) f ∙ length-up_to k)))
    (le-suc_iff.0 high))

pub nth-up_to : (k j : ℕ) → 1 ≤ j → j ≤ k → nth (up_to k) j ≡ j
nth-up_to k j low high = rw (← map_id (up_to k)) (nth-map-up_to (λ i. i) k j low high)

one_or_none : (b : Bool) → cond b 1 0 ≤ 1
one_or_none true = omega arith
one_or_none false = omega arith

pub count_le : (k : ℕ) (p : ℕ → Bool) → count k p ≤ k
unfolding count
count_le zero p = omega arith
count_le (suc k) p = omega (arith, count_le k p, one_or_none (p (suc k)))

-- one number more
module _ (p : ℕ → Bool) (k : ℕ) where
  pub count_hit : p (suc k) ≡ true → count (suc k) p ≡ count k p + 1
  unfolding count
  count_hit hit = simp hit

  pub count_miss : p (suc k) ≡ false → count (suc k) p ≡ count k p
  unfolding count
  count_miss miss = simp miss (omega arith)

pub count_passed : (k : ℕ) (p : ℕ → Bool) (d : ℕ) → 1 ≤ d → d ≤ k → p d ≡ true → 1 ≤ count k p
unfolding count
count_passed zero p d low high hit = absurd (omega arith)
count_passed (suc k) p d low high hit =
    ⊎_elim
    (λ h. let before = count_passed k p d low h hit in omega arith)
    (λ e. rw (← e, hit) (omega arith))
    (le-suc_iff.0 high)
