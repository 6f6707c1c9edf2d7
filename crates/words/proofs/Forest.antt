-- The laws of `specs/Forest.antt`: where a tree's top is, and how it moves when two trees become one.
--     Forest                              an array of the darts that are over others
--     none_over, descends_none            at first no dart is over another
--     top_of_top, top_of_over             the top of a top, and of a dart that is under another
--     along_trees                         what holds of tops, and of a dart where it holds of the one over it, holds of every dart
--     top_of_low, top_of_le, nth_top_of   a top is a number from 1 on, at most the dart, and has none over it
--     descends_hang, forest_hang, over_hang
--                                         a top has gone under another: the forest stays one, and what is over a dart then
--     top_of_hang, top_of_kept            the tops then
--     Hung, hung, joined_is               two trees become one: the greater top goes under the lesser, or nothing moves
--     second_under, first_under, none_under
--                                         what is written for it
--     joined_all_zero, joined_all_suc     place by place
--     climbed                             a climb from a dart to the one over it
--     over_read, is_under_read            what is over a dart, as it is read
--     count_range                         how many darts pass a test, as an iterator counts them
--     nth-take, joined_all_front          what stands in front of two queues
-- Assumes nothing.
use Prim.Native.Nat.{ℕ, zero, suc, ◌+◌, ◌-◌, ◌≤◌, ◌<◌}
use mathlib.Core.Path.{◌≡◌, refl, sym, ap, ◌∙◌}
use mathlib.Core.Bool.{Bool, false, cond, not}
use mathlib.Core.List.{List}
use native.Mathlib.Omega.{arith}
use borrow.Author.Tests.{leb-true, leb-false, eqb-true, eqb-false, eq-eqb, ne_eqb, ltb-true, ltb-false, lt-ltb, le-ltb}
use lib.Dec.{eqb, ltb, leb}
use lib.ListN.{length, get_or, set, take, replicate, length-set, length-replicate, get_or-replicate}
use lib.Seq.{get_or-take, get_or-set_same, get_or-set_other}
use native.Mathlib.Numerals.{add-one}
use Rattle.std.specs.List.{count_by, range_with_len}
use Rattle.std.proofs.lemmas.List.{map-id}
use Rattle.std.proofs.lemmas.List.FromFn.{sum_by-map-range_with_len_more}
use Rattle.maps.specs.Least.{nth, count}
use Rattle.maps.proofs.Least.{Tested, passes, fails, tested, nth-suc, nth-zero, nth_at, nth_past}
use Rattle.words.specs.Forest.{climb, top_of, hang, under, joined, joined_all, Descends, Placed}

-- an array of places in which what is over a dart is less than it
pub record Forest (up : List ℕ) : Type 0 where
  pub long : length up ≡ 1020
  pub lower : Descends up

-- a place of the first m numbers of an array
pub nth-take : (m : ℕ) (xs : List ℕ) (k : ℕ) → k ≤ m → nth (take m xs) k ≡ nth xs k
nth-take m xs zero h = nth-zero (take m xs) ∙ sym (nth-zero xs)
nth-take m xs (suc k) h = nth-suc (take m xs) k ∙ get_or-take m xs k 0 h ∙ sym (nth-suc xs k)

-- what stands over a dart: nothing or another
data Over (up : List ℕ) (d : ℕ) : Type 0 where
  bare : nth up d ≡ 0 → Over up d
  covered : 0 < nth up d → Over up d

over : (up : List ℕ) (d : ℕ) → Over up d
over up d = at (nth up d) refl
  where
    at : (k : ℕ) → nth up d ≡ k → Over up d
    at zero e = bare e
    at (suc k) e = covered (omega arith)

-- at first no dart is over another
pub none_over : (d : ℕ) → 1 ≤ d → ◌≡◌ {A = ℕ} (nth (replicate 1020 0) d) 0
none_over d low = at (tested (leb d 1020))
  where
    at : Tested (leb d 1020) → ◌≡◌ {A = ℕ} (nth (replicate 1020 0) d) 0
    at (passes e) = nth_at (replicate 1020 0) d low ∙ get_or-replicate {A = ℕ} 1020 (d - 1) 0 0 (omega (arith, leb-true d 1020 e))
    at (fails e) = nth_past (replicate 1020 0) d (omega (arith, leb-false d 1020 e, length-replicate {A = ℕ} 1020 0))

pub descends_none : Descends (replicate 1020 0)
descends_none d low = omega (arith, none_over d low)

module _ (up : List ℕ) where
  climb_top : (k d : ℕ) → nth up d ≡ 0 → climb k up d ≡ d
  unfolding climb
  climb_top zero d e = refl
  climb_top (suc k) d e = simp (eq-eqb (nth up d) 0 e)

  climb_over : (k d : ℕ) → 0 < nth up d → climb (suc k) up d ≡ climb k up (nth up d)
  unfolding climb
  climb_over k d h = let other : eqb (nth up d) 0 ≡ false = ne_eqb (nth up d) 0 (λ e. omega arith) in simp other

  module _ (f : Descends up) where
    -- from d on, d steps lead as far as any more
    climb_enough : (j k d : ℕ) → 1 ≤ d → d ≤ j → d ≤ k → climb j up d ≡ climb k up d
    climb_enough zero k d low h h' = absurd (omega arith)
    climb_enough (suc j) zero d low h h' = absurd (omega arith)
    climb_enough (suc j) (suc k) d low h h' =
        let less = f d low in
        at (over up d) (λ c. climb_enough j k (nth up d) c (omega arith) (omega arith))
      where
        at : Over up d → (0 < nth up d → climb j up (nth up d) ≡ climb k up (nth up d)) → climb (suc j) up d ≡ climb (suc k) up d
        at (bare e) next = climb_top (suc j) d e ∙ sym (climb_top (suc k) d e)
        at (covered c) next = climb_over j d c ∙ next c ∙ sym (climb_over k d c)

    pub top_of_over : (d : ℕ) → 1 ≤ d → 0 < nth up d → top_of up d ≡ top_of up (nth up d)
    unfolding top_of
    top_of_over zero low c = absurd (omega arith)
    top_of_over (suc d) low c =
        let less = f (suc d) low in
        climb_over d (suc d) c ∙ climb_enough d (nth up (suc d)) (nth up (suc d)) c (omega arith) (omega arith)

    -- what holds of tops, and of a dart where it holds of the one over it, holds of every dart
    pub along_trees : (P : ℕ → Type 0) → ((d : ℕ) → 1 ≤ d → nth up d ≡ 0 → P d) → ((d : ℕ) → 1 ≤ d → 0 < nth up d → P (nth up d) → P d)
        → (d : ℕ) → 1 ≤ d → P d
    along_trees P top below d low = within d d low (omega arith)
      where
        within : (k d : ℕ) → 1 ≤ d → d ≤ k → P d
        within zero d low h = absurd (omega arith)
        within (suc k) d low h =
            let less = f d low in
            at (over up d) (λ c. within k (nth up d) c (omega arith))
          where
            at : Over up d → (0 < nth up d → P (nth up d)) → P d
            at (bare e) next = top d low e
            at (covered c) next = below d low c (next c)

  pub top_of_top : (d : ℕ) → nth up d ≡ 0 → top_of up d ≡ d
  unfolding top_of
  top_of_top d e = climb_top d d e

  module _ (f : Descends up) where
    pub top_of_low : (d : ℕ) → 1 ≤ d → 1 ≤ top_of up d
    top_of_low d low =
        along_trees f (λ d. 1 ≤ top_of up d)
        (λ d low e. omega (arith, top_of_top d e))
        (λ d low c h. omega (arith, top_of_over f d low c))
        d low

    pub top_of_le : (d : ℕ) → 1 ≤ d → top_of up d ≤ d
    top_of_le d low =
        along_trees f (λ d. top_of up d ≤ d)
        (λ d low e. omega (arith, top_of_top d e))
        (λ d low c h. omega (arith, top_of_over f d low c, f d low))
        d low

    pub nth_top_of : (d : ℕ) → 1 ≤ d → nth up (top_of up d) ≡ 0
    nth_top_of d low =
        along_trees f (λ d. nth up (top_of up d) ≡ 0)
        (λ d low e. ap (nth up) (top_of_top d e) ∙ e)
        (λ d low c h. ap (nth up) (top_of_over f d low c) ∙ h)
        d low

-- whatever is hung under a lesser dart, what is over a dart is less than it
pub descends_hang : (up : List ℕ) (t r : ℕ) → Descends up → 1 ≤ t → r < t → Descends (hang up t r)
unfolding hang
descends_hang up t r f t-low below zero low = absurd (omega arith)
descends_hang up t r f t-low below (suc d) low = at (tested (eqb (suc d) t)) (tested (ltb d (length up)))
  where
    at : Tested (eqb (suc d) t) → Tested (ltb d (length up)) → nth (set up (t - 1) r) (suc d) < suc d
    at (fails e) _ =
        omega (arith, nth-suc (set up (t - 1) r) d, get_or-set_other up (t - 1) d r 0 (λ z. eqb-false (suc d) t e (omega arith)), nth-suc up d, f (suc d) low)
    at (passes e) (passes h) =
        let same = eqb-true (suc d) t e in
        let place : t - 1 ≡ d = omega arith in
        rw place (omega (arith, nth-suc (set up d r) d, get_or-set_same up d r 0 (ltb-true d (length up) h)))
    at (passes e) (fails h) =
        omega (arith, nth_past (set up (t - 1) r) (suc d) (omega (arith, length-set up (t - 1) r, ltb-false d (length up) h)))

-- the top t of a tree has gone under r
module _ (up : List ℕ) (t r : ℕ) (f : Forest up) (placed : Placed t) (r-low : 1 ≤ r) (below : r < t) where
  inside : t - 1 < length up
  inside = omega (arith, f.long, placed.low, placed.high)

  nth_hang_same : nth (hang up t r) t ≡ r
  unfolding hang
  nth_hang_same =
      let here : suc (t - 1) ≡ t = omega (arith, placed.low) in
      ap (nth (set up (t - 1) r)) (sym here) ∙ nth-suc (set up (t - 1) r) (t - 1) ∙ get_or-set_same up (t - 1) r 0 inside

  nth_hang_other : (d : ℕ) → 1 ≤ d → (d ≡ t → ⊥) → nth (hang up t r) d ≡ nth up d
  unfolding hang
  nth_hang_other zero h other = absurd (omega arith)
  nth_hang_other (suc d) h other =
      nth-suc (set up (t - 1) r) d
      ∙ get_or-set_other up (t - 1) d r 0 (λ z. other (omega (arith, placed.low)))
      ∙ sym (nth-suc up d)

  length_hang : length (hang up t r) ≡ 1020
  unfolding hang
  length_hang = length-set up (t - 1) r ∙ f.long

  pub forest_hang : Forest (hang up t r)
  forest_hang = record { long = length_hang; lower = descends_hang up t r f.lower placed.low below }

  -- what is over a dart is what was, or r over t
  pub over_hang : (P : ℕ → ℕ → Type 0) → P t r → ((d : ℕ) → 1 ≤ d → P d (nth up d)) → (d : ℕ) → 1 ≤ d → P d (nth (hang up t r) d)
  over_hang P new old d h = at (tested (eqb d t))
    where
      at : Tested (eqb d t) → P d (nth (hang up t r) d)
      at (passes e) = let same = eqb-true d t e in rw (same, nth_hang_same) new
      at (fails e) = rw (nth_hang_other d h (eqb-false d t e)) (old d h)

  module _ (t-top : nth up t ≡ 0) (r_top : nth up r ≡ 0) where
    abbrev up' : List ℕ
    up' = hang up t r

    -- the tree of t is now r's, and the others are as they were
    record Moved (d : ℕ) : Type 0 where
      gone : top_of up d ≡ t → top_of up' d ≡ r
      kept : (top_of up d ≡ t → ⊥) → top_of up' d ≡ top_of up d

    r_still : top_of up' r ≡ r
    r_still = top_of_top up' r (nth_hang_other r r-low (λ e. omega arith) ∙ r_top)

    t_under : top_of up' t ≡ r
    t_under = top_of_over up' forest_hang.lower t placed.low (omega (arith, nth_hang_same)) ∙ ap (top_of up') nth_hang_same ∙ r_still

    moved_top : (d : ℕ) → 1 ≤ d → nth up d ≡ 0 → Moved d
    moved_top d h e =
        let own = top_of_top up d e in
        record {
          gone = λ is. ap (top_of up') (sym own ∙ is) ∙ t_under;
          kept = λ other. top_of_top up' d (nth_hang_other d h (λ z. other (own ∙ z)) ∙ e) ∙ sym own;
        }

    moved_below : (d : ℕ) → 1 ≤ d → 0 < nth up d → Moved (nth up d) → Moved d
    moved_below d h c m =
        let same : nth up' d ≡ nth up d = nth_hang_other d h (λ z. omega (arith, ap (nth up) z)) in
        let here : top_of up d ≡ top_of up (nth up d) = top_of_over up f.lower d h c in
        let then : top_of up' d ≡ top_of up' (nth up d) = top_of_over up' forest_hang.lower d h (omega arith) ∙ ap (top_of up') same in
        record {
          gone = λ is. then ∙ m.gone (sym here ∙ is);
          kept = λ other. then ∙ m.kept (λ z. other (here ∙ z)) ∙ sym here;
        }

    moved : (d : ℕ) → 1 ≤ d → Moved d
    moved = along_trees up f.lower Moved moved_top moved_below

    pub top_of_hang : (d : ℕ) → 1 ≤ d → top_of up d ≡ t → top_of (hang up t r) d ≡ r
    top_of_hang d h is = (moved d h).gone is

    pub top_of_kept : (d : ℕ) → 1 ≤ d → (top_of up d ≡ t → ⊥) → top_of (hang up t r) d ≡ top_of up d
    top_of_kept d h other = (moved d h).kept other

-- two trees become one: the greater top goes under the lesser, and nothing moves where they were one
pub data Hung (up : List ℕ) (a b : ℕ) : Type 0 where
  second_hung : a < b → under up a b ≡ hang up b a → Hung up a b
  first_hung : b < a → under up a b ≡ hang up a b → Hung up a b
  one_tree : a ≡ b → under up a b ≡ up → Hung up a b

pub hung : (up : List ℕ) (a b : ℕ) → Hung up a b
unfolding under
hung up a b = at (tested (ltb a b)) (tested (ltb b a))
  where
    at : Tested (ltb a b) → Tested (ltb b a) → Hung up a b
    at (passes e) k = second_hung (ltb-true a b e) (simp e)
    at (fails e) (passes k) = first_hung (ltb-true b a k) (simp (e, k))
    at (fails e) (fails k) = one_tree (omega (arith, ltb-false a b e, ltb-false b a k)) (simp (e, k))

pub joined_is : (up : List ℕ) (d e : ℕ) → joined up d e ≡ under up (top_of up d) (top_of up e)
unfolding joined
joined_is up d e = refl

-- what is written, by how the tops a and b stand to each other
module _ (up : List ℕ) (d e a b : ℕ) (first : a ≡ top_of up d) (second : b ≡ top_of up e) where
  joined_tops : joined up d e ≡ under up a b
  joined_tops = joined_is up d e ∙ rw (first, second) refl

  pub second_under : a < b → set up (b - 1) a ≡ joined up d e
  unfolding under hang
  second_under h = sym (joined_tops ∙ simp (lt-ltb a b h))

  pub first_under : b < a → set up (a - 1) b ≡ joined up d e
  unfolding under hang
  first_under h = sym (joined_tops ∙ simp (le-ltb a b (omega arith), lt-ltb b a h))

  pub none_under : b ≤ a → a ≤ b → up ≡ joined up d e
  unfolding under
  none_under h k = sym (joined_tops ∙ simp (le-ltb a b h, le-ltb b a k))

module _ (queue lead up : List ℕ) where
  pub joined_all_zero : joined_all 0 queue lead up ≡ up
  unfolding joined_all
  joined_all_zero = refl

  pub joined_all_suc : (k : ℕ) → joined_all (suc k) queue lead up ≡ joined (joined_all k queue lead up) (nth queue (suc k)) (nth lead (suc k))
  unfolding joined_all
  joined_all_suc k = refl

-- the dart over another, as a climb reads it: it has its place, and the same top
pub climbed : (up : List ℕ) (d above : ℕ) → Descends up → Placed d → above ≡ nth up d → (above ≡ 0 → ⊥) → Placed above × (top_of up above ≡ top_of up d)
climbed up d above f p is other =
    let lower = f d p.low in
    let some : 0 < nth up d = omega (arith, is, other) in
    (record { low = omega arith; high = omega (arith, is, p.high) }, ap (top_of up) is ∙ sym (top_of_over up f d p.low some))

-- what is over a dart, as it is read
pub over_read : (up : List ℕ) (d : ℕ) → Placed d → get_or up (d - 1) 0 ≡ nth up d
over_read up d p = sym (nth_at up d p.low)

pub is_under_read : (up : List ℕ) (d : ℕ) → Placed d → not (eqb (get_or up (d - 1) 0) 0) ≡ ltb 0 (nth up d)
is_under_read up d p = ap (λ (x : ℕ). not (eqb x 0)) (over_read up d p) ∙ at (tested (eqb (nth up d) 0))
  where
    at : Tested (eqb (nth up d) 0) → not (eqb (nth up d) 0) ≡ ltb 0 (nth up d)
    at (passes e) = rw (eqb-true (nth up d) 0 e) refl
    at (fails e) = simp (e, lt-ltb 0 (nth up d) (let other = eqb-false (nth up d) 0 e in omega arith))

-- the numbers from 1 to m that pass, counted by an iterator
pub count_range : (m : ℕ) (p : ℕ → Bool) → count_by p (range_with_len 1 m) ≡ count m p
unfolding count
count_range zero p = refl
count_range (suc m) p =
    let more = sum_by-map-range_with_len_more (λ x. cond (p x) 1 0) (λ (x : ℕ). x) 1 m (suc m) (omega arith) in
    rw (add-one, map-id (range_with_len 1 (suc m)), map-id (range_with_len 1 m)) at more ∙ ap (λ (k : ℕ). k + cond (p (suc m)) 1 0) (count_range m p)

-- what stands at the first m places of two queues, whatever stands behind
pub joined_all_front : (queue lead up : List ℕ) (m k : ℕ) → k ≤ m → joined_all k (take m queue) (take m lead) up ≡ joined_all k queue lead up
unfolding joined_all
joined_all_front queue lead up m zero h = refl
joined_all_front queue lead up m (suc k) h = rw (joined_all_front queue lead up m k (omega arith), nth-take m queue (suc k) h, nth-take m lead (suc k) h) refl
