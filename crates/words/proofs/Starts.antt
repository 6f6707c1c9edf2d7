-- A start is tried against a word that is held: how its word comes out.
--     Against, against                   a word is less than the best, the same or greater, with what `side_of` and `lesser` are there
--     less_side, same_side, greater_side
--                                        how each comes out
--     lesser_less, lesser_same, lesser_greater
--                                        which of the two is the lesser
--     seeks_ready                        each start may be tried against a word that is held
--     same_stays                         a start that comes out the same is not left
--     same-yields, less_told             what a start that came out so says of its word
--     word_below                         every word is less than numbers above all labels
-- Assumes nothing.
use Prim.Native.Nat.{ℕ, ◌*◌, ◌≤◌}
use mathlib.Core.Path.{◌≡◌, refl, sym, ap, ◌∙◌}
use mathlib.Core.Bool.{Bool, true, false}
use mathlib.Core.List.{List}
use native.Mathlib.Omega.{arith}
use native.Mathlib.Nat.{le_refl, zero-mul, one-mul, mul-le-mul_right}
use lib.ListN.{get_or, replicate, length-replicate, get_or-replicate}
use Rattle.std.specs.declared.cmp.Ordering.{Ordering}
use Rattle.std.specs.declared.cmp.Ordering.TheVariants.{Less, Equal, Greater}
use Rattle.std.specs.Ordering.{is_lt, is_eq}
use Rattle.maps.specs.Least.{nth}
use Rattle.maps.specs.Map.{Map, IsDart, sew}
use Rattle.maps.specs.Given.{Given, place_of, map_of}
use Rattle.maps.specs.Accepted.{Accepted}
use Rattle.maps.proofs.Least.{Tested, passes, fails, tested, true_not_false, nth-suc}
use Rattle.maps.proofs.Accepted.{darts_most}
use Rattle.labels.specs.Queue.{label_in, labelling}
use Rattle.labels.proofs.Reached.{labelling_numbers}
use Rattle.words.specs.Words.{word, same, less, lesser, yields}
use Rattle.words.specs.Inside.{side_of, leaves_at, Ready}
use Rattle.words.proofs.Words.{length_word, nth_word}
use Rattle.words.proofs.Order.{same_equal, equal_same, less_irreflexive, less_transitive, before_less, Compared, before, equal, after, compared, yields_word, word_yields}
use Rattle.words.proofs.Lexicographic.{less_at}

-- each start may be tried against a word that is held, with what the last one left
pub seeks_ready : {g : Given} {d : ℕ} → IsDart (map_of g) d → Ready g d g.m
seeks_ready {g} dart = record { dart = dart; some_rows = le_refl g.m }

-- what fails is false
pub false_of_not_true : (b : Bool) → (b ≡ true → ⊥) → b ≡ false
false_of_not_true b never = at (tested b)
  where
    at : Tested b → b ≡ false
    at (passes e) = absurd (never e)
    at (fails e) = e

module _ (w b : List ℕ) where
  pub lesser_less : less w b ≡ true → lesser b w ≡ w
  unfolding lesser
  lesser_less h = simp h

  lesser_stays : less w b ≡ false → lesser b w ≡ b
  unfolding lesser
  lesser_stays h = simp h

  pub same_not_less : w ≡ b → less w b ≡ false
  same_not_less e = rw e (less_irreflexive b)

  pub greater_not_less : less b w ≡ true → less w b ≡ false
  greater_not_less h = false_of_not_true (less w b) (λ k. true_not_false (less_transitive w b w k h) (less_irreflexive w))

  pub greater_not_same : less b w ≡ true → w ≡ b → ⊥
  greater_not_same h e = true_not_false h (rw e (less_irreflexive b))

  pub lesser_same : w ≡ b → lesser b w ≡ b
  lesser_same e = lesser_stays (same_not_less e)

  pub lesser_greater : less b w ≡ true → lesser b w ≡ b
  lesser_greater h = lesser_stays (greater_not_less h)

  pub less_side : less w b ≡ true → side_of w b ≡ Less
  unfolding side_of
  less_side h = simp h

  pub same_side : w ≡ b → side_of w b ≡ Equal
  unfolding side_of
  same_side e = simp (same_not_less e, equal_same w b e)

  pub greater_side : less b w ≡ true → side_of w b ≡ Greater
  unfolding side_of
  greater_side h = simp (greater_not_less h, false_of_not_true (same w b) (λ e. greater_not_same h (same_equal w b e)))

  -- the word w against the best word b
  pub data Against : Type 0 where
    lower : side_of w b ≡ Less → less w b ≡ true → lesser b w ≡ w → Against
    level : side_of w b ≡ Equal → w ≡ b → lesser b w ≡ b → Against
    higher : side_of w b ≡ Greater → less b w ≡ true → lesser b w ≡ b → Against

  pub against : Against
  against = at (compared w b)
    where
      at : Compared w b → Against
      at (before h) = let l = before_less h in lower (less_side l) l (lesser_less l)
      at (equal e) = level (same_side e) e (lesser_same e)
      at (after h) = let l = before_less h in higher (greater_side l) l (lesser_greater l)

-- a start that comes out the same is not left
pub same_stays : (firm : Bool) (s : Ordering) → is_eq s ≡ true → leaves_at firm s ≡ false
unfolding leaves_at
same_stays firm Less e = absurd (true_not_false e refl)
same_stays firm Equal e = refl
same_stays firm Greater e = absurd (true_not_false e refl)

-- a start comes out the same exactly when it yields the word
pub same-yields : (M : Map) (w : List ℕ) (d : ℕ) (s : Ordering) (b : Bool) → s ≡ side_of (word M d) w → b ≡ is_eq s → yields M w d ≡ b
same-yields M w d s b is told = at (against (word M d) w)
  where
    tells : (t : Ordering) → side_of (word M d) w ≡ t → b ≡ is_eq t
    tells t e = told ∙ ap is_eq (is ∙ e)

    misses : (yields M w d ≡ true → ⊥) → yields M w d ≡ false
    misses never = false_of_not_true (yields M w d) never

    differs : (t : Ordering) → side_of (word M d) w ≡ t → (t ≡ Equal → ⊥) → yields M w d ≡ false
    differs t e other = misses (λ y. other (sym e ∙ same_side (word M d) w (yields_word M w d y)))

    at : Against (word M d) w → yields M w d ≡ b
    at (lower e h l) = differs Less e (λ z. let y : ◌≡◌ {A = ℕ} 0 1 = cc in omega arith) ∙ sym (tells Less e)
    at (level e h l) = word_yields M w d h ∙ sym (tells Equal e)
    at (higher e h l) = differs Greater e (λ z. let y : ◌≡◌ {A = ℕ} 0 1 = cc in omega arith) ∙ sym (tells Greater e)

-- and less exactly when its word is
pub less_told : (w b : List ℕ) (s : Ordering) (t : Bool) → s ≡ side_of w b → t ≡ is_lt s → less w b ≡ t
less_told w b s t is told = at (against w b)
  where
    tells : (u : Ordering) → side_of w b ≡ u → t ≡ is_lt u
    tells u e = told ∙ ap is_lt (is ∙ e)

    at : Against w b → less w b ≡ t
    at (lower e h l) = h ∙ sym (tells Less e)
    at (level e h l) = same_not_less w b h ∙ sym (tells Equal e)
    at (higher e h l) = greater_not_less w b h ∙ sym (tells Greater e)

-- the first place of a table
pub first_place_lem : (n : ℕ) → place_of n 1 1 ≡ 1
unfolding place_of
first_place_lem n = omega (arith, zero-mul n)

module _ {M : Map} (a : Accepted M) where
  pub some_numbers : 1 ≤ M.dim * M.darts
  some_numbers = omega (arith, a.bounds.darts_least, mul-le-mul_right M.darts a.bounds.dim_least, one-mul M.darts)

  module _ (d : ℕ) (dart : IsDart M d) where
    -- the first number of a word is a label
    pub word_first : get_or (word M d) 0 0 ≤ M.darts
    word_first =
        let q = labelling M d in
        let there = nth_word a d dart 1 1 (omega arith) a.bounds.darts_least (omega arith) a.bounds.dim_least in
        let first : nth (word M d) 1 ≡ label_in q (sew M 1 (nth q 1)) = ap (nth (word M d)) (sym (first_place_lem M.dim)) ∙ there in
        omega (arith, nth-suc (word M d) 0, first, (labelling_numbers a d dart).label_high (sew M 1 (nth q 1)))

    -- any word is less than numbers above all labels
    pub word_below : less (word M d) (replicate (M.dim * M.darts) 65535) ≡ true
    word_below =
        let size = M.dim * M.darts in
        let long = length_word a d dart in
        let high = length-replicate {A = ℕ} size 65535 in
        let at_first = get_or-replicate {A = ℕ} size 0 65535 0 some_numbers in
        less_at (word M d) (replicate size 65535) 0 (omega (arith, some_numbers)) (omega (arith, some_numbers)) refl
        (omega (arith, word_first, darts_most a.bounds))
