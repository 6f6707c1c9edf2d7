-- The starts of a map are tried upwards against the best word so far, and some are passed over (01: "the least word in lexicographic
-- order over all m starts"): what `least_word` keeps, and what it has at its end.
--     Filter M kept           a start that is not kept has a greater word than one that is
--     Best M kept up d s b    of the starts below d that are kept, b is the least word and s the least start that yields it; those that
--                             yield it are in the tree of s
--     best_start              before the first start
--     best_passed             a start is passed over that is under a lesser dart
--     best_left               a start is left out that is not kept
--     best_less, best_tied, best_same, best_greater
--                             a start is tried, by how its word comes out
--     best_long               what is held is as long as a word
--     best_led                after all of them: s leads
--     best_signature, best_first, best_symmetries
--                             its word is the signature, and it and its tree are the start and the symmetries
-- Assumes nothing.
use Prim.Native.Nat.{ℕ, suc, ◌+◌, ◌-◌, ◌*◌, ◌≤◌, ◌<◌}
use mathlib.Core.Path.{◌≡◌, refl, sym, ap, ◌∙◌}
use mathlib.Core.Bool.{Bool, true, false}
use mathlib.Core.List.{List}
use mathlib.Core.Logic.{◌⊎◌, inl, inr}
use native.Mathlib.Omega.{arith}
use native.Mathlib.Nat.{eq-or-lt_of_le}
use borrow.Author.Tests.{eqb-true, eq-eqb, ltb-true, ltb-false}
use lib.Dec.{eqb, ltb}
use lib.ListN.{length, replicate, length-replicate}
use Rattle.maps.specs.Least.{nth, count}
use Rattle.maps.specs.Map.{Map, IsDart}
use Rattle.maps.specs.Accepted.{Accepted}
use Rattle.maps.proofs.Least.{Tested, passes, fails, tested, true_not_false, least_is, count_cong}
use Rattle.words.specs.Words.{word, less, signature, yields, start, symmetries}
use Rattle.words.specs.Forest.{top_of, joined_all}
use Rattle.words.proofs.Words.{length_word}
use Rattle.words.proofs.Order.{less_irreflexive, less_transitive, Compared, before, equal, after, compared, before_less, least_word_is, yields_word, word_yields}
use Rattle.words.proofs.Starts.{false_of_not_true, word_below, same_not_less, greater_not_less, greater_not_same}
use Rattle.words.proofs.Forest.{top_of_top, top_of_over, top_of_le}
use Rattle.words.proofs.Kin.{Kin, kin_top_word, Alike, kin_joined_all, First, first_stays, first_leads}

-- a start that is not kept has a greater word than one that is
pub record Filter (M : Map) (kept : ℕ → Bool) : Type 0 where
  pub by_word : (d e : ℕ) → IsDart M d → IsDart M e → word M d ≡ word M e → kept d ≡ kept e
  pub lesser_kept : (d : ℕ) → IsDart M d → kept d ≡ false → (e : ℕ) × IsDart M e × (kept e ≡ true) × (less (word M e) (word M d) ≡ true)

-- what is held: before the first start numbers above all labels, then the word of the start s
pub data Held (M : Map) (kept : ℕ → Bool) (d s : ℕ) (b : List ℕ) : Type 0 where
  nothing : b ≡ replicate (M.dim * M.darts) 65535 → Held M kept d s b
  leads : IsDart M s → s < d → kept s ≡ true → b ≡ word M s → Held M kept d s b

-- what the starts below d have left
pub record Best (M : Map) (kept : ℕ → Bool) (up : List ℕ) (d s : ℕ) (b : List ℕ) : Type 0 where
  pub kin : Kin M up
  pub held : Held M kept d s b
  pub none_less : (e : ℕ) → 1 ≤ e → e < d → kept e ≡ true → less (word M e) b ≡ false
  pub led : (e : ℕ) → 1 ≤ e → e < d → kept e ≡ true → word M e ≡ b → top_of up e ≡ s

-- the best word is that of s, the least dart that has it
pub record Tied (M : Map) (s : ℕ) (b : List ℕ) : Type 0 where
  pub is_first : First M s
  pub is_word : b ≡ word M s

-- before the first start
pub best_start : (M : Map) (kept : ℕ → Bool) (up : List ℕ) (s : ℕ) → Kin M up → Best M kept up 1 s (replicate (M.dim * M.darts) 65535)
best_start M kept up s k =
    record {
      kin = k;
      held = nothing refl;
      none_less = λ e low high _. absurd (omega arith);
      led = λ e low high _ _. absurd (omega arith);
    }

-- what holds below d and at d holds below d + 1
one_more : {d : ℕ} (P : ℕ → Type 0) → ((e : ℕ) → 1 ≤ e → e < d → P e) → P d → (e : ℕ) → 1 ≤ e → e < d + 1 → P e
one_more {d} P earlier here e low high = at (eq-or-lt_of_le (omega arith))
  where
    at : (e ≡ d) ⊎ (e < d) → P e
    at (inl same) = rw same here
    at (inr below) = earlier e low below

module _ {M : Map} (a : Accepted M) {kept : ℕ → Bool} (f : Filter M kept) {up : List ℕ} {d s : ℕ} {b : List ℕ} (best : Best M kept up d s b) where
  pub best_long : length b ≡ M.dim * M.darts
  best_long = at best.held
    where
      at : Held M kept d s b → length b ≡ M.dim * M.darts
      at (nothing is) = ap length is ∙ length-replicate {A = ℕ} (M.dim * M.darts) 65535
      at (leads dart high k is) = ap length is ∙ length_word a s dart

  -- what is held stays
  held_on : Held M kept d s b → Held M kept (d + 1) s b
  held_on (nothing is) = nothing is
  held_on (leads dart high k is) = leads dart (omega arith) k is

  -- what is not less than the best word is greater than all that is less
  above : (w v : List ℕ) → less w b ≡ true → less v b ≡ false → less w v ≡ true
  above w v h not-less = at (compared b v)
    where
      at : Compared b v → less w v ≡ true
      at (before k) = less_transitive w b v h (before_less k)
      at (equal e) = rw e at h
      at (after k) = absurd (true_not_false (before_less k) not-less)

  -- a start is passed over that is under a lesser dart: that one has its word, and was tried
  pub best_passed : IsDart M d → 0 < nth up d → Best M kept up (d + 1) s b
  best_passed dart covered =
      let k = best.kin in
      let lower = k.forest.lower d dart.0 in
      let u = nth up d in
      let same : word M u ≡ word M d = k.one_word d dart.0 dart.1 covered in
      let as-kept : kept u ≡ kept d = f.by_word u d (covered, omega arith) dart same in
      record {
        kin = k;
        held = held_on best.held;
        none_less = one_more (λ e. kept e ≡ true → less (word M e) b ≡ false) best.none_less
            (λ is. rw (← same) (best.none_less u covered lower (as-kept ∙ is)));
        led = one_more (λ e. kept e ≡ true → word M e ≡ b → top_of up e ≡ s) best.led
            (λ is e. top_of_over up k.forest.lower d dart.0 covered ∙ best.led u covered lower (as-kept ∙ is) (same ∙ e));
      }

  -- a start is left out that is not kept
  pub best_left : kept d ≡ false → Best M kept up (d + 1) s b
  best_left is =
      record {
        kin = best.kin;
        held = held_on best.held;
        none_less = one_more (λ e. kept e ≡ true → less (word M e) b ≡ false) best.none_less (λ k. absurd (true_not_false k is));
        led = one_more (λ e. kept e ≡ true → word M e ≡ b → top_of up e ≡ s) best.led (λ k e. absurd (true_not_false k is));
      }

  -- a start is tried whose word is less
  pub best_less : IsDart M d → nth up d ≡ 0 → kept d ≡ true → less (word M d) b ≡ true → Best M kept up (d + 1) d (word M d)
  best_less dart top is h =
      record {
        kin = best.kin;
        held = leads dart (omega arith) is refl;
        none_less = one_more (λ e. kept e ≡ true → less (word M e) (word M d) ≡ false)
            (λ e low high k. greater_not_less (word M e) (word M d) (above (word M d) (word M e) h (best.none_less e low high k)))
            (λ k. less_irreflexive (word M d));
        led = one_more (λ e. kept e ≡ true → word M e ≡ word M d → top_of up e ≡ d)
            (λ e low high k same. absurd (true_not_false (rw (← same) at h) (best.none_less e low high k)))
            (λ k same. top_of_top up d top);
      }

  -- one whose word is greater
  pub best_greater : less b (word M d) ≡ true → Best M kept up (d + 1) s b
  best_greater h =
      record {
        kin = best.kin;
        held = held_on best.held;
        none_less = one_more (λ e. kept e ≡ true → less (word M e) b ≡ false) best.none_less (λ k. greater_not_less (word M d) b h);
        led = one_more (λ e. kept e ≡ true → word M e ≡ b → top_of up e ≡ s) best.led (λ k e. absurd (greater_not_same (word M d) b h e));
      }

  -- the least start of the best word is the least dart of that word
  first : IsDart M s → s < d → kept s ≡ true → b ≡ word M s → First M s
  first dart high k is = record { dart = dart; least = λ e there same. at e there same (tested (ltb e d)) }
    where
      at : (e : ℕ) → IsDart M e → word M e ≡ word M s → Tested (ltb e d) → s ≤ e
      at e there same (passes h) =
          let top = best.led e there.0 (ltb-true e d h) (f.by_word e s there dart same ∙ k) (same ∙ sym is) in
          omega (arith, top_of_le up best.kin.forest.lower e there.0)
      at e there same (fails h) = omega (arith, ltb-false e d h)

  -- a start whose word is the best has the word of the one that leads
  pub best_tied : IsDart M d → word M d ≡ b → Tied M s b
  best_tied dart same = at best.held
    where
      at : Held M kept d s b → Tied M s b
      at (nothing is) = absurd (true_not_false (rw (← is, same) at (word_below a d dart)) (less_irreflexive b))
      at (leads s-dart high k is) = record { is_first = first s-dart high k is; is_word = is }

  -- its queue is joined with that of s
  pub best_same : IsDart M d → word M d ≡ b → {queue lead : List ℕ} → Alike M queue lead M.darts → nth queue 1 ≡ d → nth lead 1 ≡ s
      → Best M kept (joined_all M.darts queue lead up) (d + 1) s b
  best_same dart same {queue} {lead} alike of-d of-s =
      let s-first = (best_tied dart same).is_first in
      let all : suc (M.darts - 1) ≡ M.darts = omega (arith, a.bounds.darts_least) in
      let led-d = first_leads a best.kin alike s-first of-s (M.darts - 1) (omega (arith, a.bounds.darts_least)) in
      record {
        kin = kin_joined_all a best.kin alike M.darts (omega arith);
        held = held_on best.held;
        none_less = one_more (λ e. kept e ≡ true → less (word M e) b ≡ false) best.none_less (λ _. same_not_less (word M d) b same);
        led = one_more (λ e. kept e ≡ true → word M e ≡ b → top_of (joined_all M.darts queue lead up) e ≡ s)
            (λ e low below kept-e one. first_stays a best.kin alike s-first M.darts (omega arith) e low (best.led e low below kept-e one))
            (λ _ _. rw (all, of-d) at led-d);
      }

-- all starts are tried, passed over or left out
module _ {M : Map} (a : Accepted M) {kept : ℕ → Bool} (f : Filter M kept) {up : List ℕ} {d s : ℕ} {b : List ℕ} (best : Best M kept up d s b) (past : M.darts < d) where
  -- no word is less than the best
  none_at_all : (e : ℕ) → 1 ≤ e → e ≤ M.darts → less (word M e) b ≡ false
  none_at_all e low high = at (tested (kept e))
    where
      at : Tested (kept e) → less (word M e) b ≡ false
      at (passes k) = best.none_less e low (omega arith) k
      at (fails k) =
          let other = f.lesser_kept e (low, high) k in
          let o = other.0 in
          let there = other.1 in
          false_of_not_true (less (word M e) b)
          (λ h. true_not_false (less_transitive (word M o) (word M e) b other.3 h) (best.none_less o there.0 (omega (arith, there.1)) other.2))

  pub best_led : Tied M s b
  best_led = at best.held
    where
      at : Held M kept d s b → Tied M s b
      at (nothing is) =
          let one : IsDart M 1 = (omega arith, a.bounds.darts_least) in
          absurd (true_not_false (rw (← is) at (word_below a 1 one)) (none_at_all 1 one.0 one.1))
      at (leads dart high k is) = record { is_first = first a f best dart high k is; is_word = is }

  pub best_signature : b ≡ signature M
  unfolding signature
  best_signature =
      let l = best_led in
      let dart = l.is_first.dart in
      l.is_word ∙ sym (least_word_is M M.darts s dart.0 dart.1 (λ e low high. rw (← l.is_word) (none_at_all e low high)))

  yields_best : (e : ℕ) → yields M (signature M) e ≡ true → word M e ≡ b
  yields_best e h = yields_word M (signature M) e h ∙ sym best_signature

  pub best_first : s ≡ start M
  unfolding start
  best_first =
      let l = best_led in
      let dart = l.is_first.dart in
      sym
      (least_is (yields M (signature M)) M.darts
      (record {
        low = dart.0;
        high = dart.1;
        hit = word_yields M (signature M) s (sym l.is_word ∙ best_signature);
        before = λ e low below.
            false_of_not_true (yields M (signature M) e)
            (λ h. let no = l.is_first.least e (low, omega (arith, dart.1)) (yields_best e h ∙ l.is_word) in omega arith);
      }))

  -- a dart has the least word exactly when its top is the start
  top_yields : (e : ℕ) → 1 ≤ e → e ≤ M.darts → eqb (top_of up e) s ≡ yields M (signature M) e
  top_yields e low high = at (tested (eqb (top_of up e) s)) (tested (yields M (signature M) e))
    where
      there : IsDart M e
      there = (low, high)

      one_word : top_of up e ≡ s → word M e ≡ signature M
      one_word is = sym (kin_top_word best.kin e there) ∙ ap (word M) is ∙ sym best_led.is_word ∙ best_signature

      -- what has the least word is kept
      led : word M e ≡ b → top_of up e ≡ s
      led same = inside (tested (kept e))
        where
          inside : Tested (kept e) → top_of up e ≡ s
          inside (passes k) = best.led e low (omega arith) k same
          inside (fails k) =
              let other = f.lesser_kept e there k in
              let o = other.1 in
              absurd (true_not_false (rw same at other.3) (none_at_all other.0 o.0 o.1))

      at : Tested (eqb (top_of up e) s) → Tested (yields M (signature M) e) → eqb (top_of up e) s ≡ yields M (signature M) e
      at (passes h) y = h ∙ sym (word_yields M (signature M) e (one_word (eqb-true (top_of up e) s h)))
      at (fails h) (passes y) = eq-eqb (top_of up e) s (led (yields_best e y)) ∙ sym y
      at (fails h) (fails y) = h ∙ sym y

  pub best_symmetries : count M.darts (λ e. eqb (top_of up e) s) ≡ symmetries M
  unfolding symmetries
  best_symmetries = count_cong {p = λ e. eqb (top_of up e) s} {q = yields M (signature M)} M.darts top_yields
