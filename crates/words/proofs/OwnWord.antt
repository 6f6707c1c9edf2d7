-- The laws of `specs/Own.antt`: a word is the signature exactly when one start yields it and none is less.
--     own_yielded, own_less                 by what the starts have shown
--     own_first                             a table that is its own signature is what start 1 yields
--     own_refused, own_told                 the answer, by the verdict on the table and that
--     shown_own_only, own_only              no second answer fits
-- Assumes nothing.
use Prim.Native.Nat.{ℕ, ◌≤◌}
use mathlib.Core.Path.{◌≡◌, refl, sym, ap, ◌∙◌}
use mathlib.Core.Bool.{Bool, true, false}
use mathlib.Core.List.{List}
use native.Mathlib.Omega.{arith}
use Rattle.std.specs.Prelude.{Result, Ok, Err}
use Rattle.maps.specs.Map.{Map, IsDart}
use Rattle.maps.specs.Given.{Given, map_of}
use Rattle.maps.specs.Verdict.{accepted, accepts}
use Rattle.maps.specs.Shown.{shown_refusal}
use Rattle.maps.specs.declared.Refusal.{Refusal}
use Rattle.maps.specs.Accepted.{Accepted}
use Rattle.maps.proofs.Least.{true_not_false, Misses}
use Rattle.maps.proofs.Answer.{refusal_only, refusal_low, refusal_refuses}
use Rattle.labels.specs.Judging.{check_answer}
use Rattle.words.specs.Words.{word, same, less, signature, yields, start}
use Rattle.words.specs.Own.{OwnAnswer, shown_own, own_answer}
use Rattle.words.proofs.Order.{same_equal, equal_same, least_word_is, signature_least, start_word, yields_word, word_yields}
use Rattle.words.proofs.Starts.{false_of_not_true}
use Rattle.words.proofs.Meaning.{signature_start}

module _ (M : Map) (w : List ℕ) where
  -- none is less, and e yields it
  pub own_yielded : Misses (λ d. less (word M d) w) M.darts → (e : ℕ) → IsDart M e → yields M w e ≡ true → same w (signature M) ≡ true
  unfolding signature
  own_yielded none e dart hit =
      let is : word M e ≡ w = yields_word M w e hit in
      let least-here : (d : ℕ) → 1 ≤ d → d ≤ M.darts → less (word M d) (word M e) ≡ false = λ d low high. rw is (none d low high) in
      equal_same w _ (sym is ∙ sym (least_word_is M M.darts e dart.0 dart.1 least-here))

  -- a start is less
  pub own_less : (d : ℕ) → IsDart M d → less (word M d) w ≡ true → same w (signature M) ≡ false
  own_less d dart below =
      false_of_not_true (same w (signature M)) (λ e. true_not_false (rw (same_equal w (signature M) e) at below) (signature_least M d dart))

-- start 1 does not yield the table: a signature read as a table has start 1
pub own_first : (g : Given) → Accepted (map_of g) → yields (map_of g) g.table 1 ≡ false → same g.table (signature (map_of g)) ≡ false
unfolding map_of
own_first g a miss =
    false_of_not_true (same g.table (signature (map_of g)))
    (λ e.
    let is : g.table ≡ signature (map_of g) = same_equal g.table (signature (map_of g)) e in
    let from-1 : start (map_of g) ≡ 1 = rw (← is) at (signature_start a) in
    let own : word (map_of g) 1 ≡ g.table = ap (word (map_of g)) (sym from-1) ∙ start_word (map_of g) a.bounds.darts_least ∙ sym is in
    true_not_false (word_yields (map_of g) g.table 1 own) miss)

module _ (g : Given) where
  pub own_refused : (r : Refusal) → shown_refusal r ≡ check_answer g → shown_own (Err r) ≡ own_answer g
  unfolding own_answer
  own_refused r is = rw (← is, refusal_refuses r) refl

  pub own_told : accepted ≡ check_answer g → (own : Bool) → own ≡ same g.table (signature (map_of g)) → shown_own (Ok own) ≡ own_answer g
  unfolding own_answer accepts accepted
  own_told takes own is = rw (← takes, is) refl

-- no second answer fits
pub shown_own_only : (r s : Result Bool Refusal) → shown_own r ≡ shown_own s → r ≡ s
unfolding accepted
shown_own_only (Ok a) (Ok b) same = ap Ok (ap (λ (o : OwnAnswer). o.own) same)
shown_own_only (Ok a) (Err s) same = let number : 0 ≡ (shown_refusal s).number = ap (λ (o : OwnAnswer). o.verdict.number) same in absurd (omega (arith, refusal_low s))
shown_own_only (Err r) (Ok b) same = let number : (shown_refusal r).number ≡ 0 = ap (λ (o : OwnAnswer). o.verdict.number) same in absurd (omega (arith, refusal_low r))
shown_own_only (Err r) (Err s) same = ap Err (refusal_only r s (ap (λ (o : OwnAnswer). o.verdict) same))

pub own_only : (g : Given) (r s : Result Bool Refusal) → shown_own r ≡ own_answer g → shown_own s ≡ own_answer g → r ≡ s
own_only g r s a b = shown_own_only r s (a ∙ sym b)
