-- The laws of `specs/Match.antt`: when the match accepts, what it shows, and that its answer is what its lines show.
--     image_shares             where dart 1 has an image, the two maps share its word
--     shown_matching, shown_first, shown_only
--                              what is shown is a matching, takes dart 1 to its image, and is the only one that does
--     image_least              no matching takes dart 1 to a lesser dart
--     image_none               where dart 1 has no image there is no matching
--     length-shown             as many images as darts
--     match_first, match_second, match_unlike, match_none, match_passed
--                              the answer, by what each judging gives
--     as_mismatch, no_mismatch
--                              a refusal that became a mismatch
--     matches_refused, matches_passed
--                              an answer and its output
--     mismatch_only, mismatch_refuses, match_verdict_only
--                              an answer is told by what it shows
--     match_answered           some answer shows each verdict
--     matches_only             no second answer fits
--     match_shows              the answer is what its lines show
--     Cleared, match_clear     what an accepted match has passed
-- Assumes nothing.
use Prim.Native.Nat.{ℕ, ◌+◌, ◌≤◌, ◌<◌}
use mathlib.Core.Path.{◌≡◌, refl, sym, ap, ◌∙◌}
use mathlib.Core.Bool.{Bool, true, false, ◌&&◌}
use mathlib.Core.List.{List, [], ◌∷◌}
use mathlib.Core.Logic.{◌↔◌, ◌⊎◌, inl, inr}
use native.Mathlib.Omega.{arith}
use native.Mathlib.Nat.{le_refl}
use borrow.Author.Tests.{eq-eqb, ne_eqb, eqb-true, eqb-false, lt-ltb, ltb-true, ltb-false, leb-true}
use lib.Dec.{eqb, ltb}
use lib.ListN.{length, length-map}
use Rattle.maps.specs.Least.{nth, least, up_to}
use Rattle.maps.specs.Map.{Map, IsDart}
use Rattle.maps.specs.Accepted.{Accepted}
use Rattle.maps.specs.Matching.{Matching, Matched}
use Rattle.maps.specs.Given.{Given, map_of}
use Rattle.maps.specs.Verdict.{Verdict, accepted, refused, accepts, unless, in_order, of_second}
use Rattle.maps.specs.Lines.{Shows, here, on, none, plain}
use Rattle.maps.specs.Rules.{judge_output}
use Rattle.std.specs.Prelude.{Result, Ok, Err, MatchResult}
use Rattle.std.specs.Result.{IsErrAnd}
use Rattle.std.proofs.lemmas.Result.{err_from_is_err_and}
use Rattle.maps.specs.declared.Refusal.{Refusal}
use Rattle.maps.specs.Shown.{shown_refusal}
use Rattle.maps.specs.declared.Output.TheVariants.{Images}
use Rattle.maps.proofs.Least.{Tested, passes, fails, tested, true_not_false, Found, least_found, Sought, nowhere, somewhere, sought, length-up_to}
use Rattle.maps.proofs.Verdict.{refused_refuses, in_order_passed, in_order_refused, in_order_first, unless_passed, unless_refused, unless-accepts}
use Rattle.maps.proofs.Lines.{clear_shows, plain_silent, shows_then, shows_raised, both_pass}
use Rattle.maps.proofs.Answer.{refusal_only, refusal_low, refusal_high, refusal_refuses, Answered, all_done, one_more, answered_in_order, answered_unless, answered_as, answered_second}
use Rattle.labels.specs.Judging.{table_answer, check_answer}
use Rattle.labels.specs.Theorems.{CheckShows}
use Rattle.labels.proofs.Judging.{table_shows, table_clear, check_whole, table_answered, check_answered}
use Rattle.labels.proofs.Theorems.{check_shows}
use Rattle.words.specs.Words.{word, yields, by_labels}
use Rattle.words.specs.Sign.{over}
use Rattle.words.specs.Match.{image_of_first, shown, judge_pair, judge_matching, match_answer, match_output, shown_mismatch, match_verdict, MatchesAs, Unlike, match_lines}
use Rattle.words.specs.declared.matching.Mismatch.{Mismatch}
use Rattle.words.specs.declared.matching.Mismatch.TheVariants.{First, Second, Unmatched}
use Rattle.words.proofs.Order.{yields_word, word_yields}
use Rattle.words.proofs.Carried.{word_carried}
use Rattle.words.proofs.Labels.{SameWord}
use Rattle.words.proofs.Meaning.{words_matching, words_start, words_matching_only}

-- two accepted maps of one dimension
module _ {M M' : Map} (a : Accepted M) (a' : Accepted M') (same_dim : M.dim ≡ M'.dim) where
  one : IsDart M 1
  one = (le_refl 1, a.bounds.darts_least)

  image_found : 0 < image_of_first M M' → Found (yields M' (word M 1)) M'.darts (image_of_first M M')
  unfolding image_of_first
  image_found some = least_found (yields M' (word M 1)) M'.darts some

  -- where dart 1 has an image, the two maps share its word
  pub image_shares : 0 < image_of_first M M' → SameWord M 1 M' (image_of_first M M')
  image_shares some =
      let f = image_found some in
      record {
        accepted = a;
        accepted' = a';
        start = one;
        start' = (f.low, f.high);
        same_dim = same_dim;
        same_word = sym (yields_word M' (word M 1) (image_of_first M M') f.hit);
      }

  pub shown_matching : 0 < image_of_first M M' → Matching M M' (shown M M')
  unfolding shown
  shown_matching some = words_matching (image_shares some)

  pub shown_first : 0 < image_of_first M M' → nth (shown M M') 1 ≡ image_of_first M M'
  unfolding shown
  shown_first some = words_start (image_shares some)

  pub shown_only : 0 < image_of_first M M' → (g : List ℕ) → Matching M M' g → nth g 1 ≡ image_of_first M M' → g ≡ shown M M'
  unfolding shown
  shown_only some g m to = words_matching_only (image_shares some) m to

  -- the image of dart 1 in a matching yields the word
  image_yields : (g : List ℕ) → Matching M M' g → yields M' (word M 1) (nth g 1) ≡ true
  image_yields g m = word_yields M' (word M 1) (nth g 1) (sym (word_carried m a 1 one))

  -- so no matching takes dart 1 to a lesser dart
  pub image_least : (g : List ℕ) → Matching M M' g → (0 < image_of_first M M') × (image_of_first M M' ≤ nth g 1)
  unfolding image_of_first
  image_least g m = at (sought p M'.darts)
    where
      p : ℕ → Bool
      p = yields M' (word M 1)

      there : IsDart M' (nth g 1)
      there = m.to_darts 1 one

      at : Sought p M'.darts → (0 < least M'.darts p) × (least M'.darts p ≤ nth g 1)
      at (nowhere is misses) = absurd (true_not_false (image_yields g m) (misses (nth g 1) there.0 there.1))
      at (somewhere d is f) = rw is (f.low, least_before f (tested (ltb (nth g 1) d)))
        where
          least_before : Found p M'.darts d → Tested (ltb (nth g 1) d) → d ≤ nth g 1
          least_before f (passes below) = absurd (true_not_false (image_yields g m) (f.before (nth g 1) there.0 (ltb-true (nth g 1) d below)))
          least_before f (fails above) = ltb-false (nth g 1) d above

  pub image_none : image_of_first M M' ≡ 0 → ¬ Matched M M'
  unfolding Matched
  image_none empty m = omega (arith, (image_least m.0 m.1).0)

pub length-shown : (M M' : Map) → length (shown M M') ≡ M.darts
unfolding shown by_labels
length-shown M M' = length-map (up_to M.darts) _ ∙ length-up_to M.darts

-- the second map's verdict, raised
pub of_second_passed : (v : Verdict) → accepts v ≡ true → of_second v ≡ accepted
unfolding of_second
of_second_passed v e = simp e

pub of_second-refused : (v : Verdict) → accepts v ≡ false → of_second v ≡ refused (20 + v.number) v.place
unfolding of_second
of_second-refused v e = simp e

pub of_second-accepts : (v : Verdict) → of_second v ≡ accepted → accepts v ≡ true
unfolding accepts accepted
of_second-accepts v is = at (tested (accepts v))
  where
    at : Tested (accepts v) → accepts v ≡ true
    at (passes e) = e
    at (fails e) = absurd (true_not_false (ap accepts (sym (of_second-refused v e) ∙ is)) (refused_refuses (20 + v.number) v.place (omega arith)))

-- 10 where n or m differ
pair_fails : (a b : Given) → ((eqb a.n b.n && eqb a.m b.m) ≡ false) ↔ Unlike a b
pair_fails a b = (to (tested (eqb a.n b.n)), back)
  where
    to : Tested (eqb a.n b.n) → (eqb a.n b.n && eqb a.m b.m) ≡ false → Unlike a b
    to (passes e) h = inr (eqb-false a.m b.m (simp e at h))
    to (fails e) h = inl (eqb-false a.n b.n e)

    back : Unlike a b → (eqb a.n b.n && eqb a.m b.m) ≡ false
    back (inl other) = simp (ne_eqb a.n b.n other)
    back (inr other) = at (tested (eqb a.n b.n))
      where
        at : Tested (eqb a.n b.n) → (eqb a.n b.n && eqb a.m b.m) ≡ false
        at (passes e) = simp (e, ne_eqb a.m b.m other)
        at (fails e) = simp e

pub pair_unlike : (a b : Given) → Unlike a b → judge_pair a b ≡ refused 10 0
unfolding judge_pair
pair_unlike a b h = unless_refused _ 10 0 ((pair_fails a b).1 h)

pub pair_alike : (a b : Given) → a.n ≡ b.n → a.m ≡ b.m → judge_pair a b ≡ accepted
unfolding judge_pair
pair_alike a b n m = unless_passed _ 10 0 (simp (eq-eqb a.n b.n n, eq-eqb a.m b.m m))

-- verdicts of two numbers are two
apart : {v w : Verdict} → v ≡ w → (v.number ≡ w.number → ⊥) → ⊥
apart same other = other (ap (λ (v : Verdict). v.number) same)

-- two mismatches that show one number at one place are one, and so are two answers
pub mismatch_only : (e f : Mismatch) → shown_mismatch e ≡ shown_mismatch f → e ≡ f
unfolding refused
mismatch_only (First r) (First s) same = ap First (refusal_only r s same)
mismatch_only (First r) (Second s) same = absurd (apart same (omega (arith, refusal_high r)))
mismatch_only (First r) Unmatched same = absurd (apart same (omega (arith, refusal_high r)))
mismatch_only (Second r) (First s) same = absurd (apart same (omega (arith, refusal_high s)))
mismatch_only (Second r) (Second s) same =
    let number : 20 + (shown_refusal r).number ≡ 20 + (shown_refusal s).number = ap (λ (v : Verdict). v.number) same in
    let one : (shown_refusal r).number ≡ (shown_refusal s).number = omega arith in
    let place : (shown_refusal r).place ≡ (shown_refusal s).place = ap (λ (v : Verdict). v.place) same in
    ap Second (refusal_only r s (λ i. record { number = one i; place = place i }))
mismatch_only (Second r) Unmatched same = absurd (apart same (omega arith))
mismatch_only Unmatched (First s) same = absurd (apart same (omega (arith, refusal_high s)))
mismatch_only Unmatched (Second s) same = absurd (apart same (omega arith))
mismatch_only Unmatched Unmatched same = refl

mismatch_low : (e : Mismatch) → 1 ≤ (shown_mismatch e).number
unfolding refused
mismatch_low (First r) = refusal_low r
mismatch_low (Second r) = omega arith
mismatch_low Unmatched = omega arith

pub mismatch_refuses : (e : Mismatch) → accepts (shown_mismatch e) ≡ false
unfolding accepts
mismatch_refuses e = let low = mismatch_low e in ne_eqb _ 0 (λ z. omega arith)

pub match_verdict_only : (r s : Result Unit Mismatch) → match_verdict r ≡ match_verdict s → r ≡ s
unfolding accepted
match_verdict_only (Ok a) (Ok b) same = refl
match_verdict_only (Ok a) (Err f) same = absurd (apart same (let low = mismatch_low f in omega arith))
match_verdict_only (Err e) (Ok b) same = absurd (apart same (let low = mismatch_low e in omega arith))
match_verdict_only (Err e) (Err f) same = ap Err (mismatch_only e f same)

-- the answer, by what each judging gives
module _ (a b : Given) (room : ℕ) where
  pub match_first : accepts (table_answer (Images room) a) ≡ false → match_answer a b room ≡ table_answer (Images room) a
  unfolding match_answer
  match_first e = in_order_refused _ _ e

  module _ (first : accepts (table_answer (Images room) a) ≡ true) where
    after_first : match_answer a b room ≡ in_order (of_second (check_answer b) ∷ judge_pair a b ∷ judge_matching (map_of a) (map_of b) ∷ [])
    unfolding match_answer
    after_first = in_order_passed _ _ first

    pub match_second : accepts (check_answer b) ≡ false → match_answer a b room ≡ refused (20 + (check_answer b).number) (check_answer b).place
    match_second e = after_first ∙ in_order_first _ _ _ _ (omega arith) (of_second-refused (check_answer b) e)

    module _ (second : accepts (check_answer b) ≡ true) where
      after_second : match_answer a b room ≡ in_order (judge_pair a b ∷ judge_matching (map_of a) (map_of b) ∷ [])
      unfolding accepts accepted
      after_second = after_first ∙ in_order_passed _ _ (ap accepts (of_second_passed (check_answer b) second))

      pub match_unlike : Unlike a b → match_answer a b room ≡ refused 10 0
      match_unlike h = after_second ∙ in_order_first _ _ 10 0 (omega arith) (pair_unlike a b h)

      module _ (same-n : a.n ≡ b.n) (same-m : a.m ≡ b.m) where
        after_pair : match_answer a b room ≡ in_order (judge_matching (map_of a) (map_of b) ∷ [])
        unfolding accepts accepted
        after_pair = after_second ∙ in_order_passed _ _ (ap accepts (pair_alike a b same-n same-m))

        pub match_none : image_of_first (map_of a) (map_of b) ≡ 0 → match_answer a b room ≡ refused 10 0
        unfolding judge_matching
        match_none empty = after_pair ∙ in_order_first _ _ 10 0 (omega arith) (unless_refused _ 10 0 (rw empty refl))

        pub match_passed : 0 < image_of_first (map_of a) (map_of b) → match_answer a b room ≡ accepted
        unfolding judge_matching in_order accepts accepted unless
        match_passed some = after_pair ∙ simp (lt-ltb 0 (image_of_first (map_of a) (map_of b)) some)

-- what `?` finds after a refusal became a mismatch: whose it was, or that there was none
module _ {j : Result Unit Refusal} {m : Result Unit Mismatch} (C : Refusal → Mismatch) (cases : MatchResult j (λ x. m ≡ Ok x) (λ e. IsErrAnd m (λ f. f ≡ C e))) where
  pub as_mismatch : (f : Mismatch) → m ≡ Err f → (e : Refusal) × (j ≡ Err e) × (f ≡ C e)
  as_mismatch f was = at j cases
    where
      at : (k : Result Unit Refusal) → MatchResult k (λ x. m ≡ Ok x) (λ e. IsErrAnd m (λ f. f ≡ C e)) → (e : Refusal) × (k ≡ Err e) × (f ≡ C e)
      at (Ok u) h = cc
      at (Err e) h = let p = err_from_is_err_and m h in let same : f ≡ p.0 = cc in (e, refl, same ∙ p.2)

  pub no_mismatch : (u : Unit) → m ≡ Ok u → j ≡ Ok u
  no_mismatch u was = at j cases
    where
      at : (k : Result Unit Refusal) → MatchResult k (λ x. m ≡ Ok x) (λ e. IsErrAnd m (λ f. f ≡ C e)) → k ≡ Ok u
      at (Ok a) h = refl
      at (Err e) h = let p = err_from_is_err_and m h in cc

-- an answer and its output
module _ {a b : Given} {out : List ℕ} where
  pub matches_refused : (e : Mismatch) → match_answer a b (length out) ≡ shown_mismatch e → MatchesAs a b out (Err e) out
  unfolding match_output
  matches_refused e is = record { answer = sym is; written = sym (simp (ap accepts is ∙ mismatch_refuses e)) }

  pub matches_passed : {out' : List ℕ} (u : Unit) → match_answer a b (length out) ≡ accepted → out' ≡ over (shown (map_of a) (map_of b)) out → MatchesAs a b out (Ok u) out'
  unfolding match_output accepts accepted
  matches_passed u is wrote = record { answer = sym is; written = wrote ∙ sym (rw is refl) }

-- some answer shows each verdict
pub match_answered : (a b : Given) (room : ℕ) → Answered shown_mismatch (match_answer a b room)
unfolding match_answer judge_pair judge_matching
match_answered a b room =
    answered_in_order
    (one_more (answered_as First (λ r. refl) (table_answered (Images room) a))
    (one_more (answered_second Second (λ r. of_second-refused (shown_refusal r) (refusal_refuses r)) (check_answered b))
    (one_more (answered_unless _ 10 0 Unmatched refl)
    (one_more (answered_unless _ 10 0 Unmatched refl) all_done))))

-- no second answer fits: neither another answer nor another output
pub matches_only : (a b : Given) (out : List ℕ) (r s : Result Unit Mismatch) (o p : List ℕ) → MatchesAs a b out r o → MatchesAs a b out s p → (r ≡ s) × (o ≡ p)
matches_only a b out r s o p x y = (match_verdict_only r s (x.answer ∙ sym y.answer), x.written ∙ sym y.written)

-- what the two tables are once they have passed
pub record Cleared (a b : Given) (room : ℕ) : Type 0 where
  pub first : Accepted (map_of a)
  pub roomy : a.m ≤ room
  pub second : Accepted (map_of b)

pub match_clear : (a b : Given) (room : ℕ) → table_answer (Images room) a ≡ accepted → check_answer b ≡ accepted → Cleared a b room
unfolding judge_output check_answer accepts accepted
match_clear a b room first second =
    let c = table_clear (Images room) a first in
    let d = table_clear _ b second in
    record {
      first = c.2;
      roomy = leb-true a.m room (sym (unless-accepts _ 4 0 (omega arith)) ∙ ap accepts c.0);
      second = d.2;
    }

-- one line that two tests judge, one after the other
shows_either : {A B : Type 0} (k : ℕ) (p q : Bool) → 1 ≤ k → (p ≡ false) ↔ A → (p ≡ true → (q ≡ false) ↔ B) → Shows (plain k (A ⊎ B) ∷ []) (in_order (unless p k 0 ∷ unless q k 0 ∷ []))
unfolding in_order accepts accepted
shows_either {A} {B} k p q low first second = at (tested p) (tested q)
  where
    refusal : A ⊎ B → Shows (plain k (A ⊎ B) ∷ []) (refused k 0)
    refusal h = here {l = plain k (A ⊎ B)} low (refl, h) (λ r less. absurd (omega arith))

    silent : p ≡ true → q ≡ true → ¬ (A ⊎ B)
    silent left right (inl h) = true_not_false left (first.1 h)
    silent left right (inr h) = true_not_false right ((second left).1 h)

    at : Tested p → Tested q → Shows (plain k (A ⊎ B) ∷ []) (in_order (unless p k 0 ∷ unless q k 0 ∷ []))
    at (fails e) t = rw (in_order_first _ _ k 0 low (unless_refused p k 0 e)) (refusal (inl (first.0 e)))
    at (passes e) (fails f) =
        rw (in_order_passed _ _ (unless-accepts p k 0 low ∙ e), in_order_first _ _ k 0 low (unless_refused q k 0 f)) (refusal (inr ((second e).0 f)))
    at (passes e) (passes f) =
        rw (in_order_passed _ _ (unless-accepts p k 0 low ∙ e), in_order_passed _ _ (unless-accepts q k 0 low ∙ f)) (on (plain_silent (silent e f)) none)

-- 10, of two accepted maps
module _ (a b : Given) (first : Accepted (map_of a)) (second : Accepted (map_of b)) where
  matching_fails : (eqb a.n b.n && eqb a.m b.m) ≡ true → (ltb 0 (image_of_first (map_of a) (map_of b)) ≡ false) ↔ (¬ Matched (map_of a) (map_of b))
  unfolding map_of Matched
  matching_fails alike = (to, back)
    where
      same : a.n ≡ b.n
      same = eqb-true a.n b.n (both_pass (eqb a.n b.n) (eqb a.m b.m) alike).0

      to : ltb 0 (image_of_first (map_of a) (map_of b)) ≡ false → ¬ Matched (map_of a) (map_of b)
      to e = image_none first second same (let h = ltb-false 0 (image_of_first (map_of a) (map_of b)) e in omega arith)

      back : ¬ Matched (map_of a) (map_of b) → ltb 0 (image_of_first (map_of a) (map_of b)) ≡ false
      back never = at (tested (ltb 0 (image_of_first (map_of a) (map_of b))))
        where
          at : Tested (ltb 0 (image_of_first (map_of a) (map_of b))) → ltb 0 (image_of_first (map_of a) (map_of b)) ≡ false
          at (fails e) = e
          at (passes e) = absurd (never (shown (map_of a) (map_of b), shown_matching first second same (ltb-true 0 (image_of_first (map_of a) (map_of b)) e)))

  ten_shows : Shows (plain 10 (Unlike a b ⊎ (¬ Matched (map_of a) (map_of b))) ∷ []) (in_order (judge_pair a b ∷ judge_matching (map_of a) (map_of b) ∷ []))
  unfolding judge_pair judge_matching
  ten_shows = shows_either 10 _ _ (omega arith) (pair_fails a b) matching_fails

-- the answer is what its lines show
pub match_shows : (a b : Given) (room : ℕ) → Shows (match_lines a b room) (match_answer a b room)
unfolding match_lines match_answer CheckShows
match_shows a b room =
    shows_then _ (table_shows (Images room) a)
    (λ c.
    shows_then _ (shows_raised (check_shows b))
    (λ d.
    let both = match_clear a b room (clear_shows (table_shows (Images room) a) c) (check_whole b (of_second-accepts (check_answer b) (clear_shows (shows_raised (check_shows b)) d))) in
    ten_shows a b both.first both.second))
