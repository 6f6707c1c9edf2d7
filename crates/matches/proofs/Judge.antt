-- The laws of `specs/Judge.antt`: what the judging of a handed-in list shows, and what it leaves.
--     bad, bad_says         the test of `bad_image`, and that it says what line 11 says of a dart
--     parted, parts_says    the test of `parts` at one sewing, and that `parts` says what line 12 says
--     pair_shows            10
--     shows_zero-least      one line, judged by a test for place 0 and then by the least place
--     image_line, kept_line  the lines 11 and 12
--     judge_shows           the answer is what its lines show
--     silent_matching       where 10, 11 and 12 hold of no place, the list is a matching
--     judge_clear, clear_judge
--                           it accepts exactly a matching of two maps that the check accepts
--     judge_list_only       no second answer fits
-- Assumes nothing.
use Prim.Native.Nat.{ℕ, ◌-◌, ◌≤◌, ◌<◌}
use mathlib.Core.Path.{◌≡◌, refl, sym, ap, ◌∙◌}
use mathlib.Core.Bool.{Bool, true, false, not, ◌&&◌, ◌||◌, or-true}
use mathlib.Core.List.{List, [], ◌∷◌, ◌++◌}
use mathlib.Core.Logic.{◌↔◌, ◌⊎◌, inl, inr}
use mathlib.Core.HLevel.{dec→stable}
use native.Mathlib.Omega.{arith}
use native.Mathlib.Decide.{ℕ_discrete}
use borrow.Author.Tests.{eq-eqb, ne_eqb, eqb-true, eqb-false, lt-ltb, ltb-true, leb-true, leb-false, not-true}
use lib.Dec.{eqb, leb, ltb}
use lib.ListN.{length}
use Rattle.std.specs.Prelude.{Result}
use Rattle.maps.specs.Least.{nth, least, some}
use Rattle.maps.specs.Map.{Map, IsDart, sew}
use Rattle.maps.specs.Given.{Given, map_of}
use Rattle.maps.specs.Matching.{Matching}
use Rattle.maps.specs.Verdict.{Verdict, accepted, accepts, unless, at_least, in_order, of_second}
use Rattle.maps.specs.Lines.{Line, Silent, Shows, here, plain, raised, check_lines}
use Rattle.maps.proofs.Least.{nth-zero, Tested, passes, fails, tested, true_not_false, Found, some_found, passes_some}
use Rattle.maps.proofs.Map.{sew_high}
use Rattle.maps.proofs.Verdict.{in_order_passed, in_order_first, unless_passed, unless_refused}
use Rattle.maps.proofs.Lines.{Clear, clear, past, shows_clear, clear_shows, clear_join, clear_split, plain_silent, shows_then, shows_last, shows_unless, shows_least, shows_raised}
use Rattle.labels.specs.Judging.{check_answer}
use Rattle.labels.specs.Theorems.{CheckShows}
use Rattle.labels.proofs.Judging.{table_whole}
use Rattle.labels.proofs.Theorems.{check_shows}
use Rattle.words.specs.Match.{judge_pair, Unlike}
use Rattle.words.proofs.Match.{of_second-accepts}
use Rattle.matches.specs.Judge.{bad_image, parts, judge_answer, BadImage, NotKept, judge_lines}
use Rattle.matches.specs.Shown.{list_verdict_of}
use Rattle.matches.specs.declared.ListRefusal.{ListRefusal}
use Rattle.matches.proofs.Shown.{list_shown_only}
use Rattle.matches.proofs.Onto.{none_missed}

-- the value of dart d is 0, above m or used before
abbrev pub bad : ℕ → List ℕ → ℕ → Bool
bad m f d = eqb (nth f d) 0 || ltb m (nth f d) || some (d - 1) (λ e. eqb (nth f e) (nth f d))

-- βi of dart d is not kept
abbrev pub parted : Map → Map → List ℕ → ℕ → ℕ → Bool
parted M M' f d i = not (eqb (nth f (sew M i d)) (sew M' i (nth f d)))

module _ (m : ℕ) (f : List ℕ) (d : ℕ) where
  pub bad_says : (bad m f d ≡ true) ↔ BadImage m f d
  bad_says = (to, back)
    where
      used : ℕ → Bool
      used e = eqb (nth f e) (nth f d)

      to : bad m f d ≡ true → BadImage m f d
      to t = at (tested (eqb (nth f d) 0)) (tested (ltb m (nth f d)))
        where
          at : Tested (eqb (nth f d) 0) → Tested (ltb m (nth f d)) → BadImage m f d
          at (passes z) o = inl (eqb-true (nth f d) 0 z)
          at (fails z) (passes o) = inr (inl (ltb-true m (nth f d) o))
          at (fails z) (fails o) =
              let e = least (d - 1) used in
              let before : Found used (d - 1) e = some_found used (d - 1) (simp (z, o) at t) in
              let low : 1 ≤ e = before.low in
              let less : e < d = omega (arith, before.high) in
              inr (inr (e, low, less, eqb-true (nth f e) (nth f d) before.hit))

      back : BadImage m f d → bad m f d ≡ true
      back (inl z) = simp (eq-eqb (nth f d) 0 z)
      back (inr (inl over)) = simp (ne_eqb (nth f d) 0 (λ z. omega arith), lt-ltb m (nth f d) over)
      back (inr (inr (e, low, less, same))) =
          rw (passes_some used (d - 1) e low (omega arith) (eq-eqb (nth f e) (nth f d) same)) (or-true _)

pub parts_says : (M M' : Map) (f : List ℕ) (d : ℕ) → (parts M M' f d ≡ true) ↔ NotKept M M' f d
unfolding parts
parts_says M M' f d = (to, back)
  where
    to : parts M M' f d ≡ true → NotKept M M' f d
    to t =
        let i = least M.dim (parted M M' f d) in
        let found : Found (parted M M' f d) M.dim i = some_found (parted M M' f d) M.dim t in
        (i, found.low, found.high, eqb-false (nth f (sew M i d)) (sew M' i (nth f d)) (not-true _ found.hit))

    back : NotKept M M' f d → parts M M' f d ≡ true
    back (i, low, high, other) =
        passes_some (parted M M' f d) M.dim i low high (ap not (ne_eqb (nth f (sew M i d)) (sew M' i (nth f d)) other))

pub pair_shows : (a b : Given) → Shows (plain 10 (Unlike a b) ∷ []) (judge_pair a b)
unfolding judge_pair
pair_shows a b = shows_unless 10 _ (omega arith) (to (tested (eqb a.n b.n)), back (tested (eqb a.n b.n)))
  where
    to : Tested (eqb a.n b.n) → (eqb a.n b.n && eqb a.m b.m) ≡ false → Unlike a b
    to (passes same) e = inr (eqb-false a.m b.m (simp same at e))
    to (fails other) e = inl (eqb-false a.n b.n other)

    back : Tested (eqb a.n b.n) → Unlike a b → (eqb a.n b.n && eqb a.m b.m) ≡ false
    back (fails other) u = simp other
    back (passes same) (inl other) = absurd (other (eqb-true a.n b.n same))
    back (passes same) (inr other) = simp (same, ne_eqb a.m b.m other)

-- place 0 where the test b fails, and the places from 1 to m that pass the other
abbrev ZeroOr : Bool → ℕ → (ℕ → Bool) → ℕ → Type 0
ZeroOr b m test p = ((p ≡ 0) × (b ≡ false)) ⊎ ((1 ≤ p) × (p ≤ m) × (test p ≡ true))

-- one line that holds of these, judged by two verdicts
pub shows_zero-least : (l : Line) {ks : List Line} (b : Bool) (m : ℕ) (test : ℕ → Bool) (vs : List Verdict) → 1 ≤ l.number
    → ((p : ℕ) → l.Holds p ↔ ZeroOr b m test p)
    → (Silent l → Shows ks (in_order vs))
    → Shows (l ∷ ks) (in_order (unless b l.number 0 ∷ at_least l.number (least m test) ∷ vs))
unfolding accepts accepted
shows_zero-least l {ks} b m test vs low says next = at (tested b)
  where
    silent_head : Clear (l ∷ []) → Silent l
    silent_head (past silent clear) = silent

    later : b ≡ true → (p : ℕ) → ZeroOr b m test p → (1 ≤ p) × (p ≤ m) × (test p ≡ true)
    later e p (inl h) = absurd (true_not_false e h.1)
    later e p (inr h) = h

    at : Tested b → Shows (l ∷ ks) (in_order (unless b l.number 0 ∷ at_least l.number (least m test) ∷ vs))
    at (fails e) =
        rw (in_order_first (unless b l.number 0) (at_least l.number (least m test) ∷ vs) l.number 0 low (unless_refused b l.number 0 e))
        (here {p = 0} low ((says 0).1 (inl (refl, e))) (λ q less. absurd (omega arith)))
    at (passes e) =
        rw (in_order_passed (unless b l.number 0) (at_least l.number (least m test) ∷ vs) (ap accepts (unless_passed b l.number 0 e)))
        (shows_then vs (shows_least l m test low (λ p. (λ h. later e p ((says p).0 h), λ h. (says p).1 (inr h)))) (λ c. next (silent_head c)))

-- the lines 11 and 12
abbrev pub image_line : Given → List ℕ → Line
image_line a f = record { number = 11; Holds = λ d. ((d ≡ 0) × (¬ (length f ≡ a.m))) ⊎ (IsDart (map_of a) d × BadImage a.m f d) }

abbrev pub kept_line : Given → Given → List ℕ → Line
kept_line a b f = record { number = 12; Holds = λ d. IsDart (map_of a) d × NotKept (map_of a) (map_of b) f d }

module _ (a b : Given) (f : List ℕ) where
  -- line 11 holds of 0 where the length is wrong, and of the bad darts
  image_line_says : (d : ℕ) → (image_line a f).Holds d ↔ ZeroOr (eqb (length f) a.m) a.m (bad a.m f) d
  unfolding map_of
  image_line_says d = (to, back)
    where
      to : (image_line a f).Holds d → ZeroOr (eqb (length f) a.m) a.m (bad a.m f) d
      to (inl h) = inl (h.0, ne_eqb (length f) a.m h.1)
      to (inr h) = inr (h.0.0, h.0.1, (bad_says a.m f d).1 h.1)

      back : ZeroOr (eqb (length f) a.m) a.m (bad a.m f) d → (image_line a f).Holds d
      back (inl h) = inl (h.0, eqb-false (length f) a.m h.1)
      back (inr h) = inr ((h.0, h.1), (bad_says a.m f d).0 h.2)

  pub judge_shows : Shows (judge_lines a b f) (judge_answer a b f)
  unfolding judge_lines judge_answer bad_image map_of CheckShows
  judge_shows =
      shows_then _ (check_shows a)
      (λ c.
      shows_then _ (shows_raised (check_shows b))
      (λ d.
      shows_then _ (pair_shows a b)
      (λ e.
      shows_zero-least _ _ a.m (bad a.m f) _ (omega arith) image_line_says
      (λ s.
      shows_last
      (shows_least _ a.m (parts (map_of a) (map_of b) f) (omega arith)
      (λ p. (
        λ h. (h.0.0, h.0.1, (parts_says (map_of a) (map_of b) f p).1 h.1),
        λ h. ((h.0, h.1), (parts_says (map_of a) (map_of b) f p).0 h.2),
      )))))))

module _ (a b : Given) (f : List ℕ) where
  -- where 10, 11 and 12 hold of no place, the list is a matching
  module _ (ten : Silent (plain 10 (Unlike a b))) (eleven : Silent (image_line a f)) (twelve : Silent (kept_line a b f)) where
    same_dim : a.n ≡ b.n
    same_dim = dec→stable (ℕ_discrete a.n b.n) (λ other. ten 0 (refl, inl other))

    same_darts : a.m ≡ b.m
    same_darts = dec→stable (ℕ_discrete a.m b.m) (λ other. ten 0 (refl, inr other))

    good : (d : ℕ) → 1 ≤ d → d ≤ a.m → ¬ BadImage a.m f d
    unfolding map_of
    good d low high h = eleven d (inr ((low, high), h))

    image : (d : ℕ) → 1 ≤ d → d ≤ a.m → (1 ≤ nth f d) × (nth f d ≤ a.m)
    image d low high =
        let some_dart : ¬ (nth f d ≡ 0) = λ z. good d low high (inl z) in
        let not-over : ¬ (a.m < nth f d) = λ over. good d low high (inr (inl over)) in
        (omega arith, omega arith)

    apart : (d e : ℕ) → 1 ≤ d → d ≤ a.m → 1 ≤ e → e ≤ a.m → nth f d ≡ nth f e → d ≡ e
    apart d e low-d high-d low-e high-e same =
        let not-less : ¬ (d < e) = λ less. good e low-e high-e (inr (inr (d, low-d, less, same))) in
        let not_more : ¬ (e < d) = λ less. good d low-d high-d (inr (inr (e, low-e, less, sym same))) in
        omega arith

    keeps : (i d : ℕ) → 1 ≤ i → IsDart (map_of a) d → nth f (sew (map_of a) i d) ≡ sew (map_of b) i (nth f d)
    unfolding map_of
    keeps i d low dart = at (tested (leb i a.n))
      where
        at : Tested (leb i a.n) → nth f (sew (map_of a) i d) ≡ sew (map_of b) i (nth f d)
        at (passes high) =
            dec→stable (ℕ_discrete (nth f (sew (map_of a) i d)) (sew (map_of b) i (nth f d)))
            (λ other. twelve d (dart, (i, low, leb-true i a.n high, other)))
        at (fails high) =
            let above : a.n < i = leb-false i a.n high in
            let above' : b.n < i = omega (arith, same_dim) in
            rw (sew_high (map_of a) i d above, sew_high (map_of b) i (nth f d) above') (nth-zero f)

    silent_matching : Matching (map_of a) (map_of b) f
    unfolding map_of
    silent_matching =
        record {
          same_dim = same_dim;
          same_darts = same_darts;
          long = dec→stable (ℕ_discrete (length f) a.m) (λ other. eleven 0 (inl (refl, other)));
          to_darts = λ d dart. let there = image d dart.0 dart.1 in (there.0, omega (arith, there.1, same_darts));
          one_to_one = λ d e dart dart' same. apart d e dart.0 dart.1 dart'.0 dart'.1 same;
          onto = λ e dart.
              let d = none_missed (nth f) a.m e (record { within = image; apart = apart }) dart.0 (omega (arith, dart.1, same_darts)) in
              (d.0, (d.1, d.2), d.3);
          keeps = keeps;
        }

  -- and of a matching they hold of no place
  module _ (m : Matching (map_of a) (map_of b) f) where
    ten_silent : ¬ Unlike a b
    unfolding map_of
    ten_silent (inl other) = other m.same_dim
    ten_silent (inr other) = other m.same_darts

    no_bad : (d : ℕ) → IsDart (map_of a) d → ¬ BadImage a.m f d
    unfolding map_of
    no_bad d dart (inl z) = omega (arith, (m.to_darts d dart).0)
    no_bad d dart (inr (inl over)) = omega (arith, (m.to_darts d dart).1, m.same_darts)
    no_bad d dart (inr (inr (e, low, less, same))) = omega (arith, m.one_to_one e d (low, omega (arith, dart.1)) dart same)

    eleven_silent : Silent (image_line a f)
    unfolding map_of
    eleven_silent d (inl h) = h.1 m.long
    eleven_silent d (inr h) = no_bad d h.0 h.1

    twelve_silent : Silent (kept_line a b f)
    twelve_silent d (dart, (i, low, high, other)) = other (m.keeps i d low dart)

  pub judge_clear : judge_answer a b f ≡ accepted → (check_answer a ≡ accepted) × (check_answer b ≡ accepted) × Matching (map_of a) (map_of b) f
  unfolding judge_lines CheckShows check_answer accepts accepted
  judge_clear is = at first.1
    where
      first : Clear (check_lines a) × Clear (raised (check_lines b) ++ (plain 10 (Unlike a b) ∷ image_line a f ∷ kept_line a b f ∷ []))
      first = clear_split (check_lines a) (shows_clear (judge_shows a b f) is)

      last : Clear (plain 10 (Unlike a b) ∷ image_line a f ∷ kept_line a b f ∷ []) → Matching (map_of a) (map_of b) f
      last (past ten (past eleven (past twelve clear))) = silent_matching ten eleven twelve

      at : Clear (raised (check_lines b) ++ (plain 10 (Unlike a b) ∷ image_line a f ∷ kept_line a b f ∷ [])) → (check_answer a ≡ accepted) × (check_answer b ≡ accepted) × Matching (map_of a) (map_of b) f
      at c =
          let rest = clear_split (raised (check_lines b)) c in
          let second = clear_shows (shows_raised (check_shows b)) rest.0 in
          (clear_shows (check_shows a) first.0, table_whole _ b (of_second-accepts (check_answer b) second), last rest.1)

  pub clear_judge : check_answer a ≡ accepted → check_answer b ≡ accepted → Matching (map_of a) (map_of b) f → judge_answer a b f ≡ accepted
  unfolding judge_lines CheckShows of_second accepts accepted
  clear_judge first second m =
      clear_shows (judge_shows a b f)
      (clear_join (shows_clear (check_shows a) first)
      (clear_join (shows_clear (shows_raised (check_shows b)) (ap of_second second))
      (past (plain_silent (ten_silent m)) (past (eleven_silent m) (past (twelve_silent m) clear)))))

-- no second answer fits
pub judge_list_only : (a b : Given) (f : List ℕ) (r s : Result Unit ListRefusal) → list_verdict_of r ≡ judge_answer a b f → list_verdict_of s ≡ judge_answer a b f → r ≡ s
judge_list_only a b f r s is is' = list_shown_only r s (is ∙ sym is')
