-- A record's number and place are what its lines show (`RecordShows` of `specs/Listing.antt`). Assumes nothing.
use Prim.Native.Nat.{ℕ, ◌*◌, ◌≤◌}
use mathlib.Core.Path.{◌≡◌, refl, sym, ◌∙◌}
use mathlib.Core.Bool.{Bool, true, false, ◌&&◌}
use mathlib.Core.List.{List, [], ◌∷◌}
use mathlib.Core.Logic.{◌↔◌, ◌⊎◌, inl, inr}
use native.Mathlib.Omega.{arith}
use borrow.Author.Tests.{eqb-true, eqb-false, leb-true, leb-false}
use lib.Dec.{eqb, leb}
use Rattle.maps.specs.Given.{Given, map_of}
use Rattle.maps.specs.Verdict.{Verdict, accepted, refused, accepts, unless, in_order}
use Rattle.maps.specs.Rules.{judge_dimension, judge_size}
use Rattle.maps.specs.Lines.{Line, Shows, none, here, on, plain}
use Rattle.maps.proofs.Least.{Tested, passes, fails, tested, true_not_false}
use Rattle.maps.proofs.Verdict.{in_order_passed, in_order_refused, unless-accepts, unless_refused}
use Rattle.maps.proofs.Lines.{Clear, past, shows_then, shows_last, shows_unless, bounds_fail}
use Rattle.labels.specs.Judging.{judge_map}
use Rattle.labels.proofs.Judging.{map_shows}
use Rattle.drawer.specs.Record.{Fault, no_map, Reading, good, filed_in, zero_byte_in, filling_in, all_zero, provided, read_table}
use Rattle.lister.specs.Listing.{shown_fault, shown_reading, record_lines, RecordShows}

-- the next test of a reading is the next verdict
provided-shown : (k : ℕ) (b : Bool) (f : Fault) (rest : Reading) (v : Verdict) (vs : List Verdict) → accepts v ≡ b → (b ≡ false → v ≡ shown_fault k f) →
    shown_reading k rest ≡ in_order vs → shown_reading k (provided b f rest) ≡ in_order (v ∷ vs)
unfolding provided shown_reading
provided-shown k true f rest v vs takes is others = others ∙ sym (in_order_passed v vs takes)
provided-shown k false f rest v vs takes is others = sym (in_order_refused v vs takes ∙ is refl)

-- three tests with one number and place
three_tests : (k : ℕ) (a b c : Bool) (vs : List Verdict) →
    in_order (unless a 14 k ∷ unless b 14 k ∷ unless c 14 k ∷ vs) ≡ in_order (unless (a && (b && c)) 14 k ∷ vs)
unfolding in_order unless accepts accepted refused
three_tests k true true true vs = refl
three_tests k true true false vs = refl
three_tests k true false c vs = refl
three_tests k false b c vs = refl

module _ (k : ℕ) (r : List ℕ) where
  abbrev layout : Given
  layout = (filed_in r).layout

  -- the tests of 14
  abbrev some_die : Bool
  some_die = leb 1 (filed_in r).die

  abbrev no_byte : Bool
  no_byte = eqb (zero_byte_in r) 0

  abbrev no_filling : Bool
  no_filling = all_zero (filling_in r)

  by_test : (b : Bool) → b ≡ false → unless b 14 k ≡ refused 14 k
  by_test b e = unless_refused b 14 k e

  of_map : shown_reading k (provided (accepts (judge_map (map_of layout))) (no_map (judge_map (map_of layout))) (good (filed_in r))) ≡ in_order (judge_map (map_of layout) ∷ [])
  unfolding shown_reading shown_fault in_order
  of_map = provided-shown k _ _ _ (judge_map (map_of layout)) [] refl (λ e. refl) refl

  shown_order : shown_reading k (read_table r) ≡ in_order (judge_dimension layout ∷ judge_size layout ∷ unless (some_die && (no_byte && no_filling)) 14 k ∷ judge_map (map_of layout) ∷ [])
  unfolding read_table shown_fault judge_dimension judge_size
  shown_order =
      provided-shown k _ _ _ (judge_dimension layout) _ refl
      (λ e. unless_refused _ 1 0 (sym (unless-accepts _ 1 0 (omega arith)) ∙ e))
      (provided-shown k _ _ _ (judge_size layout) _ refl
      (λ e. unless_refused _ 2 0 (sym (unless-accepts _ 2 0 (omega arith)) ∙ e))
      (provided-shown k _ _ _ (unless some_die 14 k) _ (unless-accepts some_die 14 k (omega arith)) (by_test some_die)
      (provided-shown k _ _ _ (unless no_byte 14 k) _ (unless-accepts no_byte 14 k (omega arith)) (by_test no_byte)
      (provided-shown k _ _ _ (unless no_filling 14 k) _ (unless-accepts no_filling 14 k (omega arith)) (by_test no_filling)
      of_map))
      ∙ three_tests k some_die no_byte no_filling (judge_map (map_of layout) ∷ [])))

  -- what document 01 says of 14
  abbrev Wrong : Type 0
  Wrong = ((filed_in r).die ≡ 0) ⊎ (¬ (zero_byte_in r ≡ 0)) ⊎ (all_zero (filling_in r) ≡ false)

  wrong_says : ((some_die && (no_byte && no_filling)) ≡ false) ↔ Wrong
  wrong_says = (to (tested some_die) (tested no_byte), back (tested some_die) (tested no_byte))
    where
      to : Tested some_die → Tested no_byte → (some_die && (no_byte && no_filling)) ≡ false → Wrong
      to (fails a) b e = inl (omega (arith, leb-false 1 (filed_in r).die a))
      to (passes a) (fails b) e = inr (inl (eqb-false (zero_byte_in r) 0 b))
      to (passes a) (passes b) e = inr (inr (simp (a, b) at e))

      back : Tested some_die → Tested no_byte → Wrong → (some_die && (no_byte && no_filling)) ≡ false
      back (fails a) b h = simp a
      back (passes a) (fails b) h = simp (a, b)
      back (passes a) (passes b) (inl z) = absurd (omega (arith, leb-true 1 (filed_in r).die a))
      back (passes a) (passes b) (inr (inl other)) = absurd (other (eqb-true (zero_byte_in r) 0 b))
      back (passes a) (passes b) (inr (inr e)) = simp (a, b, e)

  abbrev wrong_line : Line
  wrong_line = record { number = 14; Holds = λ p. (p ≡ k) × Wrong }

  line14 : Shows (wrong_line ∷ []) (unless (some_die && (no_byte && no_filling)) 14 k)
  unfolding unless
  line14 = at (tested (some_die && (no_byte && no_filling)))
    where
      at : Tested (some_die && (no_byte && no_filling)) → Shows (wrong_line ∷ []) (unless (some_die && (no_byte && no_filling)) 14 k)
      at (passes e) = simp e (on {l = wrong_line} (λ p h. true_not_false e (wrong_says.1 h.1)) none)
      at (fails e) = simp e (here {l = wrong_line} (omega arith) (refl, wrong_says.0 e) (λ q less h. omega (arith, h.0)))

cleared_low : {a : ℕ} {B : Type 0} {n : ℕ} → Clear (plain n ((a ≡ 0) ⊎ B) ∷ []) → 1 ≤ a
cleared_low {a} (past silent rest) = let some : ¬ (a ≡ 0) = λ z. silent 0 (refl, inl z) in omega arith

pub record_shows : RecordShows
unfolding RecordShows record_lines judge_dimension judge_size map_of
record_shows k r =
    let l : Given = (filed_in r).layout in
    rw (shown_order k r)
    (shows_then _ (shows_unless 1 _ (omega arith) (bounds_fail l.n l.n 4))
    (λ c.
    shows_then _ (shows_unless 2 _ (omega arith) (bounds_fail l.m (l.n * l.m) 1020))
    (λ d. shows_then _ (line14 k r) (λ e. shows_last (map_shows (map_of l) (cleared_low c) (cleared_low d))))))
