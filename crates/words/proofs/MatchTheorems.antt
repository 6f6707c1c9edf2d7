-- The theorems of `specs/MatchTheorems.antt`; `Match` has the laws behind them.
--     Ended, ended             how a match of two accepted tables ends
--     match_accepts, match_writes, match_refuses, the_match_shows, match_second_map, match_numbers
--                              the theorems
-- Assumes nothing.
use Prim.Native.Nat.{ℕ, ◌+◌, ◌≤◌, ◌<◌}
use mathlib.Core.Path.{◌≡◌, refl, sym, ap, ◌∙◌}
use mathlib.Core.Bool.{true}
use mathlib.Core.List.{List}
use mathlib.Core.Logic.{◌⊎◌, inl, inr}
use native.Mathlib.Omega.{arith}
use borrow.Author.Tests.{le-leb, eqb-true, eqb-false, ltb-true, ltb-false}
use lib.Dec.{eqb, ltb}
use lib.ListN.{length, take, drop}
use lib.Seq.{drop_at}
use Rattle.maps.specs.Least.{nth}
use Rattle.maps.specs.Matching.{Matching, Matched}
use Rattle.maps.specs.Given.{Given, map_of}
use Rattle.maps.specs.Verdict.{Verdict, accepted, refused, accepts}
use Rattle.maps.specs.Lines.{table_lines, check_lines, shape_lines, room_lines, map_lines, entry_lines, raised}
use Rattle.maps.specs.Rules.{judge_output}
use Rattle.maps.specs.declared.Output.TheVariants.{Images}
use Rattle.maps.proofs.Least.{Tested, passes, fails, tested, true_not_false}
use Rattle.maps.proofs.Verdict.{refused_refuses, unless_passed}
use Rattle.maps.proofs.Lines.{has_number, shows_without, shows_most}
use Rattle.labels.specs.Judging.{table_answer, check_answer}
use Rattle.labels.specs.Theorems.{CheckAccepts}
use Rattle.labels.proofs.Judging.{table_shows, clear_table, table_whole, check_whole}
use Rattle.labels.proofs.Theorems.{check_accepts}
use Rattle.words.specs.Match.{image_of_first, shown, match_answer, match_output, Unlike, match_lines}
use Rattle.words.specs.MatchTheorems.{Matchable, MatchAccepts, MatchWrites, MatchRefuses, MatchShows, MatchSecond, MatchNumbers}
use Rattle.words.specs.Sign.{over}
use Rattle.words.proofs.Sign.{over_front}
use Rattle.words.proofs.Match.{shown_matching, shown_first, shown_only, image_least, image_none, length-shown, match_first, match_second, match_unlike, match_none, match_passed, Cleared, match_clear, match_shows}

accepts-accepted : {v : Verdict} → v ≡ accepted → accepts v ≡ true
unfolding accepts accepted
accepts-accepted is = ap accepts is

-- an accepted answer is no refusal
not_refused : {v : Verdict} (k p : ℕ) → 1 ≤ k → v ≡ accepted → v ≡ refused k p → ⊥
not_refused k p low is other = true_not_false (accepts-accepted is) (ap accepts other ∙ refused_refuses k p low)

-- how a match of two accepted tables ends
data Ended (a b : Given) (room : ℕ) : Type 0 where
  matched : a.n ≡ b.n → a.m ≡ b.m → 0 < image_of_first (map_of a) (map_of b) → match_answer a b room ≡ accepted → Ended a b room
  unmatched : Unlike a b ⊎ (¬ Matched (map_of a) (map_of b)) → match_answer a b room ≡ refused 10 0 → Ended a b room

module _ (a b : Given) (room : ℕ) (first : table_answer (Images room) a ≡ accepted) (second : check_answer b ≡ accepted) where
  both : Cleared a b room
  both = match_clear a b room first second

  one : accepts (table_answer (Images room) a) ≡ true
  one = accepts-accepted first

  two : accepts (check_answer b) ≡ true
  two = accepts-accepted second

  ended : Ended a b room
  unfolding map_of
  ended = at (tested (eqb a.n b.n)) (tested (eqb a.m b.m)) (tested (ltb 0 (image_of_first (map_of a) (map_of b))))
    where
      at : Tested (eqb a.n b.n) → Tested (eqb a.m b.m) → Tested (ltb 0 (image_of_first (map_of a) (map_of b))) → Ended a b room
      at (fails e) f g = let h = eqb-false a.n b.n e in unmatched (inl (inl h)) (match_unlike a b room one two (inl h))
      at (passes e) (fails f) g = let h = eqb-false a.m b.m f in unmatched (inl (inr h)) (match_unlike a b room one two (inr h))
      at (passes e) (passes f) (passes g) =
          let n = eqb-true a.n b.n e in
          let m = eqb-true a.m b.m f in
          let some = ltb-true 0 (image_of_first (map_of a) (map_of b)) g in
          matched n m some (match_passed a b room one two n m some)
      at (passes e) (passes f) (fails g) =
          let n = eqb-true a.n b.n e in
          let empty : image_of_first (map_of a) (map_of b) ≡ 0 = let h = ltb-false 0 (image_of_first (map_of a) (map_of b)) g in omega arith in
          unmatched (inr (image_none both.first both.second n empty)) (match_none a b room one two n (eqb-true a.m b.m f) empty)

-- an accepted match has passed every judging
passed : (a b : Given) (room : ℕ) → match_answer a b room ≡ accepted → (table_answer (Images room) a ≡ accepted) × (check_answer b ≡ accepted)
passed a b room is = at (tested (accepts (table_answer (Images room) a))) (tested (accepts (check_answer b)))
  where
    at : Tested (accepts (table_answer (Images room) a)) → Tested (accepts (check_answer b)) → (table_answer (Images room) a ≡ accepted) × (check_answer b ≡ accepted)
    at (fails e) f = absurd (true_not_false (accepts-accepted (sym (match_first a b room e) ∙ is)) e)
    at (passes e) (fails f) = absurd (not_refused _ _ (omega arith) is (match_second a b room e f))
    at (passes e) (passes f) = (table_whole (Images room) a e, check_whole b f)

-- with room for the images, the first table passes as the plain check has it
roomy : (a b : Given) (room : ℕ) → Matchable a b room → table_answer (Images room) a ≡ accepted
unfolding CheckAccepts judge_output
roomy a b room m =
    let c = (check_accepts a).0 m.first in
    clear_table (Images room) a (unless_passed _ 4 0 (le-leb a.m room m.roomy)) c.0 c.1

pub match_accepts : MatchAccepts
unfolding MatchAccepts Matched map_of
match_accepts a b room m = (λ is. to (ended a b room first m.second) is, λ has. back (ended a b room first m.second) has)
  where
    first : table_answer (Images room) a ≡ accepted
    first = roomy a b room m

    both_clear : Cleared a b room
    both_clear = match_clear a b room first m.second

    to : Ended a b room → match_answer a b room ≡ accepted → Matched (map_of a) (map_of b)
    to (matched n d some is) e = (shown (map_of a) (map_of b), shown_matching both_clear.first both_clear.second n some)
    to (unmatched why is) e = absurd (not_refused 10 0 (omega arith) e is)

    never : Unlike a b ⊎ (¬ Matched (map_of a) (map_of b)) → ¬ Matched (map_of a) (map_of b)
    never (inl (inl other)) has = other has.1.same_dim
    never (inl (inr other)) has = other has.1.same_darts
    never (inr none) has = none has

    back : Ended a b room → Matched (map_of a) (map_of b) → match_answer a b room ≡ accepted
    back (matched n d some is) has = is
    back (unmatched why is) has = absurd (never why has)

pub match_refuses : MatchRefuses
unfolding MatchRefuses Matched map_of
match_refuses a b room m = (λ is. to (ended a b room first m.second) is, λ why. back (ended a b room first m.second) why)
  where
    first : table_answer (Images room) a ≡ accepted
    first = roomy a b room m

    both_clear : Cleared a b room
    both_clear = match_clear a b room first m.second

    to : Ended a b room → match_answer a b room ≡ refused 10 0 → Unlike a b ⊎ (¬ Matched (map_of a) (map_of b))
    to (matched n d some is) e = absurd (not_refused 10 0 (omega arith) is e)
    to (unmatched why is) e = why

    back : Ended a b room → Unlike a b ⊎ (¬ Matched (map_of a) (map_of b)) → match_answer a b room ≡ refused 10 0
    back (unmatched other is) why = is
    back (matched n d some is) (inl (inl other)) = absurd (other n)
    back (matched n d some is) (inl (inr other)) = absurd (other d)
    back (matched n d some is) (inr none) = absurd (none (shown (map_of a) (map_of b), shown_matching both_clear.first both_clear.second n some))

pub match_writes : MatchWrites
unfolding MatchWrites match_output over map_of
match_writes a b out is = at (ended a b (length out) judged.0 judged.1)
  where
    judged : (table_answer (Images (length out)) a ≡ accepted) × (check_answer b ≡ accepted)
    judged = passed a b (length out) is

    both_clear : Cleared a b (length out)
    both_clear = match_clear a b (length out) judged.0 judged.1

    f : List ℕ
    f = shown (map_of a) (map_of b)

    long : length f ≡ a.m
    long = length-shown (map_of a) (map_of b)

    written : match_output a b out ≡ over f out
    written = simp (accepts-accepted is)

    front : take a.m (match_output a b out) ≡ f
    front = ap (take a.m) written ∙ over_front f out a.m long

    behind : drop a.m (match_output a b out) ≡ drop a.m out
    behind = ap (drop a.m) written ∙ drop_at f (drop (length f) out) a.m long ∙ ap (λ (k : ℕ). drop k out) long

    at : Ended a b (length out) →
        Matching (map_of a) (map_of b) (take a.m (match_output a b out))
        × ((g : List ℕ) → Matching (map_of a) (map_of b) g → nth (take a.m (match_output a b out)) 1 ≤ nth g 1)
        × ((g : List ℕ) → Matching (map_of a) (map_of b) g → nth g 1 ≡ nth (take a.m (match_output a b out)) 1 → g ≡ take a.m (match_output a b out))
        × (drop a.m (match_output a b out) ≡ drop a.m out)
    at (unmatched why ends) = absurd (not_refused 10 0 (omega arith) is ends)
    at (matched n d some ends) =
        let first = both_clear.first in
        let second = both_clear.second in
        let one = shown_first first second n some in
        rw front
        (shown_matching first second n some, λ g m. omega (arith, one, (image_least first second n g m).1), λ g m same. shown_only first second n some g m (same ∙ one), behind)

pub the_match_shows : MatchShows
unfolding MatchShows
the_match_shows a b room = match_shows a b room

-- the first map's numbers are below those of the second
first_few : (a : Given) (room : ℕ) → (table_answer (Images room) a).number ≤ 9
unfolding table_lines shape_lines room_lines map_lines entry_lines
first_few a room = shows_most 9 (table_shows (Images room) a) (omega arith)

pub match_second_map : MatchSecond
unfolding MatchSecond refused
match_second_map a b room k p low = (λ is. to (tested (accepts v)) (tested (accepts w)) is, λ h. back h)
  where
    v : Verdict
    v = table_answer (Images room) a

    w : Verdict
    w = check_answer b

    few : v.number ≤ 9
    few = first_few a room

    same_number : {x y : Verdict} → x ≡ y → x.number ≡ y.number
    same_number e = ap (λ (u : Verdict). u.number) e

    same_place : {x y : Verdict} → x ≡ y → x.place ≡ y.place
    same_place e = ap (λ (u : Verdict). u.place) e

    neither : Ended a b room → match_answer a b room ≡ refused (20 + k) p → ⊥
    neither (matched n d some is) e = not_refused (20 + k) p (omega arith) is e
    neither (unmatched why is) e = let z = same_number (sym is ∙ e) in omega arith

    to : Tested (accepts v) → Tested (accepts w) → match_answer a b room ≡ refused (20 + k) p → (v ≡ accepted) × (w ≡ refused k p)
    to (fails e) f is = absurd (let z = same_number (sym (match_first a b room e) ∙ is) in omega (arith, few))
    to (passes e) (fails f) is =
        let same = sym (match_second a b room e f) ∙ is in
        let number : w.number ≡ k = let z = same_number same in omega arith in
        let place : w.place ≡ p = same_place same in
        (table_whole (Images room) a e, λ i. record { number = number i; place = place i })
    to (passes e) (passes f) is = absurd (neither (ended a b room (table_whole (Images room) a e) (check_whole b f)) is)

    back : (v ≡ accepted) × (w ≡ refused k p) → match_answer a b room ≡ refused (20 + k) p
    back h =
        match_second a b room (accepts-accepted h.0) (ap accepts h.1 ∙ refused_refuses k p low)
        ∙ ap (λ (u : Verdict). refused (20 + u.number) u.place) h.1

pub match_numbers : MatchNumbers
unfolding MatchNumbers match_lines table_lines check_lines shape_lines room_lines map_lines entry_lines raised has_number
match_numbers a b room = shows_without 24 (omega arith) refl (match_shows a b room)
