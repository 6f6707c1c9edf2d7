-- The laws of `specs/Lines.antt`: what a list of lines shows, and that the rules of a map show its lines.
--     shows_only                     a list of lines shows one verdict
--     Clear                          no line of a list holds of any place
--     shows_clear, clear_shows       it shows accepted exactly when it is clear
--     clear_join, clear_split        a list after another
--     shows_then, shows_last         verdicts one after the other show lines one after the other
--     shows_unless, shows_least      one line, judged by a test or by the least place
--     shows_raised                   the lines of a second map
--     has_number, shows_without      a number that no line has is not shown
--     Most, shows_most               nor one above all of theirs
--     shape_shows, shape_clear       1 to 3, and what they leave
--     room_shows                     4
--     entries_shows, entries_clear   5 to 8, and what they leave
--     sewing_shows, sewing_clear     1 to 8
-- Assumes nothing.
use Prim.Native.Nat.{ℕ, zero, suc, ◌+◌, ◌-◌, ◌*◌, ◌≤◌, ◌<◌}
use mathlib.Core.Path.{◌≡◌, refl, sym, ap}
use mathlib.Core.Bool.{Bool, true, false, not, ◌&&◌, ◌||◌}
use mathlib.Core.List.{List, [], ◌∷◌, ◌++◌}
use mathlib.Core.Logic.{◌↔◌, ◌⊎◌, inl, inr}
use mathlib.Core.HLevel.{dec→stable}
use native.Mathlib.Omega.{arith}
use native.Mathlib.Decide.{ℕ_discrete}
use borrow.Author.Tests.{lt-ltb, le-leb, lt-leb, ltb-true, ltb-false, leb-true, leb-false, eq-eqb, ne_eqb, eqb-true, eqb-false, not-true}
use lib.Dec.{eqb, leb, ltb}
use lib.ListN.{length}
use Rattle.maps.specs.Least.{least, some}
use Rattle.maps.specs.Map.{Map, sew}
use Rattle.maps.specs.Accepted.{InBounds, OpenMap}
use Rattle.maps.specs.Given.{Given, place_of, map_of, Shaped}
use Rattle.maps.specs.Verdict.{Verdict, accepted, refused, accepts, unless, at_least, in_order, of_second}
use Rattle.maps.specs.Lines.{Line, Silent, Shows, none, here, on, plain, raised, shape_lines, room_lines, Entry, Exceeds, GivenBefore, Unanswered, Parted, entry_line, entry_lines}
use Rattle.maps.specs.Rules.{judge_dimension, judge_size, judge_length, judge_shape, judge_output, Rule, exceeds, given_before, unanswered, parted, composes_wrong, over_rule, clash_rule, reverse_rule, compose_rule, rules, wrong_entry, shown_place, judged_by, judge_entries, judge_sewing}
use Rattle.maps.specs.declared.Output.{Output}
use Rattle.maps.specs.declared.Output.TheVariants.{Nothing, Word, Images}
use Rattle.maps.proofs.Least.{Tested, passes, fails, tested, true_not_false, Sought, nowhere, somewhere, sought, Found, some_found, passes_some}
use Rattle.maps.proofs.Map.{back_dart, sewn_dart, sewn_low}
use Rattle.maps.proofs.Verdict.{refused_refuses, in_order_first, unless_passed, unless_refused}
use Rattle.maps.proofs.Rules.{at_place, place_says}

-- two least places of one line are one
least_only : (P : ℕ → Type 0) (p q : ℕ) → P p → ((r : ℕ) → r < p → ¬ P r) → P q → ((r : ℕ) → r < q → ¬ P r) → p ≡ q
least_only P p q h f k g = at (tested (ltb p q)) (tested (ltb q p))
  where
    at : Tested (ltb p q) → Tested (ltb q p) → p ≡ q
    at (passes e) t = absurd (g p (ltb-true p q e) h)
    at (fails e) (passes f') = absurd (f q (ltb-true q p f') k)
    at (fails e) (fails f') = omega (arith, ltb-false p q e, ltb-false q p f')

-- a list of lines shows one verdict
pub shows_only : {ls : List Line} {v w : Verdict} → Shows ls v → Shows ls w → v ≡ w
shows_only none none = refl
shows_only (here {l = l} {p = p} low h f) (here {p = q} low' k g) = ap (refused l.number) (least_only l.Holds p q h f k g)
shows_only (here {p = p} low h f) (on silent t) = absurd (silent p h)
shows_only (on silent s) (here {p = p} low h f) = absurd (silent p h)
shows_only (on silent s) (on silent' t) = shows_only s t

-- no line holds of any place
pub data Clear : List Line → Type 1 where
  clear : Clear []
  past : {l : Line} {ls : List Line} → Silent l → Clear ls → Clear (l ∷ ls)

accepted_not_refused : (k p : ℕ) → 1 ≤ k → refused k p ≡ accepted → ⊥
unfolding accepts accepted
accepted_not_refused k p low is = true_not_false (ap accepts is) (refused_refuses k p low)

pub shows_clear : {ls : List Line} {v : Verdict} → Shows ls v → v ≡ accepted → Clear ls
shows_clear none is = clear
shows_clear (here {p = p} low h f) is = absurd (accepted_not_refused _ p low is)
shows_clear (on silent s) is = past silent (shows_clear s is)

pub clear_shows : {ls : List Line} {v : Verdict} → Shows ls v → Clear ls → v ≡ accepted
clear_shows none c = refl
clear_shows (here {p = p} low h f) (past silent c) = absurd (silent p h)
clear_shows (on silent s) (past silent' c) = clear_shows s c

pub clear_join : {ls ks : List Line} → Clear ls → Clear ks → Clear (ls ++ ks)
clear_join clear k = k
clear_join (past silent c) k = past silent (clear_join c k)

pub clear_split : (ls : List Line) {ks : List Line} → Clear (ls ++ ks) → Clear ls × Clear ks
clear_split [] c = (clear, c)
clear_split (l ∷ ls) (past silent c) = let rest = clear_split ls c in (past silent rest.0, rest.1)

-- a verdict, and those after it
pub shows_then : {ls ks : List Line} {v : Verdict} (vs : List Verdict) → Shows ls v → (Clear ls → Shows ks (in_order vs)) → Shows (ls ++ ks) (in_order (v ∷ vs))
unfolding in_order accepts accepted
shows_then vs none next = next clear
shows_then vs (here {l = l} {p = p} low h f) next = rw (in_order_first (refused l.number p) vs l.number p low refl) (here low h f)
shows_then vs (on silent s) next = on silent (shows_then vs s (λ c. next (past silent c)))

-- the last one
pub shows_last : {ls : List Line} {v : Verdict} → Shows ls v → Shows ls (in_order (v ∷ []))
unfolding in_order accepts accepted
shows_last none = none
shows_last (here {l = l} {p = p} low h f) = rw (in_order_first (refused l.number p) [] l.number p low refl) (here low h f)
shows_last (on silent s) = on silent (shows_last s)

-- a line that names no place and does not hold
pub plain_silent : {A : Type 0} → ¬ A → (p : ℕ) → ¬ ((p ≡ 0) × A)
plain_silent never p h = never h.1

-- a line that names no place, where its test fails
pub shows_unless : {A : Type 0} (k : ℕ) (b : Bool) → 1 ≤ k → (b ≡ false) ↔ A → Shows (plain k A ∷ []) (unless b k 0)
shows_unless {A} k b low says = at (tested b)
  where
    at : Tested b → Shows (plain k A ∷ []) (unless b k 0)
    at (passes e) = rw (unless_passed b k 0 e) (on (plain_silent (λ h. true_not_false e (says.1 h))) none)
    at (fails e) = rw (unless_refused b k 0 e) (here {l = plain k A} low (refl, says.0 e) (λ q h. absurd (omega arith)))

-- a line that holds of the places from 1 to m that pass its test
pub shows_least : (l : Line) (m : ℕ) (test : ℕ → Bool) → 1 ≤ l.number → ((p : ℕ) → l.Holds p ↔ (1 ≤ p) × (p ≤ m) × (test p ≡ true)) → Shows (l ∷ []) (at_least l.number (least m test))
unfolding at_least
shows_least l m test low says = at (sought test m)
  where
    at : Sought test m → Shows (l ∷ []) (at_least l.number (least m test))
    at (nowhere is misses) =
        rw (unless_passed _ l.number (least m test) (eq-eqb (least m test) 0 is))
        (on {l = l} (λ p h. let s = (says p).0 h in true_not_false s.2 (misses p s.0 s.1)) none)
    at (somewhere d is f) =
        rw (is, unless_refused _ l.number d (ne_eqb d 0 (λ z. omega (arith, f.low))))
        (here low ((says d).1 (f.low, f.high, f.hit)) (λ q less h. let s = (says q).0 h in true_not_false s.2 (f.before q s.0 less)))

-- 01: "the second, whose refusals are 20 higher"
pub shows_raised : {ls : List Line} {v : Verdict} → Shows ls v → Shows (raised ls) (of_second v)
unfolding raised of_second accepts accepted refused
shows_raised none = none
shows_raised (here {l = l} {p = p} low h f) = simp (ne_eqb l.number 0 (λ z. omega arith)) (here {l = record { number = 20 + l.number; Holds = l.Holds }} (omega arith) h f)
shows_raised (on silent s) = on silent (shows_raised s)

-- a line of the list has the number
unfoldable pub has_number : ℕ → List Line → Bool
has_number k [] = false
has_number k (l ∷ ls) = eqb l.number k || has_number k ls

lacks_rest : (a b : Bool) → (a || b) ≡ false → b ≡ false
lacks_rest true b e = absurd (true_not_false refl e)
lacks_rest false b e = e

-- a number that no line has is not shown
pub shows_without : {ls : List Line} {v : Verdict} (k : ℕ) → 1 ≤ k → has_number k ls ≡ false → Shows ls v → ¬ (v.number ≡ k)
unfolding has_number accepted refused
shows_without k low lacks none is = omega arith
shows_without k low lacks (here {l = l} {ls = ls} low' h f) is = true_not_false (simp (eq-eqb l.number k is)) lacks
shows_without k low lacks (on {l = l} {ls = ls} silent s) is = shows_without k low (lacks_rest (eqb l.number k) (has_number k ls) lacks) s is

-- every number of the lines is at most k
abbrev pub Most : ℕ → List Line → Type 0
Most k [] = 0 ≤ k
Most k (l ∷ ls) = (l.number ≤ k) × Most k ls

pub shows_most : {ls : List Line} {v : Verdict} (k : ℕ) → Shows ls v → Most k ls → v.number ≤ k
unfolding accepted refused
shows_most k none most = omega arith
shows_most k (here low h f) most = most.0
shows_most k (on silent s) most = shows_most k s most.1

-- a test of two bounds fails exactly when one of them does
pub bounds_fail : (a b c : ℕ) → ((leb 1 a && leb b c) ≡ false) ↔ ((a ≡ 0) ⊎ (c < b))
bounds_fail a b c = (to (tested (leb 1 a)), back (tested (leb 1 a)))
  where
    to : Tested (leb 1 a) → (leb 1 a && leb b c) ≡ false → (a ≡ 0) ⊎ (c < b)
    to (passes low) e = inr (leb-false b c (simp low at e))
    to (fails low) e = inl (omega (arith, leb-false 1 a low))

    back : Tested (leb 1 a) → (a ≡ 0) ⊎ (c < b) → (leb 1 a && leb b c) ≡ false
    back (fails low) h = simp low
    back (passes low) (inl z) = absurd (omega (arith, leb-true 1 a low))
    back (passes low) (inr over) = simp (low, lt-leb b c over)

-- a bound fails exactly when it is exceeded
pub bound_fails : (a b : ℕ) → (leb a b ≡ false) ↔ (b < a)
bound_fails a b = (leb-false a b, lt-leb a b)

module _ (g : Given) where
  pub shape_shows : Shows (shape_lines g) (judge_shape g)
  unfolding shape_lines judge_shape judge_dimension judge_size judge_length
  shape_shows =
      shows_then _ (shows_unless 1 _ (omega arith) (bounds_fail g.n g.n 4))
      (λ c.
      shows_then _ (shows_unless 2 _ (omega arith) (bounds_fail g.m (g.n * g.m) 1020))
      (λ d. shows_last (shows_unless 3 _ (omega arith) (eqb-false (length g.table) (g.n * g.m), ne_eqb (length g.table) (g.n * g.m)))))

  -- 1 to 3 leave a table in shape
  pub shape_clear : Clear (shape_lines g) ↔ Shaped g
  unfolding shape_lines
  shape_clear = (to, back)
    where
      to : Clear (shape_lines g) → Shaped g
      to (past a (past b (past c clear))) =
          let some-n : ¬ (g.n ≡ 0) = λ z. a 0 (refl, inl z) in
          let small_n : ¬ (4 < g.n) = λ h. a 0 (refl, inr h) in
          let some-m : ¬ (g.m ≡ 0) = λ z. b 0 (refl, inl z) in
          let small-m : ¬ (1020 < g.n * g.m) = λ h. b 0 (refl, inr h) in
          record {
            bounds = omega arith;
            long = dec→stable (ℕ_discrete (length g.table) (g.n * g.m)) (λ h. c 0 (refl, h));
          }

      no_1 : InBounds g.n g.m → ¬ ((g.n ≡ 0) ⊎ (4 < g.n))
      no_1 b (inl z) = omega (arith, b.dim_least)
      no_1 b (inr h) = omega (arith, b.dim_most)

      no_2 : InBounds g.n g.m → ¬ ((g.m ≡ 0) ⊎ (1020 < g.n * g.m))
      no_2 b (inl z) = omega (arith, b.darts_least)
      no_2 b (inr h) = omega (arith, b.table_most)

      no_3 : Shaped g → ¬ ¬ (length g.table ≡ g.n * g.m)
      no_3 s other = other s.long

      back : Shaped g → Clear (shape_lines g)
      back s = past (plain_silent (no_1 s.bounds)) (past (plain_silent (no_2 s.bounds)) (past (plain_silent (no_3 s)) clear))

pub room_shows : (o : Output) (n m : ℕ) → Shows (room_lines o n m) (judge_output o n m)
unfolding room_lines judge_output
room_shows Nothing n m = none
room_shows (Word room) n m = shows_unless 4 _ (omega arith) (bound_fails (n * m) room)
room_shows (Images room) n m = shows_unless 4 _ (omega arith) (bound_fails m room)

-- two tests that are both passed
pub both_pass : (a b : Bool) → (a && b) ≡ true → (a ≡ true) × (b ≡ true)
both_pass true b e = (refl, e)
both_pass false b e = absurd (true_not_false refl (sym e))

-- x is not 0, and y is not d
sewn_other : (x y d : ℕ) → (ltb 0 x && not (eqb y d)) ≡ true → (0 < x) × (¬ (y ≡ d))
sewn_other x y d e =
    let b = both_pass (ltb 0 x) (not (eqb y d)) e in
    (ltb-true 0 x b.0, eqb-false y d (not-true (eqb y d) b.1))

-- each rule's test passes exactly when its line holds of the entry
module _ (M : Map) (d i : ℕ) where
  pub exceeds_says : (exceeds M d i ≡ true) ↔ Exceeds M d i
  unfolding exceeds
  exceeds_says = (ltb-true M.darts (sew M i d), lt-ltb M.darts (sew M i d))

  pub given_before_says : (given_before M d i ≡ true) ↔ GivenBefore M d i
  unfolding given_before
  given_before_says = (to, back)
    where
      clash : ℕ → Bool
      clash e = eqb (sew M 1 e) (sew M 1 d)

      to : given_before M d i ≡ true → GivenBefore M d i
      to t =
          let b = both_pass (eqb i 1 && ltb 0 (sew M 1 d)) (some (d - 1) clash) t in
          let c = both_pass (eqb i 1) (ltb 0 (sew M 1 d)) b.0 in
          let e = least (d - 1) clash in
          let f : Found clash (d - 1) e = some_found clash (d - 1) b.1 in
          let low : 1 ≤ e = f.low in
          let less : e < d = omega (arith, f.high) in
          (eqb-true i 1 c.0, ltb-true 0 (sew M 1 d) c.1, (e, low, less, eqb-true (sew M 1 e) (sew M 1 d) f.hit))

      back : GivenBefore M d i → given_before M d i ≡ true
      back (first, sewn, (e, low, less, same)) =
          simp (
            eq-eqb i 1 first,
            lt-ltb 0 (sew M 1 d) sewn,
            passes_some clash (d - 1) e low (omega arith) (eq-eqb (sew M 1 e) (sew M 1 d) same),
          )

  pub unanswered_says : (unanswered M d i ≡ true) ↔ Unanswered M d i
  unfolding unanswered
  unanswered_says = (to, back)
    where
      to : unanswered M d i ≡ true → Unanswered M d i
      to t =
          let b = both_pass (leb 2 i && ltb 0 (sew M i d)) (not (eqb (sew M i (sew M i d)) d)) t in
          let c = both_pass (leb 2 i) (ltb 0 (sew M i d)) b.0 in
          (leb-true 2 i c.0, ltb-true 0 (sew M i d) c.1, eqb-false (sew M i (sew M i d)) d (not-true _ b.1))

      back : Unanswered M d i → unanswered M d i ≡ true
      back (second, sewn, other) = simp (le-leb 2 i second, lt-ltb 0 (sew M i d) sewn, ne_eqb (sew M i (sew M i d)) d other)

  pub composes_wrong_says : (composes_wrong M d i ≡ true) ↔ Parted M d i
  unfolding composes_wrong parted
  composes_wrong_says = (to, back)
    where
      wrong : ℕ → Bool
      wrong h = parted M h i d

      to : composes_wrong M d i ≡ true → Parted M d i
      to t =
          let h = least (i - 2) wrong in
          let f : Found wrong (i - 2) h = some_found wrong (i - 2) t in
          let low : 1 ≤ h = f.low in
          let apart : h + 2 ≤ i = omega (arith, f.high) in
          let s = sewn_other _ _ _ f.hit in
          (h, _, low, apart, refl, s.0, s.1)

      back : Parted M d i → composes_wrong M d i ≡ true
      back (h, e, low, apart, is, sewn, other) =
          passes_some wrong (i - 2) h low (omega arith) (simp (is, lt-ltb 0 e sewn, ne_eqb (sew M h (sew M i e)) d other))

module _ (M : Map) (dim : 1 ≤ M.dim) where
  -- a rule's verdict is what its line shows
  rule_shows : (r : Rule) (Breaks : Map → ℕ → ℕ → Type 0) → 1 ≤ r.number → ((d i : ℕ) → (r.broken M d i ≡ true) ↔ Breaks M d i) → Shows (entry_line M r.number Breaks ∷ []) (judged_by M r)
  unfolding judged_by shown_place wrong_entry at_least
  rule_shows r Breaks low says = shows_least (entry_line M r.number Breaks) (M.dim * M.darts) (at_place M r) low (λ p. (to p, back p))
    where
      to : (p : ℕ) → (entry_line M r.number Breaks).Holds p → (1 ≤ p) × (p ≤ M.dim * M.darts) × (at_place M r p ≡ true)
      to p (d, i, e, is, b) = (place_says M r dim p).0 (d, i, e, is, (says d i).1 b)

      back : (p : ℕ) → (1 ≤ p) × (p ≤ M.dim * M.darts) × (at_place M r p ≡ true) → (entry_line M r.number Breaks).Holds p
      back p h = let (d, i, e, is, b) = (place_says M r dim p).1 h in (d, i, e, is, (says d i).0 b)

  pub entries_shows : Shows (entry_lines M) (judge_entries M)
  unfolding entry_lines judge_entries rules
  entries_shows =
      shows_then _ (rule_shows over_rule Exceeds (omega arith) (exceeds_says M))
      (λ a.
      shows_then _ (rule_shows clash_rule GivenBefore (omega arith) (given_before_says M))
      (λ b.
      shows_then _ (rule_shows reverse_rule Unanswered (omega arith) (unanswered_says M))
      (λ c. shows_last (rule_shows compose_rule Parted (omega arith) (composes_wrong_says M)))))

-- what is sewn is an entry of the table
sewn_entry : (M : Map) (i d : ℕ) → 1 ≤ i → 0 < sew M i d → Entry M d i
sewn_entry M i d low sewn = (sewn_dart M i d sewn, low, sewn_low M i d sewn)

module _ (M : Map) (a : Silent (entry_line M 5 Exceeds)) (b : Silent (entry_line M 6 GivenBefore)) (c : Silent (entry_line M 7 Unanswered)) (e : Silent (entry_line M 8 Parted)) where
  silent_5 : (i d : ℕ) → ¬ (M.darts < sew M i d)
  silent_5 zero d over = omega (arith, back_dart M d)
  silent_5 (suc i) d over = a _ (d, suc i, sewn_entry M (suc i) d (omega arith) (omega arith), refl, over)

  silent_6 : (d f : ℕ) → 0 < sew M 1 d → sew M 1 d ≡ sew M 1 f → ¬ (d < f)
  silent_6 d f sewn same less =
      let sewn-f : 0 < sew M 1 f = rw same at sewn in
      b _ (f, 1, sewn_entry M 1 f (omega arith) sewn-f, refl, (refl, sewn-f, (d, (sewn_dart M 1 d sewn).0, less, same)))

  silent_8 : (i j d f : ℕ) → 1 ≤ i → i + 2 ≤ j → sew M i (sew M j d) ≡ f → 0 < f → ¬ ¬ (sew M i (sew M j f) ≡ d)
  silent_8 i j d f low apart is sewn other =
      let there = sewn_dart M i (sew M j d) (rw is sewn) in
      e _ (d, j, sewn_entry M j d (omega arith) there.0, refl, (i, f, low, apart, is, sewn, other))

  silent_open : OpenMap M
  silent_open =
      record {
        to_darts = λ i d. let not-over = silent_5 i d in omega arith;
        one_to_one = λ d f sewn same.
            let not-less = silent_6 d f sewn same in
            let not_more = silent_6 f d (rw same at sewn) (sym same) in
            omega arith;
        own_reverse = λ i d second sewn.
            dec→stable (ℕ_discrete _ _) (λ other. c _ (d, i, sewn_entry M i d (omega arith) sewn, refl, (second, sewn, other)));
        compositions = λ i j d f low apart is sewn. dec→stable (ℕ_discrete _ _) (silent_8 i j d f low apart is sewn);
      }

-- none of the lines 5 to 8 holds exactly in an open map
pub entries_clear : (M : Map) → Clear (entry_lines M) ↔ OpenMap M
unfolding entry_lines
entries_clear M = (to, back)
  where
    to : Clear (entry_lines M) → OpenMap M
    to (past a (past b (past c (past e clear)))) = silent_open M a b c e

    clash_not : OpenMap M → (d i : ℕ) → ¬ GivenBefore M d i
    clash_not o d i (first, sewn, (e, low, less, same)) = omega (arith, o.one_to_one e d (rw same sewn) same)

    parted_not : OpenMap M → (d i : ℕ) → ¬ Parted M d i
    parted_not o d i (h, e, low, apart, is, sewn, other) = other (o.compositions h i d e low apart is sewn)

    entry_silent : (Breaks : Map → ℕ → ℕ → Type 0) → ((d i : ℕ) → ¬ Breaks M d i) → (p : ℕ) → ¬ ((d i : ℕ) × Entry M d i × (p ≡ place_of M.dim d i) × Breaks M d i)
    entry_silent Breaks never p (d, i, e, is, b) = never d i b

    back : OpenMap M → Clear (entry_lines M)
    back o =
        past (entry_silent Exceeds (λ d i over. omega (arith, o.to_darts i d)))
        (past (entry_silent GivenBefore (clash_not o))
        (past (entry_silent Unanswered (λ d i h. h.2 (o.own_reverse i d h.0 h.1)))
        (past (entry_silent Parted (parted_not o)) clear)))

-- 1 to 8
module _ (o : Output) (g : Given) where
  pub sewing_shows : Shows (shape_lines g ++ (room_lines o g.n g.m ++ entry_lines (map_of g))) (judge_sewing o g)
  unfolding judge_sewing map_of
  sewing_shows =
      shows_then _ (shape_shows g)
      (λ c.
      shows_then _ (room_shows o g.n g.m)
      (λ d. shows_last (entries_shows (map_of g) ((shape_clear g).0 c).bounds.dim_least)))

  -- what passes them is a table in shape, and an open map
  pub sewing_clear : judge_sewing o g ≡ accepted → Shaped g × OpenMap (map_of g)
  sewing_clear is =
      let first = clear_split (shape_lines g) (shows_clear sewing_shows is) in
      ((shape_clear g).0 first.0, (entries_clear (map_of g)).0 (clear_split (room_lines o g.n g.m) first.1).1)
