-- The laws of `specs/Rules.antt`: places of entries, the least entry that breaks a rule, and numbers 1 to 8 in their order.
--     dart_at_place_of, sewing_at_place_of  the dart and the sewing of an entry's place
--     place_low, place_below               an entry's place, and those of the entries of lower darts
--     place_says                           the places that break a rule are those of the entries that do
--     over_speaks, reverse_speaks, compose_speaks
--                                          no rule is broken by a sewing below the least that it speaks of
--     unanswered_.., parted_..             how the tests of 7 and 8 come out, by what the sewings are
--     clash_entry, clash_none              rule 6, judged dart by dart
--     Kept, wrong_entry_none               no entry breaks a rule, exactly when it finds no wrong one
--     wrong_entry_row, wrong_entry_rows    the wrong entry, searched for row by row
--     entry_found, row_passed, entries_over  the same, as the searches answer
--     sewing_inside                        the entry found is inside the table
--     over_none                            what rule 5 leaves
--     Pass, rules_found, rules_some, rules_none
--                                          the entries' verdict, by the wrong entry of each rule in turn
--     shape_dimension .. shape_passed, in_shape
--                                          numbers 1 to 3, by their tests
--     sewing_shape, sewing_short, sewing_entries
--                                          numbers 1 to 8
-- Assumes nothing.
use Prim.Native.Nat.{ℕ, zero, suc, suc-le-suc, ◌+◌, ◌-◌, ◌*◌, ◌/◌, ◌%◌, ◌≤◌, ◌<◌}
use mathlib.Core.Path.{◌≡◌, refl, sym, ap, ◌∙◌}
use mathlib.Core.Bool.{Bool, true, false, not, ◌&&◌}
use mathlib.Core.List.{List, [], ◌∷◌, ◌++◌, map}
use mathlib.Core.Logic.{◌↔◌, ◌⊎◌, inl, inr, ⊎_elim}
use native.Mathlib.Omega.{arith}
use native.Mathlib.Nat.{mul-add-div_right, mul-add-mod_self_right, div-eq_of_lt, mod-eq_of_lt, suc-mul, le_trans, mul-le-mul_right, div-lt_iff_lt-mul, div-mul-le_self, div-add-mod', mod-lt, mul_comm, eq-or-lt_of_le}
use borrow.Author.Tests.{eq-eqb, ne_eqb, eqb-true, leb-true, le-leb, lt-leb, lt-ltb, ltb-true, ltb-false}
use lib.Dec.{eqb, leb, ltb}
use lib.ListN.{length}
use Rattle.std.specs.Prelude.{None, Some}
use Rattle.maps.specs.Least.{least, found_at, some}
use Rattle.maps.specs.Map.{Map, IsDart, sew}
use Rattle.maps.specs.Given.{Given, place_of, map_of, Shaped}
use Rattle.maps.specs.Verdict.{accepted, refused, accepts, unless, in_order}
use Rattle.maps.specs.Accepted.{ToDarts}
use Rattle.maps.specs.Lines.{Entry}
use Rattle.maps.specs.Rules.{judge_dimension, judge_size, judge_length, judge_shape, judge_output, Rule, exceeds, given_before, unanswered, parted, composes_wrong, over_rule, clash_rule, reverse_rule, compose_rule, dart_at, sewing_at, wrong_entry, shown_place, judged_by, judge_entries, judge_sewing}
use Rattle.maps.specs.Inside.{SpeaksFrom, wrong_sewing}
use Rattle.maps.specs.declared.Output.{Output}
use Rattle.maps.specs.declared.Output.TheVariants.{Nothing, Word, Images}
use Rattle.maps.proofs.Least.{Tested, passes, fails, tested, true_not_false, Misses, Found, Passed, passed_turn, passed_misses, least_none, least_found, none_least, least_is, some_misses, misses_some, found_some, found_none, some_is, none_is}
use Rattle.maps.proofs.Given.{in_table}
use Rattle.maps.proofs.Map.{back_dart, sewn_dart, sewn_low}
use Rattle.maps.proofs.Verdict.{in_order_passed, in_order_first, in_order-accepts, in_order_one, unless_refused, unless-accepts}

module _ (n d i : ℕ) (dim : 1 ≤ n) (low : 1 ≤ i) (high : i ≤ n) where
  -- the place counted from 0
  before_place : place_of n d i - 1 ≡ (d - 1) * n + (i - 1)
  unfolding place_of
  before_place = omega arith

  pub dart_at_place_of : 1 ≤ d → dart_at n (place_of n d i) ≡ d
  unfolding dart_at
  dart_at_place_of dart =
      rw (before_place, mul-add-div_right dim (d - 1) (i - 1), div-eq_of_lt {n = i - 1} {m = n} (omega arith)) (omega arith)

  pub sewing_at_place_of : sewing_at n (place_of n d i) ≡ i
  unfolding sewing_at
  sewing_at_place_of =
      rw (before_place, mul-add-mod_self_right (d - 1) n (i - 1), mod-eq_of_lt {n = i - 1} {m = n} (omega arith)) (omega arith)

-- places before a dart's first entry are those of lower darts
pub dart_at_below : (n d p : ℕ) → 1 ≤ n → 1 ≤ p → 1 ≤ d → p < place_of n d 1 → dart_at n p < d
unfolding place_of dart_at
dart_at_below n d p dim one dart before =
    let h : (p - 1) / n < d - 1 = (div-lt_iff_lt-mul dim).1 (omega arith) in
    omega arith

-- every place of the table is a dart's
pub dart_at_high : (n m p : ℕ) → 1 ≤ n → 1 ≤ p → p ≤ n * m → dart_at n p ≤ m
unfolding dart_at
dart_at_high n m p dim one inside =
    let h : (p - 1) / n < m = (div-lt_iff_lt-mul dim).1 (omega (arith, mul_comm n m)) in
    omega arith

pub dart_at_low : (n p : ℕ) → 1 ≤ dart_at n p
unfolding dart_at
dart_at_low n p = omega arith

-- rule 6 asks of β1 alone
clash_first : (M : Map) (d i : ℕ) → given_before M d 1 ≡ false → given_before M d i ≡ false
unfolding given_before
clash_first M d i none = at (tested (eqb i 1))
  where
    at : Tested (eqb i 1) → given_before M d i ≡ false
    at (passes e) = rw (eqb-true i 1 e) none
    at (fails e) = simp e

-- a dart's first entry lies in the table
first_low : (n d : ℕ) → 1 ≤ place_of n d 1
unfolding place_of
first_low n d = omega arith

first_high : (n m d : ℕ) → 1 ≤ n → 1 ≤ d → d ≤ m → place_of n d 1 ≤ n * m
unfolding place_of
first_high n m d dim low high =
    let row : suc (d - 1) * n ≤ m * n = mul-le-mul_right n (omega arith) in
    omega (arith, mul_comm m n)

module _ (M : Map) (dim : 1 ≤ M.dim) (d : ℕ) (so_far : Passed (λ e. given_before M e 1) d) where
  pub clash_entry : 1 ≤ d → d ≤ M.darts → given_before M d 1 ≡ true → wrong_entry M clash_rule ≡ place_of M.dim d 1
  unfolding wrong_entry
  clash_entry low high hit =
      least_is _ _
      (record {
        low = first_low M.dim d;
        high = first_high M.dim M.darts d dim low high;
        hit = rw (dart_at_place_of M.dim d 1 dim (omega arith) dim low, sewing_at_place_of M.dim d 1 dim (omega arith) dim) hit;
        before = λ p one below.
            clash_first M _ _ (so_far (dart_at M.dim p) (dart_at_low M.dim p) (dart_at_below M.dim d p dim one low below));
      })

  pub clash_none : M.darts < d → wrong_entry M clash_rule ≡ 0
  unfolding wrong_entry
  clash_none past =
      none_least _ _
      (λ p one inside.
      clash_first M _ _ (so_far (dart_at M.dim p) (dart_at_low M.dim p) (le_trans (suc-le-suc (dart_at_high M.dim M.darts p dim one inside)) past)))

module _ (M : Map) (d i : ℕ) where
  pub unanswered_first : i < 2 → false ≡ unanswered M d i
  unfolding unanswered
  unanswered_first h = simp (lt-leb 2 i h)

  pub unanswered_unsewn : 2 ≤ i → (e : ℕ) → e ≡ sew M i d → e ≡ 0 → false ≡ unanswered M d i
  unfolding unanswered
  unanswered_unsewn h e there none = let unsewn : sew M i d ≡ 0 = sym there ∙ none in simp (le-leb 2 i h, unsewn)

  pub unanswered_sewn : 2 ≤ i → (e f : ℕ) → e ≡ sew M i d → (e ≡ 0 → ⊥) → f ≡ sew M i e → not (eqb f d) ≡ unanswered M d i
  unfolding unanswered
  unanswered_sewn h e f there some back =
      let sewn : ltb 0 e ≡ true = lt-ltb 0 e (omega arith) in
      simp (le-leb 2 i h, ← there, sewn, ← back)

-- no rule is broken by a sewing below the least that it speaks of: 5 speaks of every one, 7 of β2 and up, and 8 of βj with j at
-- least 3, since i runs to j − 2
pub over_speaks : SpeaksFrom over_rule 1
over_speaks = record { some = omega arith; below = λ M d i low below. absurd (omega arith) }

pub reverse_speaks : SpeaksFrom reverse_rule 2
reverse_speaks = record { some = omega arith; below = λ M d i low below. sym (unanswered_first M d i below) }

composes_first : (M : Map) (d i : ℕ) → i < 3 → composes_wrong M d i ≡ false
unfolding composes_wrong some least
composes_first M d i below = let none : i - 2 ≡ 0 = omega arith in rw none refl

pub compose_speaks : SpeaksFrom compose_rule 3
compose_speaks = record { some = omega arith; below = λ M d i low below. composes_first M d i below }

module _ (M : Map) (i j d x e : ℕ) (first : x ≡ sew M j d) (second : e ≡ sew M i x) where
  pub parted_unsewn : e ≡ 0 → false ≡ parted M i j d
  unfolding parted
  parted_unsewn none = let unsewn : sew M i x ≡ 0 = sym second ∙ none in simp (← first, unsewn)

  pub parted_sewn : (e ≡ 0 → ⊥) → (y f : ℕ) → y ≡ sew M j e → f ≡ sew M i y → not (eqb f d) ≡ parted M i j d
  unfolding parted
  parted_sewn some y f third fourth =
      let sewn : ltb 0 e ≡ true = lt-ltb 0 e (omega arith) in
      simp (← first, ← second, sewn, ← third, ← fourth)

-- each entry has its place in the table
pub place_low : (n d i : ℕ) → 1 ≤ i → 1 ≤ place_of n d i
unfolding place_of
place_low n d i low = omega arith

place_high : (n m d i : ℕ) → 1 ≤ d → d ≤ m → i ≤ n → place_of n d i ≤ n * m
unfolding place_of
place_high n m d i low high in_row =
    let row : suc (d - 1) * n ≤ m * n = mul-le-mul_right n (omega arith) in
    omega (arith, mul_comm m n, suc-mul (d - 1) n)

-- the entries of lower darts stand before
pub place_below : (n d i p : ℕ) → 1 ≤ d → i ≤ n → 1 ≤ p → d < dart_at n p → place_of n d i < p
unfolding place_of dart_at
place_below n d i p low in_row one below =
    let row : suc (d - 1) * n ≤ (p - 1) / n * n = mul-le-mul_right n (omega arith) in
    omega (arith, suc-mul (d - 1) n, div-mul-le_self (p - 1) n)

-- each place is that of an entry
sewing_at_low : (n p : ℕ) → 1 ≤ sewing_at n p
unfolding sewing_at
sewing_at_low n p = omega arith

sewing_at_high : (n p : ℕ) → 1 ≤ n → sewing_at n p ≤ n
unfolding sewing_at
sewing_at_high n p dim = omega (arith, mod-lt (p - 1) dim)

-- and is the place of that entry
place_of_at : (n p : ℕ) → 1 ≤ p → place_of n (dart_at n p) (sewing_at n p) ≡ p
unfolding place_of dart_at sewing_at
place_of_at n p one =
    let row : (p - 1) / n + 1 - 1 ≡ (p - 1) / n = omega arith in
    rw row (omega (arith, div-add-mod' (p - 1) n))

-- what stands before an entry is of a lower dart, or of a lower sewing of the same
place_order : (n d i p : ℕ) → 1 ≤ d → i ≤ n → 1 ≤ p → p < place_of n d i → (dart_at n p < d) ⊎ ((dart_at n p ≡ d) × (sewing_at n p < i))
unfolding place_of dart_at sewing_at
place_order n d i p dart in_row one below = at (tested (ltb (dart_at n p) d))
  where
    same : d ≤ dart_at n p → dart_at n p ≡ d
    same up = ⊎_elim (λ e. sym e) (λ h. absurd (omega (arith, below, place_below n d i p dart in_row one h))) (eq-or-lt_of_le up)

    before_sewing : dart_at n p ≡ d → sewing_at n p < i
    before_sewing e =
        let q : (p - 1) / n ≡ d - 1 = omega arith in
        let row : (d - 1) * n + (p - 1) % n ≡ p - 1 = rw q at (div-add-mod' (p - 1) n) in
        omega (arith, row, below)

    at : Tested (ltb (dart_at n p) d) → (dart_at n p < d) ⊎ ((dart_at n p ≡ d) × (sewing_at n p < i))
    at (passes lower) = inl (ltb-true (dart_at n p) d lower)
    at (fails up) = let is = same (ltb-false (dart_at n p) d up) in inr (is, before_sewing is)

-- no entry breaks the rule
abbrev pub Kept : Map → Rule → Type 0
Kept M r = (d i : ℕ) → Entry M d i → r.broken M d i ≡ false

-- the entry at a place breaks the rule; an entry of a dart does
abbrev pub at_place : Map → Rule → ℕ → Bool
at_place M r p = r.broken M (dart_at M.dim p) (sewing_at M.dim p)

abbrev pub at_dart : Map → Rule → ℕ → Bool
at_dart M r d = some M.dim (λ i. r.broken M d i)

module _ (M : Map) (r : Rule) (dim : 1 ≤ M.dim) where
  at_place_entry : (d i : ℕ) → Entry M d i → r.broken M (dart_at M.dim (place_of M.dim d i)) (sewing_at M.dim (place_of M.dim d i)) ≡ r.broken M d i
  at_place_entry d i e = rw (dart_at_place_of M.dim d i dim e.1 e.2 e.0.0, sewing_at_place_of M.dim d i dim e.1 e.2)

  place_entry : (p : ℕ) → 1 ≤ p → p ≤ M.dim * M.darts → Entry M (dart_at M.dim p) (sewing_at M.dim p)
  place_entry p low high = ((dart_at_low M.dim p, dart_at_high M.dim M.darts p dim low high), sewing_at_low M.dim p, sewing_at_high M.dim p dim)

  missed_kept : Misses (at_place M r) (M.dim * M.darts) → Kept M r
  missed_kept m d i e = sym (at_place_entry d i e) ∙ m (place_of M.dim d i) (place_low M.dim d i e.1) (place_high M.dim M.darts d i e.0.0 e.0.1 e.2)

  kept_missed : Kept M r → Misses (at_place M r) (M.dim * M.darts)
  kept_missed k p low high = k (dart_at M.dim p) (sewing_at M.dim p) (place_entry p low high)

  -- the places that break the rule are those of the entries that do
  pub place_says : (p : ℕ) → ((d i : ℕ) × Entry M d i × (p ≡ place_of M.dim d i) × (r.broken M d i ≡ true)) ↔ ((1 ≤ p) × (p ≤ M.dim * M.darts) × (at_place M r p ≡ true))
  place_says p = (to, back)
    where
      to : (d i : ℕ) × Entry M d i × (p ≡ place_of M.dim d i) × (r.broken M d i ≡ true) → (1 ≤ p) × (p ≤ M.dim * M.darts) × (at_place M r p ≡ true)
      to (d, i, e, is, b) =
          rw is
          (place_low M.dim d i e.1, place_high M.dim M.darts d i e.0.0 e.0.1 e.2, at_place_entry d i e ∙ b)

      back : (1 ≤ p) × (p ≤ M.dim * M.darts) × (at_place M r p ≡ true) → (d i : ℕ) × Entry M d i × (p ≡ place_of M.dim d i) × (r.broken M d i ≡ true)
      back (low, high, b) = (dart_at M.dim p, sewing_at M.dim p, place_entry p low high, sym (place_of_at M.dim p low), b)

  -- the rule finds no wrong entry exactly when no entry breaks it
  pub wrong_entry_none : (wrong_entry M r ≡ 0) ↔ Kept M r
  unfolding wrong_entry
  wrong_entry_none = (λ e. missed_kept (least_none (at_place M r) _ e), λ k. none_least (at_place M r) _ (kept_missed k))

  -- searched for row by row: no row does, or it stands in the first that does
  pub wrong_entry_rows : Misses (at_dart M r) M.darts → wrong_entry M r ≡ 0
  wrong_entry_rows none = wrong_entry_none.1 (λ d i e. some_misses _ _ (none d e.0.0 e.0.1) i e.1 e.2)

  pub wrong_entry_row : (d i : ℕ) → IsDart M d → Passed (at_dart M r) d → Found (λ j. r.broken M d j) M.dim i → wrong_entry M r ≡ place_of M.dim d i
  unfolding wrong_entry
  wrong_entry_row d i dart so_far f =
      least_is (at_place M r) _
      (record {
        low = place_low M.dim d i f.low;
        high = place_high M.dim M.darts d i dart.0 dart.1 f.high;
        hit = at_place_entry d i (dart, f.low, f.high) ∙ f.hit;
        before = λ p one below. at p (place_order M.dim d i p dart.0 f.high one below);
      })
    where
      at : (p : ℕ) → (dart_at M.dim p < d) ⊎ ((dart_at M.dim p ≡ d) × (sewing_at M.dim p < i)) → at_place M r p ≡ false
      at p (inl lower) = some_misses _ _ (so_far (dart_at M.dim p) (dart_at_low M.dim p) lower) (sewing_at M.dim p) (sewing_at_low M.dim p) (sewing_at_high M.dim p dim)
      at p (inr (same, less)) = rw (at_place, same) (f.before (sewing_at M.dim p) (sewing_at_low M.dim p) less)

-- the same of one row and of rule 6, as the searches answer them
module _ (M : Map) (r : Rule) (dim : 1 ≤ M.dim) (d : ℕ) (so_far : Passed (at_dart M r) d) where
  pub entry_found : (i : ℕ) → IsDart M d → Some i ≡ found_at (wrong_sewing M r d) → Some (place_of M.dim d i) ≡ found_at (wrong_entry M r)
  unfolding wrong_sewing
  entry_found i dart is =
      let here = some_is is in
      let f : Found (λ j. r.broken M d j) M.dim i = rw (← here.0) (least_found _ _ (omega arith)) in
      found_some (place_low M.dim d i f.low) (wrong_entry_row M r dim d i dart so_far f)

  pub row_passed : None ≡ found_at (wrong_sewing M r d) → Passed (at_dart M r) (d + 1)
  unfolding wrong_sewing
  row_passed none = passed_turn (at_dart M r) so_far (misses_some _ _ (least_none _ _ (none_is none)))

  pub entries_over : M.darts < d → None ≡ found_at (wrong_entry M r)
  entries_over past = found_none (wrong_entry_rows M r dim (passed_misses _ so_far past))

-- the entry found is inside the table
pub sewing_inside : {g : Given} → Shaped g → (r : Rule) (d i : ℕ) → 1 ≤ d → d ≤ g.m → Some i ≡ found_at (wrong_sewing (map_of g) r d) → (d - 1) * g.n + i ≤ 1020
unfolding wrong_sewing map_of
sewing_inside {g} s r d i low high is =
    let here = some_is is in
    let f : Found (λ j. r.broken (map_of g) d j) g.n i = rw (← here.0) (least_found _ _ (omega arith)) in
    omega (arith, in_table s d i low high f.low f.high, s.long, s.bounds.table_most)

-- what rule 5 leaves: every βi leads to a dart or to nothing
pub over_none : (M : Map) → 1 ≤ M.dim → wrong_entry M over_rule ≡ 0 → ToDarts M
unfolding exceeds
over_none M dim none i d = at i (tested (ltb 0 (sew M i d)))
  where
    at : (j : ℕ) → Tested (ltb 0 (sew M j d)) → sew M j d ≤ M.darts
    at zero t = back_dart M d
    at (suc j) (fails e) = omega (arith, ltb-false 0 (sew M (suc j) d) e)
    at (suc j) (passes e) =
        let sewn = ltb-true 0 (sew M (suc j) d) e in
        ltb-false M.darts (sew M (suc j) d) ((wrong_entry_none M over_rule dim).0 none d (suc j) (sewn_dart M (suc j) d sewn, omega arith, sewn_low M (suc j) d sewn))

-- the rules of a list find no wrong entry
pub data Pass (M : Map) : List Rule → Type 0 where
  done : Pass M []
  past : {r : Rule} {rs : List Rule} → wrong_entry M r ≡ 0 → Pass M rs → Pass M (r ∷ rs)

module _ {M : Map} where
  -- the next one finds the wrong entry p
  pub rules_found : {rs : List Rule} → Pass M rs → (r : Rule) (ss : List Rule) (p : ℕ) → 1 ≤ r.number → p ≡ wrong_entry M r → (p ≡ 0 → ⊥) → in_order (map (judged_by M) (rs ++ (r ∷ ss))) ≡ refused r.number p
  unfolding judged_by shown_place accepts accepted unless in_order
  rules_found done r ss p low is wrong =
      in_order_first (judged_by M r) (map (judged_by M) ss) r.number p low (simp (ne_eqb (wrong_entry M r) 0 (λ z. wrong (is ∙ z)), is))
  rules_found (past none rest) r ss p low is wrong = simp none (rules_found rest r ss p low is wrong)

  -- the same, as its search answers it
  pub rules_some : {rs : List Rule} → Pass M rs → (r : Rule) (ss : List Rule) {p : ℕ} → 1 ≤ r.number → Some p ≡ found_at (wrong_entry M r) → in_order (map (judged_by M) (rs ++ (r ∷ ss))) ≡ refused r.number p
  rules_some passed r ss {p} low is = let here = some_is is in rules_found passed r ss p low (sym here.0) (λ z. omega arith)

  -- none does
  pub rules_none : {rs : List Rule} → Pass M rs → in_order (map (judged_by M) rs) ≡ accepted
  unfolding judged_by accepts accepted unless in_order
  rules_none done = refl
  rules_none (past none rest) = simp none (rules_none rest)

and_split : (a b : Bool) → (a && b) ≡ true → (a ≡ true) × (b ≡ true)
and_split true true h = (refl, refl)
and_split true false h = absurd (true_not_false h refl)
and_split false b h = absurd (true_not_false h refl)

-- 1 to 3 of a table, by their tests
module _ (g : Given) where
  abbrev pub dimension_fits : Bool
  dimension_fits = leb 1 g.n && leb g.n 4

  abbrev pub size_fits : Bool
  size_fits = leb 1 g.m && leb (g.n * g.m) 1020

  pub shape_dimension : dimension_fits ≡ false → judge_shape g ≡ refused 1 0
  unfolding judge_shape judge_dimension unless in_order accepts refused
  shape_dimension h = simp h

  module _ (n-fits : dimension_fits ≡ true) where
    pub shape_size : size_fits ≡ false → judge_shape g ≡ refused 2 0
    unfolding judge_shape judge_dimension judge_size unless in_order accepts accepted refused
    shape_size h = simp (n-fits, h)

    module _ (m-fits : size_fits ≡ true) where
      pub shape_long : (length g.table ≡ g.n * g.m → ⊥) → judge_shape g ≡ refused 3 0
      unfolding judge_shape judge_dimension judge_size judge_length unless in_order accepts accepted refused
      shape_long h = simp (n-fits, m-fits, ne_eqb (length g.table) (g.n * g.m) h)

      pub shape_passed : length g.table ≡ g.n * g.m → judge_shape g ≡ accepted
      unfolding judge_shape judge_dimension judge_size judge_length unless in_order accepts accepted
      shape_passed h = simp (n-fits, m-fits, eq-eqb (length g.table) (g.n * g.m) h)

      pub in_shape : length g.table ≡ g.n * g.m → Shaped g
      in_shape h =
          let n = and_split (leb 1 g.n) (leb g.n 4) n-fits in
          let m = and_split (leb 1 g.m) (leb (g.n * g.m) 1020) m-fits in
          record {
            bounds = record { dim_least = leb-true 1 g.n n.0; dim_most = leb-true g.n 4 n.1; darts_least = leb-true 1 g.m m.0; table_most = leb-true (g.n * g.m) 1020 m.1 };
            long = h;
          }

-- an output that is refused is refused with 4
output_refused : (o : Output) (n m : ℕ) → accepts (judge_output o n m) ≡ false → judge_output o n m ≡ refused 4 0
unfolding judge_output accepts accepted
output_refused Nothing n m e = absurd (true_not_false refl e)
output_refused (Word room) n m e = unless_refused (leb (n * m) room) 4 0 (sym (unless-accepts (leb (n * m) room) 4 0 (omega arith)) ∙ e)
output_refused (Images room) n m e = unless_refused (leb m room) 4 0 (sym (unless-accepts (leb m room) 4 0 (omega arith)) ∙ e)

-- numbers 1 to 8: the shape's, the output's, or the entries'
module _ (o : Output) (g : Given) where
  pub sewing_shape : (k : ℕ) → 1 ≤ k → judge_shape g ≡ refused k 0 → judge_sewing o g ≡ refused k 0
  unfolding judge_sewing
  sewing_shape k low is = in_order_first _ _ k 0 low is

  module _ (shape : judge_shape g ≡ accepted) where
    sewing_left : judge_sewing o g ≡ in_order (judge_output o g.n g.m ∷ judge_entries (map_of g) ∷ [])
    unfolding judge_sewing accepts accepted
    sewing_left = in_order_passed _ _ (ap accepts shape)

    pub sewing_short : accepts (judge_output o g.n g.m) ≡ false → judge_sewing o g ≡ refused 4 0
    sewing_short e = sewing_left ∙ in_order_first _ _ 4 0 (omega arith) (output_refused o g.n g.m e)

    pub sewing_entries : accepts (judge_output o g.n g.m) ≡ true → judge_sewing o g ≡ judge_entries (map_of g)
    unfolding judge_entries
    sewing_entries e = sewing_left ∙ in_order_passed _ _ e ∙ in_order_one _ (in_order-accepts _)
