-- The laws of `specs/FirstRow.antt`: the rank of a start is read off its word, so it tells starts apart.
--     first_number               the first number of a word
--     rank_less                  a start of a lesser rank has a lesser word
--     rank_filter                the starts of the least rank may be kept alone
--     rank_read                  a rank, of what is read
--     Ranking, ranking_..        the least rank, start by start
--     passed_by, not_passed      when a start is passed over
-- Assumes nothing.
use Prim.Native.Nat.{ℕ, suc, min, ◌+◌, ◌*◌, ◌≤◌, ◌<◌}
use mathlib.Core.Path.{◌≡◌, refl, sym, ap, ◌∙◌}
use mathlib.Core.Bool.{Bool, true, false, cond, not}
use mir.Val.{bool_byte}
use mathlib.Core.Logic.{◌⊎◌, inl, inr, ⊎_elim}
use mathlib.Core.List.{List, [], ◌∷◌, ◌++◌}
use native.Mathlib.Omega.{arith}
use native.Mathlib.Nat.{eq-or-lt_of_le, zero-mul, mul-le-mul_right}
use borrow.Author.Tests.{eqb-true, eqb-false, eq-eqb, ltb-true, ltb-false}
use lib.Dec.{eqb, ltb}
use lib.ListN.{length, get_or, take}
use lib.Seq.{take-suc}
use Rattle.maps.specs.Least.{nth}
use Rattle.maps.specs.Map.{Map, IsDart, sew}
use Rattle.maps.specs.Given.{place_of}
use Rattle.maps.specs.Accepted.{Accepted}
use Rattle.maps.proofs.Least.{Tested, passes, fails, tested, true_not_false, nth-suc}
use Rattle.maps.proofs.Map.{sewn_low, back_forth}
use Rattle.labels.specs.Queue.{label_in, visit, tried, served, labelling}
use Rattle.labels.proofs.Queue.{label_in_nil, label_in_snoc_new, label_in_snoc_other, Grown, grown_label, grown_trans, visit_nothing, visit_old, visit_new, tried_zero, tried_suc, tried_grown, serve_tried, served_zero, served_suc, labelling_grown, labelling_first, labelling_start, queue_zero, labelling_queue, nth_one}
use Rattle.words.specs.Words.{word, less}
use Rattle.words.specs.FirstRow.{first_label, rank_of, LeastRank, passes_over}
use Rattle.words.proofs.Words.{length_word, nth_word}
use Rattle.labels.proofs.Reached.{labelling_numbers}
use Rattle.words.proofs.Order.{less_irreflexive}
use Rattle.words.proofs.Starts.{some_numbers}
use Rattle.words.proofs.Lexicographic.{less_at}
use Rattle.words.proofs.Leading.{Filter}

-- d alone has labelled none but itself
alone_none : (d e : ℕ) → (e ≡ d → ⊥) → label_in (d ∷ []) e ≡ 0
alone_none d e other = label_in_snoc_other [] e d other ∙ label_in_nil e

module _ {M : Map} (a : Accepted M) (d : ℕ) (dart : IsDart M d) where
  abbrev back : ℕ
  back = sew M 0 d

  abbrev next : ℕ
  next = sew M 1 d

  -- what d has met once it has tried β0 and β1 stands first in its labelling
  met_first : Grown (visit (visit (d ∷ []) back) next) (labelling M d)
  met_first =
      let q = d ∷ [] in
      let first : tried M q d 1 ≡ visit (visit q back) next = tried_suc M q d 0 ∙ ap (λ (r : List ℕ). visit r next) (tried_zero M q d) in
      let one : served M d 1 ≡ tried M q d M.dim =
      served_suc M d 0 ∙ rw (served_zero M d, nth_one d []) (serve_tried M q d) in
      grown_trans (rw first at (tried_grown M q d 1 M.dim a.bounds.dim_least)) (rw one at (labelling_grown M d 1 a.bounds.darts_least))

  -- where β0(d) is met and gets no label of its own, β1(d) gets 2
  second_label : (next ≡ 0 → ⊥) → (next ≡ d → ⊥) → visit (d ∷ []) back ≡ d ∷ [] → label_in (visit (visit (d ∷ []) back) next) next ≡ 2
  second_label some other is =
      let none = alone_none d next other in
      ap (λ (q : List ℕ). label_in (visit q next) next) is
      ∙ ap (λ (q : List ℕ). label_in q next) (visit_new (d ∷ []) next (omega (arith, some)) none)
      ∙ label_in_snoc_new (d ∷ []) next none

  -- where it gets 2
  module _ (some : next ≡ 0 → ⊥) (other : next ≡ d → ⊥) (met : 0 < back) where
    back_other : back ≡ d → ⊥
    back_other e = other (rw e at (back_forth M a.bounds.dim_least d back refl met))

    two : visit (d ∷ []) back ≡ (d ∷ []) ++ (back ∷ [])
    two = visit_new (d ∷ []) back met (alone_none d back back_other)

    back_label : label_in ((d ∷ []) ++ (back ∷ [])) back ≡ 2
    back_label = label_in_snoc_new (d ∷ []) back (alone_none d back back_other)

    -- β1(d) may be the same dart
    label_of_back : back ≡ next → label_in (visit (visit (d ∷ []) back) next) next ≡ 2
    label_of_back e =
        let has : label_in ((d ∷ []) ++ (back ∷ [])) next ≡ 2 = ap (label_in ((d ∷ []) ++ (back ∷ []))) (sym e) ∙ back_label in
        ap (λ (q : List ℕ). label_in (visit q next) next) two
        ∙ ap (λ (q : List ℕ). label_in q next) (visit_old ((d ∷ []) ++ (back ∷ [])) next (omega (arith, has)))
        ∙ has

    third_label : (back ≡ next → ⊥) → label_in (visit (visit (d ∷ []) back) next) next ≡ 3
    third_label apart =
        let q = (d ∷ []) ++ (back ∷ []) in
        let none : label_in q next ≡ 0 = label_in_snoc_other (d ∷ []) next back (λ z. apart (sym z)) ∙ alone_none d next other in
        ap (λ (q : List ℕ). label_in (visit q next) next) two
        ∙ ap (λ (q : List ℕ). label_in q next) (visit_new q next (omega (arith, some)) none)
        ∙ label_in_snoc_new q next none

  -- the label of β1(d)
  next_label : label_in (labelling M d) next ≡ first_label d back next
  unfolding first_label
  next_label = at (tested (eqb next 0)) (tested (eqb next d)) (tested (eqb back 0)) (tested (eqb back next))
    where
      early : {k : ℕ} → label_in (visit (visit (d ∷ []) back) next) next ≡ suc k → label_in (labelling M d) next ≡ suc k
      early is = grown_label met_first next (omega (arith, is)) ∙ is

      at : Tested (eqb next 0) → Tested (eqb next d) → Tested (eqb back 0) → Tested (eqb back next) → label_in (labelling M d) next ≡ first_label d back next
      at (passes e) _ _ _ =
          ap (label_in (labelling M d)) (eqb-true next 0 e) ∙ queue_zero (labelling_queue M a.open_map.to_darts d dart) ∙ sym (simp e)
      at (fails e) (passes f) _ _ = ap (label_in (labelling M d)) (eqb-true next d f) ∙ labelling_start M d ∙ sym (simp (e, f))
      at (fails e) (fails f) (passes g) _ =
          early (second_label (eqb-false next 0 e) (eqb-false next d f) (visit_nothing (d ∷ []) back (eqb-true back 0 g))) ∙ sym (simp (e, f, g))
      at (fails e) (fails f) (fails g) (passes h) =
          early (label_of_back (eqb-false next 0 e) (eqb-false next d f) (omega (arith, eqb-false back 0 g)) (eqb-true back next h)) ∙ sym (simp (e, f, g, h))
      at (fails e) (fails f) (fails g) (fails h) =
          early (third_label (eqb-false next 0 e) (eqb-false next d f) (omega (arith, eqb-false back 0 g)) (eqb-false back next h)) ∙ sym (simp (e, f, g, h))

  -- the numbers of the first row
  row_number : (i : ℕ) → 1 ≤ i → i ≤ M.dim → nth (word M d) i ≡ label_in (labelling M d) (sew M i d)
  unfolding place_of
  row_number i low high =
      let here : place_of M.dim 1 i ≡ i = omega (arith, zero-mul M.dim) in
      ap (nth (word M d)) (sym here)
      ∙ nth_word a d dart 1 i (omega arith) a.bounds.darts_least low high
      ∙ ap (λ (e : ℕ). label_in (labelling M d) (sew M i e)) (labelling_first M d)

  pub first_number : get_or (word M d) 0 0 ≡ first_label d (sew M 0 d) (sew M 1 d)
  first_number = sym (nth-suc (word M d) 0) ∙ row_number 1 (omega arith) a.bounds.dim_least ∙ next_label

  second_number : 2 ≤ M.dim → get_or (word M d) 1 0 ≡ label_in (labelling M d) (sew M 2 d)
  second_number more = sym (nth-suc (word M d) 1) ∙ row_number 2 (omega arith) more

  -- the second is 0 where d is not 2-sewn
  second_none : 2 ≤ M.dim → sew M 2 d ≡ 0 → get_or (word M d) 1 0 ≡ 0
  second_none more is = second_number more ∙ ap (label_in (labelling M d)) is ∙ queue_zero (labelling_queue M a.open_map.to_darts d dart)

  second_some : 2 ≤ M.dim → 0 < sew M 2 d → 0 < get_or (word M d) 1 0
  second_some more pos =
      omega (arith, second_number more, (labelling_numbers a d dart).label_low (sew M 2 d) (pos, a.open_map.to_darts 2 d))

-- d is 2-sewn or not, as its rank has it
data Sewn2 (M : Map) (d : ℕ) : Type 0 where
  free : sew M 2 d ≡ 0 → cond {A = ℕ} (eqb (sew M 2 d) 0) 0 1 ≡ 0 → Sewn2 M d
  sewn : 0 < sew M 2 d → cond {A = ℕ} (eqb (sew M 2 d) 0) 0 1 ≡ 1 → Sewn2 M d

sewn2 : (M : Map) (d : ℕ) → Sewn2 M d
sewn2 M d = at (tested (eqb (sew M 2 d) 0))
  where
    at : Tested (eqb (sew M 2 d) 0) → Sewn2 M d
    at (passes e) = free (eqb-true (sew M 2 d) 0 e) (simp e)
    at (fails e) = sewn (omega (arith, eqb-false (sew M 2 d) 0 e)) (simp e)

-- the rank of what is read: the first label, and whether d is 2-sewn
pub rank_read : (M : Map) (d first : ℕ) (b : Bool) → first ≡ first_label d (sew M 0 d) (sew M 1 d) → b ≡ not (eqb (sew M 2 d) 0) → 2 * first + bool_byte b ≡ rank_of M d
unfolding rank_of
rank_read M d first b is told = rw (is, told) (ap (λ (x : ℕ). 2 * first_label d (sew M 0 d) (sew M 1 d) + x) (at (tested (eqb (sew M 2 d) 0))))
  where
    at : Tested (eqb (sew M 2 d) 0) → bool_byte (not (eqb (sew M 2 d) 0)) ≡ cond (eqb (sew M 2 d) 0) 0 1
    at (passes e) = simp e
    at (fails e) = simp e

-- a word of sewings up to β2 and more has two numbers
two_numbers : {M : Map} → Accepted M → 2 ≤ M.dim → 2 ≤ M.dim * M.darts
two_numbers {M} a more = omega (arith, a.bounds.darts_least, mul-le-mul_right M.darts more)

-- lists that have one first number
take_one : (v w : List ℕ) → 0 < length v → 0 < length w → get_or v 0 0 ≡ get_or w 0 0 → take 1 v ≡ take 1 w
take_one v w here there same = take-suc v 0 0 here ∙ ap (λ (x : ℕ). take 0 v ++ (x ∷ [])) same ∙ sym (take-suc w 0 0 there)

module _ {M : Map} (a : Accepted M) (d e : ℕ) (d-dart : IsDart M d) (e-dart : IsDart M e) where
  -- a start of a lesser rank has a lesser word
  pub rank_less : rank_of M d < rank_of M e → less (word M d) (word M e) ≡ true
  unfolding rank_of
  rank_less lower = at (tested (ltb f_d f_e)) (sewn2 M d) (sewn2 M e)
    where
      f_d : ℕ
      f_d = first_label d (sew M 0 d) (sew M 1 d)

      f_e : ℕ
      f_e = first_label e (sew M 0 e) (sew M 1 e)

      size : 1 ≤ M.dim * M.darts
      size = some_numbers a

      at : Tested (ltb f_d f_e) → Sewn2 M d → Sewn2 M e → less (word M d) (word M e) ≡ true
      at (passes h) _ _ =
          less_at (word M d) (word M e) 0 (omega (arith, size, length_word a d d-dart)) (omega (arith, size, length_word a e e-dart)) refl
          (omega (arith, first_number a d d-dart, first_number a e e-dart, ltb-true f_d f_e h))
      at (fails h) (free n z) (free p y) = absurd (omega (arith, z, y, ltb-false f_d f_e h))
      at (fails h) (sewn n z) (free p y) = absurd (omega (arith, z, y, ltb-false f_d f_e h))
      at (fails h) (sewn n z) (sewn p y) = absurd (omega (arith, z, y, ltb-false f_d f_e h))
      at (fails h) (free n z) (sewn p y) =
          let more : 2 ≤ M.dim = sewn_low M 2 e p in
          let firsts : get_or (word M d) 0 0 ≡ get_or (word M e) 0 0 = omega (arith, z, y, ltb-false f_d f_e h, first_number a d d-dart, first_number a e e-dart) in
          let wide = two_numbers a more in
          less_at (word M d) (word M e) 1 (omega (arith, wide, length_word a d d-dart)) (omega (arith, wide, length_word a e e-dart))
          (take_one (word M d) (word M e) (omega (arith, size, length_word a d d-dart)) (omega (arith, size, length_word a e e-dart)) firsts)
          (omega (arith, second_none a d d-dart more n, second_some a e e-dart more p))

module _ {M : Map} (a : Accepted M) where
  -- starts of one word have one rank
  same_rank : (d e : ℕ) → IsDart M d → IsDart M e → word M d ≡ word M e → rank_of M d ≡ rank_of M e
  same_rank d e d-dart e-dart same = at (tested (ltb (rank_of M d) (rank_of M e))) (tested (ltb (rank_of M e) (rank_of M d)))
    where
      at : Tested (ltb (rank_of M d) (rank_of M e)) → Tested (ltb (rank_of M e) (rank_of M d)) → rank_of M d ≡ rank_of M e
      at (passes h) _ = absurd (true_not_false (rank_less a d e d-dart e-dart (ltb-true _ _ h)) (rw same (less_irreflexive (word M e))))
      at (fails h) (passes k) = absurd (true_not_false (rank_less a e d e-dart d-dart (ltb-true _ _ k)) (rw same (less_irreflexive (word M e))))
      at (fails h) (fails k) = omega (arith, ltb-false (rank_of M d) (rank_of M e) h, ltb-false (rank_of M e) (rank_of M d) k)

  -- the starts of the least rank may be kept alone
  pub rank_filter : (r : ℕ) → LeastRank M r → Filter M (λ d. eqb (rank_of M d) r)
  rank_filter r l =
      record {
        by_word = λ d e d-dart e-dart same. ap (λ (k : ℕ). eqb k r) (same_rank d e d-dart e-dart same);
        lesser_kept = λ d dart not-kept.
            let above : r < rank_of M d = omega (arith, l.none_less d dart, eqb-false (rank_of M d) r not-kept) in
            (l.start, l.dart, eq-eqb (rank_of M l.start) r l.reached, rank_less a l.start d l.dart dart (rw l.reached above));
      }

-- of the starts below d, r is the least rank
pub record Ranking (M : Map) (r d : ℕ) : Type 0 where
  pub start : ℕ
  pub dart : IsDart M start
  pub reached : rank_of M start ≡ r
  pub none_less : (e : ℕ) → 1 ≤ e → e < d → r ≤ rank_of M e

pub ranking_start : {M : Map} {r : ℕ} → 1 ≤ M.darts → r ≡ rank_of M 1 → Ranking M r 2
ranking_start {M} some is =
    record {
      start = 1;
      dart = (omega arith, some);
      reached = sym is;
      none_less = λ e low high. let same : e ≡ 1 = omega arith in rw (same, is) (omega arith);
    }

-- one start more, whose rank is x
pub ranking_turn : {M : Map} {r x d : ℕ} → Ranking M r d → IsDart M d → x ≡ rank_of M d → Ranking M (min r x) (d + 1)
ranking_turn {M} {r} {x} {d} k dart is = at (tested (ltb x r))
  where
    below : {y : ℕ} → y ≤ r → y ≤ x → (e : ℕ) → 1 ≤ e → e < d + 1 → y ≤ rank_of M e
    below of-r of-x e low high =
        ⊎_elim (λ same. omega (arith, ap (rank_of M) same)) (λ before. omega (arith, k.none_less e low before)) (eq-or-lt_of_le (let h : e ≤ d = omega arith in h))

    at : Tested (ltb x r) → Ranking M (min r x) (d + 1)
    at (passes h) =
        let less = ltb-true x r h in
        record { start = d; dart = dart; reached = omega arith; none_less = below (omega arith) (omega arith) }
    at (fails h) =
        let more = ltb-false x r h in
        record { start = k.start; dart = k.dart; reached = omega (arith, k.reached); none_less = below (omega arith) (omega arith) }

pub ranking_done : {M : Map} {r d : ℕ} → Ranking M r d → M.darts < d → LeastRank M r
ranking_done k past =
    record { start = k.start; dart = k.dart; reached = k.reached; none_less = λ e dart. k.none_less e dart.0 (omega arith) }

module _ (M : Map) (up : List ℕ) (r d : ℕ) where
  -- a start that is passed over has a dart over it, or is of a greater rank
  pub passed_by : passes_over M up r d ≡ true → (0 < nth up d) ⊎ (r < rank_of M d)
  unfolding passes_over
  passed_by is = at (tested (ltb 0 (nth up d)))
    where
      at : Tested (ltb 0 (nth up d)) → (0 < nth up d) ⊎ (r < rank_of M d)
      at (passes e) = inl (ltb-true 0 (nth up d) e)
      at (fails e) = let rest : ltb r (rank_of M d) ≡ true = rw e at is in inr (ltb-true r (rank_of M d) rest)

  pub not_passed : passes_over M up r d ≡ false → (nth up d ≡ 0) × (rank_of M d ≤ r)
  unfolding passes_over
  not_passed is = at (tested (ltb 0 (nth up d)))
    where
      at : Tested (ltb 0 (nth up d)) → (nth up d ≡ 0) × (rank_of M d ≤ r)
      at (passes e) = absurd (let no : true ≡ false = rw e at is in true_not_false refl no)
      at (fails e) =
          let rest : ltb r (rank_of M d) ≡ false = rw e at is in
          (omega (arith, ltb-false 0 (nth up d) e), omega (arith, ltb-false r (rank_of M d) rest))
