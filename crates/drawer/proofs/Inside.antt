-- The laws behind the functions inside: numbers read from bytes, a word read number by number, a header, two records compared.
--     all_zero_past, all_zero_here     a list of zeros, from an index on
--     word_turn                        one number more of a word under way
--     header_reads                     a record's reading is what its header leaves of it: the table, or the header's fault
--     table_fault, record_fault        so a fault of the header goes straight back
--     to_the_end                       a record's filling, as the code takes it
--     header_dimension, .. header_whole  a header, by the tests that led to it
--     header_known                     what a header with its fields says of its record: `Known`
--     same_bytes                       numbers are the same where their bytes are
--     table_is                         the table of a record, as its bytes say
--     table_passed, table_refused      the check's answer decides the reading of a table
--     record_signed, record_other, record_refused
--                                      and the answer on the word that of a record
--     layout_parted, layout_by_word    two layouts, by n and m and by their words
-- Assumes nothing.
use Prim.Native.Nat.{ℕ, zero, suc, ◌+◌, ◌-◌, ◌*◌, ◌≤◌, ◌<◌}
use mathlib.Core.Path.{◌≡◌, refl, sym, ap, ap₂, ◌∙◌}
use mathlib.Core.Bool.{Bool, true, false, cond, ◌&&◌, and_assoc, and-false}
use mathlib.Core.List.{List, [], ◌∷◌, ◌++◌}
use native.Mathlib.Omega.{arith}
use native.Mathlib.Nat.{add-zero}
use native.Mathlib.Numerals.{add-one}
use borrow.Author.Tests.{eq-eqb, ne_eqb}
use lib.Dec.{eqb, leb}
use lib.Pointwise.{pointwise}
use lib.Seq.{drop-cons, drop-drop, set_at, take_all, append_snoc}
use lib.ListN.{length, get_or, set, take, drop, drop_of_length-le, length-drop}
use Rattle.std.specs.Prelude.{Result, Ok, Err, min, ◌⊎◌}
use Rattle.std.proofs.Common.{inl, inr}
use Rattle.std.proofs.lemmas.Bool.Decides.{nat_tests}
use Rattle.std.proofs.lemmas.List.{get_or-drop, take_min}
use Rattle.maps.specs.Accepted.{InBounds}
use Rattle.maps.specs.Given.{Given, lent, map_of}
use Rattle.maps.specs.Verdict.{Verdict, accepted, accepts}
use Rattle.maps.specs.Rules.{judge_dimension, judge_size}
use Rattle.maps.specs.Shown.{shown_refusal, verdict_of}
use Rattle.maps.specs.declared.Refusal.{Refusal}
use Rattle.maps.proofs.Answer.{ok_accepts, refusal_refuses}
use Rattle.maps.proofs.Verdict.{unless-accepts}
use Rattle.labels.specs.Judging.{judge_map, check_answer}
use Rattle.labels.proofs.Judging.{shaped_map}
use Rattle.words.specs.Words.{same, signature}
use Rattle.words.specs.Own.{OwnAnswer, shown_own, own_answer}
use Rattle.words.proofs.Order.{equal_same}
use Rattle.drawer.specs.Record.{Reading, Fault, bad, good, no_map, other_word, from_bytes, numbers, filed_in, zero_byte_in, filling_in, all_zero, same_layout, provided, read_table, as_signed, read_record}
use Rattle.drawer.specs.Answers.{fault_of, reading_of}
use Rattle.drawer.specs.Inside.{header_of}
use Rattle.drawer.specs.declared.fields.Layout.{Layout}
use Rattle.drawer.specs.declared.fields.RecordFault.{RecordFault}
use Rattle.drawer.specs.declared.fields.RecordFault.TheVariants.{Dimension, Size, NoDie, ZeroByte, Filling, NoMap, OtherWord}
use Rattle.drawer.proofs.Readings.{accept_bounds, length_numbers, length_table}

-- a list of zeros, from an index on: past the end, and one byte more
pub all_zero_past : (bs : List ℕ) (i : ℕ) → length bs ≤ i → all_zero (drop i bs) ≡ true
unfolding all_zero
all_zero_past bs i h = rw (drop_of_length-le bs h)

pub all_zero_here : (bs : List ℕ) (i : ℕ) → i < length bs → all_zero (drop i bs) ≡ (eqb (get_or bs i 0) 0 && all_zero (drop (i + 1) bs))
unfolding all_zero
all_zero_here bs i inside = rw (add-one i, drop-cons bs i 0 inside) refl

numbers_suc : (k : ℕ) (bs : List ℕ) → numbers (suc k) bs ≡ numbers k bs ++ (from_bytes (take 2 (drop (2 * k) bs)) ∷ [])
unfolding numbers
numbers_suc zero bs = refl
numbers_suc (suc k) bs =
    let two : 2 * suc k ≡ 2 + 2 * k = omega arith in
    ap (λ (l : List ℕ). from_bytes (take 2 bs) ∷ l)
    (numbers_suc k (drop 2 bs) ∙ rw (two, drop-drop (2 * k) 2 bs))

-- a word under way: one number more is copied, and what stands behind is as it was
pub word_turn : (bs before word : List ℕ) (i x : ℕ) → word ≡ numbers i (drop 8 bs) ++ drop i before → i < length before →
    x ≡ from_bytes (take 2 (drop (8 + 2 * i) bs)) → set word i x ≡ numbers (i + 1) (drop 8 bs) ++ drop (i + 1) before
word_turn bs before word i x so_far inside is =
    rw (so_far, drop-cons before i 0 inside)
    (set_at (numbers i (drop 8 bs)) (get_or before i 0) (drop (suc i) before) x i (length_numbers i (drop 8 bs))
    ∙ sym (rw (add-one i, numbers_suc i (drop 8 bs), drop-drop (2 * i) 8 bs, ← is) (append_snoc (numbers i (drop 8 bs)) x (drop (suc i) before))))

module _ (r : List ℕ) where
  -- what is left to be read where the header has its fields: the table
  abbrev pub table_read : Reading
  table_read = let v = judge_map (map_of (filed_in r).layout) in provided (accepts v) (no_map v) (good (filed_in r))

  -- what a header leaves of the reading
  abbrev left : Result Layout RecordFault → Reading
  left (Ok l) = table_read
  left (Err f) = bad (fault_of f)

  provided_header : (b : Bool) (f : Fault) (rest : Reading) (h : Result Layout RecordFault) (wrong : RecordFault) → rest ≡ left h → f ≡ fault_of wrong →
      provided b f rest ≡ left (cond b h (Err wrong))
  unfolding provided
  provided_header true f rest h wrong on off = on
  provided_header false f rest h wrong on off = ap bad off

  pub header_reads : read_table r ≡ left (header_of r)
  unfolding read_table header_of fault_of
  header_reads =
      provided_header _ _ _ _ _
      (provided_header _ _ _ _ _
      (provided_header _ _ _ _ _
      (provided_header _ _ _ _ _
      (provided_header _ _ _ _ _ refl refl)
      refl)
      refl)
      refl)
      refl

  -- a fault of the header is the reading, and is not changed by the judging of the word, which it comes before
  pub table_fault : (h : Result Layout RecordFault) → h ≡ header_of r → ((l : Layout) → h ≡ Ok l → ⊥) → reading_of h r ≡ read_table r
  unfolding reading_of
  table_fault (Ok l) is other = absurd (other l refl)
  table_fault (Err f) is other = sym (header_reads ∙ ap left (sym is))

  pub record_fault : (h : Result Layout RecordFault) → h ≡ header_of r → ((l : Layout) → h ≡ Ok l → ⊥) → reading_of h r ≡ read_record r
  unfolding reading_of read_record as_signed
  record_fault (Ok l) is other = absurd (other l refl)
  record_fault (Err f) is other = sym (ap as_signed (header_reads ∙ ap left (sym is)))

  pub layout_reads : (l : Layout) → Ok l ≡ header_of r → read_table r ≡ table_read
  layout_reads l is = header_reads ∙ ap left (sym is)

-- a record's filling, as the code takes it
pub to_the_end : (r : List ℕ) (k : ℕ) (z : Bool) → length r ≡ 2048 → z ≡ all_zero (take (2048 - k) (drop k r)) → z ≡ all_zero (drop k r)
to_the_end r k z long is = is ∙ ap all_zero (take_all (2048 - k) (drop k r) (omega (arith, length-drop k r)))

-- the header, by the tests that `src/` makes of its fields
header_by : (r : List ℕ) (die n m : ℕ) → die ≡ (filed_in r).die → n ≡ (filed_in r).layout.n → m ≡ (filed_in r).layout.m →
    header_of r
    ≡ cond (leb 1 n && leb n 4)
    (cond (leb 1 m && leb (n * m) 1020)
    (cond (leb 1 die)
    (cond (eqb (zero_byte_in r) 0)
    (cond (all_zero (drop (8 + 2 * (n * m)) r))
    (Ok (record { die = die; n = n; m = m }))
    (Err Filling))
    (Err ZeroByte))
    (Err NoDie))
    (Err Size))
    (Err Dimension)
unfolding header_of judge_dimension judge_size filling_in
header_by r die n m is_die is_n is_m =
    let l = (filed_in r).layout in
    rw (is_die, is_n, is_m)
    (simp (unless-accepts (leb 1 l.n && leb l.n 4) 1 0 (omega arith), unless-accepts (leb 1 l.m && leb (l.n * l.m) 1020) 2 0 (omega arith)))

-- the same, test by test
module _ (r : List ℕ) (n : ℕ) (is_n : n ≡ (filed_in r).layout.n) where
  pub header_dimension : n ≡ 0 ⊎ 4 < n → Err Dimension ≡ header_of r
  header_dimension (inl e) = let h = header_by r _ n _ refl is_n refl in grind (arith, nat_tests)
  header_dimension (inr e) = let h = header_by r _ n _ refl is_n refl in grind (arith, nat_tests)

  module _ (some_n : ¬ (n ≡ 0)) (few_n : n ≤ 4) (m : ℕ) (is_m : m ≡ (filed_in r).layout.m) where
    pub header_size : m ≡ 0 ⊎ 1020 < n * m → Err Size ≡ header_of r
    header_size (inl e) = let h = header_by r _ n m refl is_n is_m in grind (arith, nat_tests)
    header_size (inr e) = let h = header_by r _ n m refl is_n is_m in grind (arith, nat_tests)

    module _ (some_m : ¬ (m ≡ 0)) (small : n * m ≤ 1020) (die : ℕ) (is_die : die ≡ (filed_in r).die) where
      pub header_die : die ≡ 0 → Err NoDie ≡ header_of r
      header_die e = let h = header_by r die n m is_die is_n is_m in grind (arith, nat_tests)

      module _ (some_die : ¬ (die ≡ 0)) (byte : ℕ) (is_byte : byte ≡ zero_byte_in r) where
        pub header_byte : ¬ (byte ≡ 0) → Err ZeroByte ≡ header_of r
        header_byte e = let h = header_by r die n m is_die is_n is_m in grind (arith, nat_tests)

        module _ (zero_byte : byte ≡ 0) (z : Bool) (is_z : z ≡ all_zero (drop (8 + 2 * (n * m)) r)) where
          pub header_filling : z ≡ false → Err Filling ≡ header_of r
          header_filling e = let h = header_by r die n m is_die is_n is_m in grind (arith, nat_tests)

          pub header_whole : z ≡ true → Ok (record { die = die; n = n; m = m }) ≡ header_of r
          header_whole e = let h = header_by r die n m is_die is_n is_m in grind (arith, nat_tests)

-- what a header with its fields says of its record
pub record Known (r : List ℕ) (l : Layout) : Type 0 where
  pub is_die : l.die ≡ (filed_in r).die
  pub is_n : l.n ≡ (filed_in r).layout.n
  pub is_m : l.m ≡ (filed_in r).layout.m
  pub bounds : InBounds l.n l.m

-- a header that has its fields has passed each test
passed_on : (b : Bool) (h : Result Layout RecordFault) (wrong : RecordFault) (l : Layout) → cond b h (Err wrong) ≡ Ok l → (b ≡ true) × (h ≡ Ok l)
passed_on true h wrong l e = (refl, e)
passed_on false h wrong l e = cc

pub header_known : (r : List ℕ) (l : Layout) → Ok l ≡ header_of r → Known r l
unfolding header_of
header_known r l is =
    let g : Given = (filed_in r).layout in
    let dim = passed_on (accepts (judge_dimension g)) _ Dimension l (sym is) in
    let size = passed_on (accepts (judge_size g)) _ Size l dim.1 in
    let some_die = passed_on (leb 1 (filed_in r).die) _ NoDie l size.1 in
    let byte = passed_on (eqb (zero_byte_in r) 0) _ ZeroByte l some_die.1 in
    let whole = (passed_on (all_zero (filling_in r)) _ Filling l byte.1).1 in
    let fields : record { die = (filed_in r).die; n = g.n; m = g.m } ≡ l = cc in
    let is_n : g.n ≡ l.n = ap (λ (k : Layout). k.n) fields in
    let is_m : g.m ≡ l.m = ap (λ (k : Layout). k.m) fields in
    record {
      is_die = sym (ap (λ (k : Layout). k.die) fields);
      is_n = sym is_n;
      is_m = sym is_m;
      bounds = rw (is_n, is_m) at (accept_bounds g dim.0 size.0);
    }

-- two bytes say one number each
two_bytes : (a b c d : ℕ) → a < 256 → c < 256 → eqb (a + 256 * (b + 256 * 0)) (c + 256 * (d + 256 * 0)) ≡ (eqb a c && eqb b d)
two_bytes a b c d low_a low_c = grind (arith, nat_tests)

-- numbers are the same where their bytes are, also past the end
pub same_bytes : (k : ℕ) (r s : List ℕ) → length r ≡ length s → ((i : ℕ) → get_or r i 0 < 256) → ((i : ℕ) → get_or s i 0 < 256) →
    same (numbers k r) (numbers k s) ≡ pointwise eqb (take (2 * k) r) (take (2 * k) s)
unfolding same numbers from_bytes
same_bytes zero r s long below_r below_s = refl
same_bytes (suc k) [] [] long below_r below_s =
    let two : 2 * suc k ≡ suc (suc (2 * k)) = omega arith in
    rw two (equal_same (numbers (suc k) []) (numbers (suc k) []) refl)
same_bytes (suc k) [] (c ∷ s) long below_r below_s = absurd (omega arith)
same_bytes (suc k) (a ∷ r) [] long below_r below_s = absurd (omega arith)
same_bytes (suc k) (a ∷ []) (c ∷ []) long below_r below_s =
    let two : 2 * suc k ≡ suc (suc (2 * k)) = omega arith in
    rw two (ap₂ (λ (x y : Bool). x && y) (λ i. eqb (add-zero a i) (add-zero c i)) (equal_same (numbers k []) (numbers k []) refl))
same_bytes (suc k) (a ∷ []) (c ∷ d ∷ s) long below_r below_s = absurd (omega arith)
same_bytes (suc k) (a ∷ b ∷ r) (c ∷ []) long below_r below_s = absurd (omega arith)
same_bytes (suc k) (a ∷ b ∷ r) (c ∷ d ∷ s) long below_r below_s =
    let two : 2 * suc k ≡ suc (suc (2 * k)) = omega arith in
    rw two
    (ap₂ (λ (x y : Bool). x && y) (two_bytes a b c d (below_r 0) (below_s 0))
    (same_bytes k r s (omega arith) (λ i. below_r (suc (suc i))) (λ i. below_s (suc (suc i))))
    ∙ and_assoc (eqb a c) (eqb b d) (pointwise eqb (take (2 * k) r) (take (2 * k) s)))

-- the table that stands in a record
pub table_is : (t : List ℕ) (k : ℕ) → k ≡ (filed_in t).layout.n * (filed_in t).layout.m → (filed_in t).layout.table ≡ numbers k (drop 8 t)
unfolding filed_in
table_is t k e = sym (ap (λ (j : ℕ). numbers j (drop 8 t)) e)

accepted_accepts : accepts accepted ≡ true
unfolding accepts accepted
accepted_accepts = refl

-- the answer on a word, by the check's test a and the test s of the word
own_by : (v : Verdict) (a s : Bool) → OwnAnswer
own_by v a s = cond a (record { verdict = v; own = s }) (record { verdict = v; own = false })

own_verdict : (v : Verdict) (a s : Bool) → (own_by v a s).verdict ≡ v
unfolding own_by
own_verdict v true s = refl
own_verdict v false s = refl

-- a header that has its fields, and the table that was lent: v is the map's verdict
module _ (r : List ℕ) (h : Result Layout RecordFault) (is_h : h ≡ header_of r) (l : Layout) (is : h ≡ Ok l) (taken : Given) (holds : taken ≡ lent l.n l.m (numbers (l.n * l.m) (drop 8 r))) where
  abbrev layout : Given
  layout = (filed_in r).layout

  abbrev v : Verdict
  v = judge_map (map_of layout)

  says : Known r l
  says = header_known r l (sym is ∙ is_h)

  -- the map that was lent is that of the record
  taken_is : taken ≡ layout
  unfolding filed_in
  taken_is = holds ∙ λ i. lent (says.is_n i) (says.is_m i) (numbers (says.is_n i * says.is_m i) (drop 8 r))

  check_is : check_answer taken ≡ v
  check_is = ap check_answer taken_is ∙ shaped_map layout (record { bounds = rw (says.is_n, says.is_m) at says.bounds; long = length_table r })

  good_reads : reading_of (Ok l) r ≡ good (filed_in r)
  unfolding reading_of filed_in
  good_reads = λ i. good (record { die = says.is_die i; layout = lent (says.is_n i) (says.is_m i) (numbers (says.is_n i * says.is_m i) (drop 8 r)) })

  -- the reading of the table, and of the record, by the map's verdict and by the test of the word
  table_by : (a : Bool) → accepts v ≡ a → read_table r ≡ provided a (no_map v) (good (filed_in r))
  table_by a e = layout_reads r l (sym is ∙ is_h) ∙ ap (λ (t : Bool). provided t (no_map v) (good (filed_in r))) e

  record_by : (a s : Bool) → accepts v ≡ a → same layout.table (signature (map_of layout)) ≡ s →
      read_record r ≡ provided a (no_map v) (provided s other_word (good (filed_in r)))
  unfolding read_record as_signed provided
  record_by true s e f = ap as_signed (table_by true e) ∙ ap (λ (t : Bool). provided t other_word (good (filed_in r))) f
  record_by false s e f = ap as_signed (table_by false e)

  -- the check's answer decides the reading of a table
  module _ (j : Result Unit Refusal) (told : verdict_of j ≡ check_answer taken) where
    pub table_passed : (u : Unit) → j ≡ Ok u → reading_of (Ok l) r ≡ read_table r
    unfolding provided
    table_passed u e = good_reads ∙ sym (table_by true (ap accepts (sym check_is) ∙ ok_accepts u (ap verdict_of (sym e) ∙ told)))

    pub table_refused : (e : Refusal) → j ≡ Err e → reading_of (Err (NoMap e)) r ≡ read_table r
    unfolding provided reading_of fault_of
    table_refused e is_e =
        let v-is : v ≡ shown_refusal e = sym check_is ∙ sym told ∙ ap verdict_of is_e in
        sym (table_by false (ap accepts v-is ∙ refusal_refuses e) ∙ ap (λ (w : Verdict). bad (no_map w)) v-is)

  -- the answer on the word that of a record
  module _ (o : Result Bool Refusal) (told : shown_own o ≡ own_answer taken) where
    own_is : shown_own o ≡ own_by v (accepts v) (same layout.table (signature (map_of layout)))
    unfolding own_answer own_by
    own_is =
        told
        ∙ λ i. cond (accepts (check_is i)) (record { verdict = check_is i; own = same (taken_is i).table (signature (map_of (taken_is i))) }) (record { verdict = check_is i; own = false })

    -- of a map that is accepted
    own_told : (s : Bool) → o ≡ Ok s → (accepts v ≡ true) × (same layout.table (signature (map_of layout)) ≡ s)
    unfolding own_by
    own_told s e =
        let shown : record { verdict = accepted; own = s } ≡ own_by v (accepts v) (same layout.table (signature (map_of layout))) = ap shown_own (sym e) ∙ own_is in
        let v-is : v ≡ accepted = sym (own_verdict v (accepts v) _) ∙ ap (λ (a : OwnAnswer). a.verdict) (sym shown) in
        let takes : accepts v ≡ true = ap accepts v-is ∙ accepted_accepts in
        (takes, sym (ap (λ (a : OwnAnswer). a.own) shown ∙ ap (λ (t : Bool). (own_by v t (same layout.table (signature (map_of layout)))).own) takes))

    pub record_signed : o ≡ Ok true → reading_of (Ok l) r ≡ read_record r
    unfolding provided
    record_signed e = let t = own_told true e in good_reads ∙ sym (record_by true true t.0 t.1)

    pub record_other : o ≡ Ok false → reading_of (Err OtherWord) r ≡ read_record r
    unfolding provided reading_of fault_of
    record_other e = let t = own_told false e in sym (record_by true false t.0 t.1)

    pub record_refused : (e : Refusal) → o ≡ Err e → reading_of (Err (NoMap e)) r ≡ read_record r
    unfolding provided reading_of fault_of
    record_refused e is_e =
        let v-is : v ≡ shown_refusal e = sym (own_verdict v (accepts v) _) ∙ ap (λ (a : OwnAnswer). a.verdict) (sym own_is ∙ ap shown_own is_e) in
        sym (record_by false _ (ap accepts v-is ∙ refusal_refuses e) refl ∙ ap (λ (w : Verdict). bad (no_map w)) v-is)

-- two layouts, by what is read of them
pub layout_parted : (r s : List ℕ) → ¬ ((filed_in r).layout.m ≡ (filed_in s).layout.m) ⊎ ¬ ((filed_in r).layout.n ≡ (filed_in s).layout.n) →
    false ≡ same_layout (filed_in r).layout (filed_in s).layout
unfolding same_layout
layout_parted r s (inl e) = sym (simp (ne_eqb (filed_in r).layout.m (filed_in s).layout.m e, and-false))
layout_parted r s (inr e) = sym (simp (ne_eqb (filed_in r).layout.n (filed_in s).layout.n e))

-- no word goes past a record's end
pub layout_by_word : (r s : List ℕ) (n m end : ℕ) (alike : Bool) → length r ≡ 2048 → length s ≡ 2048 → ((i : ℕ) → get_or r i 0 < 256) → ((i : ℕ) → get_or s i 0 < 256) →
    (filed_in r).layout.n ≡ n → (filed_in r).layout.m ≡ m → n ≡ (filed_in s).layout.n → m ≡ (filed_in s).layout.m → end ≡ min (8 + 2 * (n * m)) 2048 →
    alike ≡ pointwise eqb (take (end - 8) (drop 8 r)) (take (end - 8) (drop 8 s)) → alike ≡ same_layout (filed_in r).layout (filed_in s).layout
unfolding same_layout
layout_by_word r s n m end alike long_r long_s below_r below_s n_r m_r n_s m_s is told =
    let words = same_bytes (n * m) (drop 8 r) (drop 8 s) (simp length-drop (omega arith)) (λ i. rw get_or-drop (below_r (8 + i))) (λ i. rw get_or-drop (below_s (8 + i))) in
    told
    ∙ sym
    (simp (eq-eqb (filed_in r).layout.n (filed_in s).layout.n (n_r ∙ n_s), eq-eqb (filed_in r).layout.m (filed_in s).layout.m (m_r ∙ m_s))
    (ap₂ same (table_is r (n * m) (sym (ap₂ (λ (a b : ℕ). a * b) n_r m_r))) (table_is s (n * m) (ap₂ (λ (a b : ℕ). a * b) n_s m_s))
    ∙ words
    ∙ ap₂ (pointwise eqb) (cut r long_r) (cut s long_s)))
  where
    cut : (t : List ℕ) → length t ≡ 2048 → take (2 * (n * m)) (drop 8 t) ≡ take (end - 8) (drop 8 t)
    cut t long =
        let here : min (2 * (n * m)) (length (drop 8 t)) ≡ end - 8 = grind (arith, length-drop {A = ℕ}) in
        sym (take_min (2 * (n * m)) (drop 8 t)) ∙ ap (λ (k : ℕ). take k (drop 8 t)) here
