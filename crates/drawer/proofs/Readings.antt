-- What reading a record finds (`specs/Record.antt`): a filed layout exactly where the record is sound.
--     Sound                        what document 01 asks of one record's bytes
--     sound_good, good_sound       the reading is the filed layout exactly where they are so
--     table_good                   a record that reads as a filed layout holds an accepted map
--     filing_fits                  a record has room for a signature, with a die of 4 bytes
--     signed_sound                 and its bytes are sound
--     same_layout_equal, equal_same_layout
--                                  the test of two layouts is their equality
-- Assumes nothing.
use Prim.Native.Nat.{ℕ, zero, suc, ◌*◌, ◌≤◌, ◌<◌}
use mathlib.Core.Path.{◌≡◌, refl, sym, ap}
use mathlib.Core.Bool.{Bool, true, false, ◌&&◌}
use mathlib.Core.List.{List, [], ◌∷◌, map, flat_map}
use native.Mathlib.Omega.{arith}
use native.Mathlib.Nat.{mul-le-mul_right}
use borrow.Author.Tests.{le-leb, leb-true, eq-eqb, eqb-true}
use lib.Dec.{eqb, leb}
use lib.ListN.{length, drop}
use Rattle.maps.specs.Least.{up_to}
use Rattle.maps.specs.Map.{Map, IsDart, sew}
use Rattle.maps.specs.Accepted.{InBounds, Accepted}
use Rattle.maps.specs.Given.{Given, lent, map_of}
use Rattle.maps.specs.Verdict.{accepted, accepts}
use Rattle.maps.specs.Rules.{judge_dimension, judge_size}
use Rattle.maps.proofs.Least.{Tested, passes, fails, tested, true_not_false}
use Rattle.maps.proofs.Verdict.{in_order-accepts, unless-accepts}
use Rattle.maps.proofs.Lines.{shows_clear, clear_shows, both_pass}
use Rattle.labels.specs.Queue.{label_in, labelling}
use Rattle.labels.specs.Judging.{judge_map}
use Rattle.labels.proofs.Reached.{labelling_numbers}
use Rattle.labels.proofs.Judging.{map_shows, map_clear}
use Rattle.words.specs.Words.{row, word_of, word, same, signature}
use Rattle.words.proofs.Order.{same_equal, equal_same, signature_one}
use Rattle.words.proofs.Sign.{length-signature}
use Rattle.words.proofs.Meaning.{signature_accepted, signature_signature}
use Rattle.drawer.specs.Record.{Filed, Fault, Reading, good, same_layout, numbers, record_bytes, filed_in, zero_byte_in, filling_in, all_zero, provided, read_table, as_signed, read_record}
use Rattle.drawer.specs.Drawer.{is_bad}
use Rattle.drawer.proofs.Record.{Below, none, more, below_append, Fits, filed_in_record_bytes, zero_byte_in_record_bytes, filling_in_record_bytes}

-- what document 01 asks of the bytes r of one record
pub record Sound (r : List ℕ) : Type 0 where
  pub die : 1 ≤ (filed_in r).die
  pub zero_byte : zero_byte_in r ≡ 0
  pub filling : all_zero (filling_in r) ≡ true
  pub of_map : Accepted (map_of (filed_in r).layout)
  pub signed : (filed_in r).layout.table ≡ signature (map_of (filed_in r).layout)

-- n and m are in bounds exactly where 1 and 2 accept
pub bounds_accept : (l : Given) → InBounds l.n l.m → (accepts (judge_dimension l) ≡ true) × (accepts (judge_size l) ≡ true)
unfolding judge_dimension judge_size
bounds_accept l b = (
  rw (unless-accepts _ 1 0 (omega arith)) (simp (le-leb 1 l.n b.dim_least, le-leb l.n 4 b.dim_most)),
  rw (unless-accepts _ 2 0 (omega arith)) (simp (le-leb 1 l.m b.darts_least, le-leb (l.n * l.m) 1020 b.table_most)),
)

pub accept_bounds : (l : Given) → accepts (judge_dimension l) ≡ true → accepts (judge_size l) ≡ true → InBounds l.n l.m
unfolding judge_dimension judge_size
accept_bounds l a b =
    let dim = both_pass (leb 1 l.n) (leb l.n 4) (rw (unless-accepts _ 1 0 (omega arith)) at a) in
    let darts = both_pass (leb 1 l.m) (leb (l.n * l.m) 1020) (rw (unless-accepts _ 2 0 (omega arith)) at b) in
    record {
      dim_least = leb-true 1 l.n dim.0;
      dim_most = leb-true l.n 4 dim.1;
      darts_least = leb-true 1 l.m darts.0;
      table_most = leb-true (l.n * l.m) 1020 darts.1;
    }

-- of a map in bounds, 5 to 9 accept exactly where it is accepted
module _ (M : Map) where
  pub map_accepts : Accepted M → accepts (judge_map M) ≡ true
  unfolding accepts accepted
  map_accepts a =
      ap accepts (clear_shows (map_shows M a.bounds.dim_least a.bounds.darts_least) ((map_clear M a.bounds.darts_least).1 (a.open_map, a.connected)))

  judge_map_whole : accepts (judge_map M) ≡ true → judge_map M ≡ accepted
  unfolding judge_map
  judge_map_whole e = in_order-accepts _ e

  pub accepts_map : InBounds M.dim M.darts → accepts (judge_map M) ≡ true → Accepted M
  accepts_map b e =
      let h = (map_clear M b.darts_least).0 (shows_clear (map_shows M b.dim_least b.darts_least) (judge_map_whole e)) in
      record { bounds = b; open_map = h.0; connected = h.1 }

-- a reading that finds no fault has passed each test
provided_on : (b : Bool) (f : Fault) (rest : Reading) → is_bad (as_signed (provided b f rest)) ≡ false → (b ≡ true) × (is_bad (as_signed rest) ≡ false)
unfolding is_bad as_signed provided
provided_on true f rest e = (refl, e)
provided_on false f rest e = absurd (true_not_false refl e)

provided_last : (f : Filed) → is_bad (as_signed (good f)) ≡ false → same f.layout.table (signature (map_of f.layout)) ≡ true
unfolding is_bad as_signed provided
provided_last f e = at (tested (same f.layout.table (signature (map_of f.layout))))
  where
    at : Tested (same f.layout.table (signature (map_of f.layout))) → same f.layout.table (signature (map_of f.layout)) ≡ true
    at (passes t) = t
    at (fails t) = absurd (true_not_false refl (simp t at e))

module _ (r : List ℕ) where
  pub sound_good : Sound r → read_record r ≡ good (filed_in r)
  unfolding read_record as_signed read_table provided map_of
  sound_good s =
      let l : Given = (filed_in r).layout in
      let b = bounds_accept l s.of_map.bounds in
      simp (b.0, b.1, le-leb 1 (filed_in r).die s.die, eq-eqb (zero_byte_in r) 0 s.zero_byte, s.filling, map_accepts (map_of l) s.of_map, equal_same l.table (signature (map_of l)) s.signed)

  pub good_sound : is_bad (read_record r) ≡ false → Sound r
  unfolding read_record read_table map_of
  good_sound e =
      let l : Given = (filed_in r).layout in
      let dim = provided_on _ _ _ e in
      let size = provided_on _ _ _ dim.1 in
      let die = provided_on _ _ _ size.1 in
      let byte = provided_on _ _ _ die.1 in
      let fill = provided_on _ _ _ byte.1 in
      let of_map = provided_on _ _ _ fill.1 in
      record {
        die = leb-true 1 (filed_in r).die die.0;
        zero_byte = eqb-true (zero_byte_in r) 0 byte.0;
        filling = fill.0;
        of_map = accepts_map (map_of l) (accept_bounds l dim.0 size.0) of_map.0;
        signed = same_equal l.table (signature (map_of l)) (provided_last (filed_in r) of_map.1);
      }

-- the same of a record that may hold any accepted map
table_on : (b : Bool) (f : Fault) (rest : Reading) → is_bad (provided b f rest) ≡ false → (b ≡ true) × (is_bad rest ≡ false)
unfolding is_bad provided
table_on true f rest e = (refl, e)
table_on false f rest e = absurd (true_not_false refl e)

pub table_good : (r : List ℕ) → is_bad (read_table r) ≡ false → Accepted (map_of (filed_in r).layout) × (read_table r ≡ good (filed_in r))
unfolding read_table provided map_of
table_good r e =
    let l : Given = (filed_in r).layout in
    let dim = table_on _ _ _ e in
    let size = table_on _ _ _ dim.1 in
    let die = table_on _ _ _ size.1 in
    let byte = table_on _ _ _ die.1 in
    let fill = table_on _ _ _ byte.1 in
    let of_map = table_on _ _ _ fill.1 in
    let some_die : leb 1 (filed_in r).die ≡ true = die.0 in
    let zero_byte : eqb (zero_byte_in r) 0 ≡ true = byte.0 in
    let zeros : all_zero (filling_in r) ≡ true = fill.0 in
    (accepts_map (map_of l) (accept_bounds l dim.0 size.0) of_map.0, simp (dim.0, size.0, some_die, zero_byte, zeros, of_map.0))

-- a sound record is read as what it says
pub sound_reads : {r : List ℕ} → Sound r → is_bad (read_record r) ≡ false
unfolding is_bad
sound_reads {r} s = ap is_bad (sound_good r s)

pub same_layout_equal : (a b : Given) → same_layout a b ≡ true → a ≡ b
unfolding same_layout
same_layout_equal a b e =
    let first = both_pass (eqb a.n b.n && eqb a.m b.m) (same a.table b.table) e in
    let sizes = both_pass (eqb a.n b.n) (eqb a.m b.m) first.0 in
    let n = eqb-true a.n b.n sizes.0 in
    let m = eqb-true a.m b.m sizes.1 in
    let t = same_equal a.table b.table first.1 in
    λ i. lent (n i) (m i) (t i)

pub equal_same_layout : (a b : Given) → a ≡ b → same_layout a b ≡ true
unfolding same_layout
equal_same_layout a b e =
    simp (
      eq-eqb a.n b.n (ap (λ (l : Given). l.n) e),
      eq-eqb a.m b.m (ap (λ (l : Given). l.m) e),
      equal_same a.table b.table (ap (λ (l : Given). l.table) e),
    )

-- the table that is read has as many numbers as n and m say
pub length_numbers : (k : ℕ) (bs : List ℕ) → length (numbers k bs) ≡ k
unfolding numbers
length_numbers zero bs = refl
length_numbers (suc k) bs = ap suc (length_numbers k (drop 2 bs))

pub length_table : (r : List ℕ) → length (filed_in r).layout.table ≡ (filed_in r).layout.n * (filed_in r).layout.m
unfolding filed_in
length_table r = length_numbers _ (drop 8 r)

below_map : {k : ℕ} (f : ℕ → ℕ) (xs : List ℕ) → ((x : ℕ) → f x < k) → Below k (map f xs)
below_map f [] h = none
below_map f (x ∷ xs) h = more (h x) (below_map f xs h)

below_flat_map : {k : ℕ} (f : ℕ → List ℕ) (xs : List ℕ) → ((x : ℕ) → Below k (f x)) → Below k (flat_map f xs)
unfolding flat_map
below_flat_map f [] h = none
below_flat_map f (x ∷ xs) h = below_append (h x) (below_flat_map f xs h)

-- the numbers of a signature are labels: 0 to m
module _ {M : Map} (a : Accepted M) where
  word_below : (k d : ℕ) → M.darts < k → IsDart M d → Below k (word M d)
  unfolding word word_of row
  word_below k d h dart =
      below_flat_map (λ e. map (λ i. label_in (labelling M d) (sew M i e)) (up_to M.dim)) (labelling M d)
      (λ e. below_map (λ i. label_in (labelling M d) (sew M i e)) (up_to M.dim) (λ i. omega (arith, (labelling_numbers a d dart).label_high (sew M i e))))

  pub signature_below : (k : ℕ) → M.darts < k → Below k (signature M)
  signature_below k h =
      let d = signature_one M a.bounds.darts_least in
      rw d.2 at (word_below k d.0 h d.1)

  darts_most : M.darts ≤ 1020
  darts_most = let one : 1 * M.darts ≤ M.dim * M.darts = mul-le-mul_right M.darts a.bounds.dim_least in omega (arith, a.bounds.table_most)

  pub filing_fits : (die : ℕ) → die ≤ 4294967295 → Fits (record { die = die; layout = lent M.dim M.darts (signature M) })
  filing_fits die h =
      record {
        die_fits = omega arith;
        dim_fits = omega (arith, a.bounds.dim_most);
        darts_fit = omega (arith, darts_most);
        long = length-signature a;
        small = a.bounds.table_most;
        table_fits = signature_below 65536 (omega (arith, darts_most));
      }

  pub signed_sound : (die : ℕ) → 1 ≤ die → die ≤ 4294967295 → Sound (record_bytes (record { die = die; layout = lent M.dim M.darts (signature M) }))
  signed_sound die low high =
      let f : Filed = record { die = die; layout = lent M.dim M.darts (signature M) } in
      let fits : Fits f = filing_fits die high in
      let read : filed_in (record_bytes f) ≡ f = filed_in_record_bytes f fits in
      record {
        die = rw read low;
        zero_byte = zero_byte_in_record_bytes f fits;
        filling = filling_in_record_bytes f fits;
        of_map = rw read (signature_accepted a);
        signed = rw read (sym (signature_signature a));
      }
