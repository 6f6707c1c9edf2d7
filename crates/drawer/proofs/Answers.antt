-- The laws of `specs/Answers.antt` on reading: what an answer says of a record's bytes, and that no second answer fits. Those on the
-- drawer's calls are in `Shown`.
--     reading_one                     no two answers stand for one reading
--     layout_read                     a layout that is read holds an accepted map
--     unread_long, unread_room, read_layout, read_fault
--                                     what `read_table` answers and leaves, by its tests
--     entry_read, entry_some          and what its answer says of the bytes
--     read_only                       no second answer of it fits
-- Assumes nothing.
use Prim.Native.Nat.{ℕ, ◌*◌, ◌≤◌, ◌<◌}
use mathlib.Core.Path.{◌≡◌, refl, sym, ap, ◌∙◌}
use mathlib.Core.Bool.{true, false, and-false}
use mathlib.Core.List.{List, ◌++◌}
use borrow.Author.Tests.{eq-eqb, ne_eqb, le-leb, lt-leb}
use lib.ListN.{length, drop}
use Rattle.std.specs.Prelude.{Option, None, Some, Result, Ok, Err}
use Rattle.maps.specs.Given.{lent, map_of}
use Rattle.maps.specs.Accepted.{Accepted}
use Rattle.maps.specs.Shown.{shown_refusal}
use Rattle.maps.specs.declared.Refusal.{Refusal}
use Rattle.maps.proofs.Answer.{refusal_only}
use Rattle.words.specs.Sign.{over}
use Rattle.drawer.specs.Record.{Filed, Reading, Fault, good, wrong_dimension, wrong_size, no_die, zero_byte, filling, no_map, other_word, numbers, record_size, filed_in, read_table}
use Rattle.drawer.specs.Drawer.{is_bad}
use Rattle.drawer.specs.Answers.{fault_of, reading_of, is_read, entry_of, shown_entry, table_over, ReadsAs}
use Rattle.drawer.specs.declared.fields.Layout.{Layout}
use Rattle.drawer.specs.declared.fields.RecordFault.{RecordFault}
use Rattle.drawer.specs.declared.fields.RecordFault.TheVariants.{Dimension, Size, NoDie, ZeroByte, Filling, NoMap, OtherWord}
use Rattle.drawer.specs.declared.table.Entry.{Entry}
use Rattle.drawer.proofs.Readings.{length_numbers, table_good}

-- no two answers stand for one reading
-- the fault of a name, or else a given one: a map's has many
fault_for : Fault → RecordFault → RecordFault
fault_for wrong_dimension f = Dimension
fault_for wrong_size f = Size
fault_for no_die f = NoDie
fault_for zero_byte f = ZeroByte
fault_for filling f = Filling
fault_for (no_map v) f = f
fault_for other_word f = OtherWord

for_fault : (f : RecordFault) → fault_for (fault_of f) f ≡ f
unfolding fault_for fault_of
for_fault Dimension = refl
for_fault Size = refl
for_fault NoDie = refl
for_fault ZeroByte = refl
for_fault Filling = refl
for_fault (NoMap r) = refl
for_fault OtherWord = refl

map_fault : (r : Refusal) (f : RecordFault) → no_map (shown_refusal r) ≡ fault_of f → NoMap r ≡ f
unfolding fault_of
map_fault r Dimension is = cc
map_fault r Size is = cc
map_fault r NoDie is = cc
map_fault r ZeroByte is = cc
map_fault r Filling is = cc
map_fault r (NoMap s) is = ap NoMap (refusal_only r s cc)
map_fault r OtherWord is = cc

fault_one : (e f : RecordFault) → fault_of e ≡ fault_of f → e ≡ f
unfolding fault_for fault_of
fault_one (NoMap r) f is = map_fault r f is
fault_one Dimension f is = ap (λ (x : Fault). fault_for x f) is ∙ for_fault f
fault_one Size f is = ap (λ (x : Fault). fault_for x f) is ∙ for_fault f
fault_one NoDie f is = ap (λ (x : Fault). fault_for x f) is ∙ for_fault f
fault_one ZeroByte f is = ap (λ (x : Fault). fault_for x f) is ∙ for_fault f
fault_one Filling f is = ap (λ (x : Fault). fault_for x f) is ∙ for_fault f
fault_one OtherWord f is = ap (λ (x : Fault). fault_for x f) is ∙ for_fault f

pub reading_one : (h k : Result Layout RecordFault) (r : List ℕ) → reading_of h r ≡ reading_of k r → h ≡ k
unfolding reading_of
reading_one (Ok l) (Ok k) r is =
    let filed : record { die = l.die; layout = lent l.n l.m (numbers (l.n * l.m) (drop 8 r)) } ≡ record { die = k.die; layout = lent k.n k.m (numbers (k.n * k.m) (drop 8 r)) } = cc in
    λ i. Ok (record { die = ap (λ (f : Filed). f.die) filed i; n = ap (λ (f : Filed). f.layout.n) filed i; m = ap (λ (f : Filed). f.layout.m) filed i })
reading_one (Ok l) (Err f) r is = cc
reading_one (Err e) (Ok k) r is = cc
reading_one (Err e) (Err f) r is =
    let same : fault_of e ≡ fault_of f = cc in
    ap Err (fault_one e f same)

-- a layout that is read holds an accepted map
pub layout_read : (l : Layout) (r : List ℕ) → reading_of (Ok l) r ≡ read_table r →
    Accepted (map_of (filed_in r).layout) × (l.n ≡ (filed_in r).layout.n) × (l.m ≡ (filed_in r).layout.m)
unfolding reading_of is_bad
layout_read l r is =
    let good_here = table_good r (ap is_bad (sym is)) in
    let same : good (record { die = l.die; layout = lent l.n l.m (numbers (l.n * l.m) (drop 8 r)) }) ≡ good (filed_in r) = is ∙ good_here.1 in
    let filed : record { die = l.die; layout = lent l.n l.m (numbers (l.n * l.m) (drop 8 r)) } ≡ filed_in r = cc in
    (good_here.0, ap (λ (f : Filed). f.layout.n) filed, ap (λ (f : Filed). f.layout.m) filed)

entry_parts : (a b : ℕ × Reading) → Some a ≡ Some b → (a.0 ≡ b.0) × (a.1 ≡ b.1)
entry_parts a b is = let same : a ≡ b = cc in (ap (λ (e : ℕ × Reading). e.0) same, ap (λ (e : ℕ × Reading). e.1) same)

-- a fault leaves the list as it was, and a layout puts its table in front
fault_over : (h : Result Layout RecordFault) (r before : List ℕ) → ((l : Layout) → h ≡ Ok l → ⊥) → table_over (reading_of h r) before ≡ before
unfolding table_over reading_of
fault_over (Ok l) r before other = absurd (other l refl)
fault_over (Err f) r before other = refl

layout_over : (l : Layout) (r before : List ℕ) → table_over (reading_of (Ok l) r) before ≡ numbers (l.n * l.m) (drop 8 r) ++ drop (l.n * l.m) before
unfolding table_over reading_of over
layout_over l r before = ap (λ (k : ℕ). numbers (l.n * l.m) (drop 8 r) ++ drop k before) (length_numbers (l.n * l.m) (drop 8 r))

-- what `read_table` answers and leaves, by its tests
module _ (r before : List ℕ) where
  unread : is_read r before ≡ false → ReadsAs r before None before
  unfolding entry_of shown_entry
  unread e = record { answer = simp e; written = simp e }

  pub unread_long : (length r ≡ record_size → ⊥) → ReadsAs r before None before
  unfolding is_read
  unread_long other = unread (simp (ne_eqb (length r) record_size other))

  pub unread_room : length before < 1020 → ReadsAs r before None before
  unfolding is_read
  unread_room short = unread (simp (lt-leb 1020 (length before) short, and-false))

  -- where the bytes are a record and the list is long enough
  module _ (filed : List ℕ) (same : filed ≡ r) (long : length r ≡ record_size) (room : 1020 ≤ length before) (die : ℕ) (is_die : die ≡ (filed_in filed).die) where
    read : (h : Result Layout RecordFault) (after : List ℕ) → reading_of h filed ≡ read_table filed → after ≡ table_over (reading_of h filed) before →
        ReadsAs r before (Some (record { die = die; reading = h })) after
    unfolding is_read entry_of shown_entry
    read h after is over-is =
        let whole : is_read r before ≡ true = simp (eq-eqb (length r) record_size long, le-leb 1020 (length before) room) in
        let reads : reading_of h r ≡ read_table r = rw same at is in
        record {
          answer = simp whole (λ i. Some ((rw same at is_die) i, reads i));
          written = simp whole ((rw same at over-is) ∙ ap (λ (x : Reading). table_over x before) reads);
        }

    pub read_layout : (h : Result Layout RecordFault) (l : Layout) (after : List ℕ) → reading_of (Ok l) filed ≡ read_table filed → h ≡ Ok l →
        after ≡ numbers (l.n * l.m) (drop 8 filed) ++ drop (l.n * l.m) before → ReadsAs r before (Some (record { die = die; reading = h })) after
    read_layout h l after is is_l written = rw is_l (read (Ok l) after is (written ∙ sym (layout_over l filed before)))

    pub read_fault : (h k : Result Layout RecordFault) (after : List ℕ) → reading_of k filed ≡ read_table filed → h ≡ k → ((l : Layout) → k ≡ Ok l → ⊥) →
        after ≡ before → ReadsAs r before (Some (record { die = die; reading = h })) after
    read_fault h k after is is_k other kept = rw is_k (read k after is (kept ∙ sym (fault_over k filed before other)))

  -- what an answer says of the bytes
  pub entry_some : is_read r before ≡ true → shown_entry None r ≡ entry_of r before → ⊥
  unfolding entry_of shown_entry
  entry_some whole is = let other : ◌≡◌ {A = Option (ℕ × Reading)} None (Some ((filed_in r).die, read_table r)) = is ∙ simp whole in cc

  pub entry_read : (e : Entry) → is_read r before ≡ true → shown_entry (Some e) r ≡ entry_of r before →
      (e.die ≡ (filed_in r).die) × (reading_of e.reading r ≡ read_table r)
  unfolding entry_of shown_entry
  entry_read e whole is = entry_parts _ _ (is ∙ simp whole)

-- neither another answer nor another list
pub read_only : (r before : List ℕ) (e f : Option Entry) (o p : List ℕ) → ReadsAs r before e o → ReadsAs r before f p → (e ≡ f) × (o ≡ p)
unfolding shown_entry
read_only r before e f o p a b = (entry_one e f (a.answer ∙ sym b.answer), a.written ∙ sym b.written)
  where
    entry_one : (e f : Option Entry) → shown_entry e r ≡ shown_entry f r → e ≡ f
    entry_one None None is = refl
    entry_one None (Some f) is = cc
    entry_one (Some e) None is = cc
    entry_one (Some e) (Some f) is =
        let parts = entry_parts _ _ is in
        λ i. Some (record { die = parts.0 i; reading = reading_one e.reading f.reading r parts.1 i })
