-- The laws behind a record's line: what the reading and the signature say of it.
--     signed, signed_word         an accepted map has a signature, whose start and symmetries are those of the definitions
--     accepted_listed             the line of an accepted map
--     is_read_here                a record of 2,048 bytes is read
--     entry_some                  so an answer is there
--     fault_listed, map_listed    the line of a fault, and that of a filed layout
--     from_short, from_record     the line of any bytes
--     printed_only                no second answer fits
-- Assumes nothing.
use Prim.Native.Nat.{ℕ, ◌*◌, ◌≤◌, ◌<◌}
use mathlib.Core.Path.{◌≡◌, refl, sym, ap, ◌∙◌}
use mathlib.Core.Bool.{true, cond}
use mathlib.Core.List.{List, [], ◌∷◌}
use native.Mathlib.Omega.{arith}
use borrow.Author.Tests.{eq-eqb, le-leb, lt-leb}
use borrow.Author.Rules.{rules}
use denote.Struct.Record.{values_one}
use lib.ListN.{length, take}
use Rattle.std.specs.Prelude.{Result, Ok, Err, Option, Some, None, IsOk, IsSome}
use Rattle.maps.specs.Given.{Given, lent, map_of, Shaped}
use Rattle.maps.specs.Accepted.{Accepted}
use Rattle.maps.specs.Verdict.{accepts}
use Rattle.maps.specs.Shown.{shown_refusal}
use Rattle.maps.specs.declared.Refusal.{Refusal}
use Rattle.maps.proofs.Answer.{refusal_low}
use Rattle.labels.specs.Judging.{table_answer, check_answer}
use Rattle.maps.specs.declared.Output.TheVariants as output
use Rattle.labels.proofs.Judging.{shaped_map}
use Rattle.words.specs.Words.{start, symmetries}
use Rattle.words.specs.Sign.{SignatureAnswer, shown_signed, signature_answer, over}
use Rattle.words.proofs.Sign.{over_front}
use Rattle.words.specs.declared.found.Signature.{Signature}
use Rattle.drawer.specs.Record.{good, record_size, filed_in, read_table}
use Rattle.drawer.specs.Drawer.{is_bad}
use Rattle.drawer.specs.Answers.{fault_of, reading_of, is_read, entry_of, shown_entry, table_over}
use Rattle.drawer.specs.declared.fields.Layout.{Layout}
use Rattle.drawer.specs.declared.fields.RecordFault.{RecordFault}
use Rattle.drawer.specs.declared.table.Entry.{Entry}
use Rattle.drawer.proofs.Answers as drawers
use Rattle.drawer.proofs.Readings.{map_accepts, table_good, length_table}
use Rattle.drawer.proofs.Writing.{room_enough}
use Rattle.lister.specs.Listing.{decimal, spaced, shown_fault, accepted_line, refused_line, line_for, line_of, short_end, line_from}
use Rattle.lister.specs.Answer.{PrintedAs}
use Rattle.lister.specs.declared.line.Line.{Line}
use Rattle.lister.specs.contracts.line.Line.{struct, the_propositions}

-- what the signature answers of an accepted map, with room for its word
module _ (g : Given) (takes : accepts (check_answer g) ≡ true) where
  lent_room : accepts (table_answer (output.Word 1020) g) ≡ true
  lent_room = ap accepts (room_enough g 1020 (omega arith)) ∙ takes

  answer_word : signature_answer g 1020 ≡ record { number = 0; place = 0; start = start (map_of g); symmetries = symmetries (map_of g) }
  unfolding signature_answer
  answer_word = simp lent_room

  pub signed : (r : Result Signature Refusal) → shown_signed r ≡ signature_answer g 1020 → IsOk r
  signed (Ok s) is = search rules
  signed (Err r) is =
      let none : (shown_refusal r).number ≡ 0 = ap (λ (a : SignatureAnswer). a.number) (is ∙ answer_word) in absurd (omega (arith, refusal_low r))

  pub signed_word : (s : Signature) → shown_signed (Ok s) ≡ signature_answer g 1020 → (s.start ≡ start (map_of g)) × (s.symmetries ≡ symmetries (map_of g))
  signed_word s is = (ap (λ (a : SignatureAnswer). a.start) (is ∙ answer_word), ap (λ (a : SignatureAnswer). a.symmetries) (is ∙ answer_word))

-- the numbers that the signature gives stand in the line
pub accepted_listed : (die : ℕ) (g : Given) (s k : ℕ) → (s ≡ start (map_of g)) × (k ≡ symmetries (map_of g)) →
    spaced (decimal die ∷ decimal g.n ∷ decimal g.m ∷ decimal k ∷ decimal s ∷ []) ≡ accepted_line die g
unfolding accepted_line
accepted_listed die g s k is = rw (is.0, is.1) refl

-- a record of 2,048 bytes, lent a list with room for any table
module _ (r before : List ℕ) (long : length r ≡ 2048) (room : 1020 ≤ length before) where
  is_read_here : is_read r before ≡ true
  unfolding is_read record_size
  is_read_here = simp (eq-eqb (length r) 2048 long, le-leb 1020 (length before) room)

  pub entry_some : (e : Option Entry) → shown_entry e r ≡ entry_of r before → IsSome e
  entry_some None answer = absurd (drawers.entry_some r before is_read_here answer)
  entry_some (Some e) answer = search rules

  -- what the answer says of the record
  module _ (e : Entry) (answer : shown_entry (Some e) r ≡ entry_of r before) where
    says : (e.die ≡ (filed_in r).die) × (reading_of e.reading r ≡ read_table r)
    says = drawers.entry_read r before e is_read_here answer

    pub fault_listed : (k : ℕ) (f : RecordFault) → e.reading ≡ Err f → refused_line e.die (shown_fault k (fault_of f)) ≡ line_of k r
    unfolding line_of line_for reading_of
    fault_listed k f is = rw (← says.0, ← says.1, is) refl

    module _ (l : Layout) (is : e.reading ≡ Ok l) (after : List ℕ) (written : after ≡ cond (is_read r before) (table_over (read_table r) before) before) where
      reads : reading_of (Ok l) r ≡ read_table r
      reads = rw is at says.1

      of_map : Accepted (map_of (filed_in r).layout) × (l.n ≡ (filed_in r).layout.n) × (l.m ≡ (filed_in r).layout.m)
      of_map = drawers.layout_read l r reads

      good_here : read_table r ≡ good (filed_in r)
      unfolding is_bad reading_of
      good_here = (table_good r (ap is_bad (sym reads))).1

      pub small : l.n * l.m ≤ 1020
      unfolding map_of
      small = rw (of_map.1, of_map.2) of_map.0.bounds.table_most

      after_is : after ≡ over (filed_in r).layout.table before
      unfolding table_over
      after_is = written ∙ simp (is_read_here, good_here)

      lent_is : lent l.n l.m (take (l.n * l.m) after) ≡ (filed_in r).layout
      lent_is =
          let front : take (l.n * l.m) after ≡ (filed_in r).layout.table =
          ap (take (l.n * l.m)) after_is ∙ over_front (filed_in r).layout.table before (l.n * l.m) (rw (length_table r, ← of_map.1, ← of_map.2) refl) in
          λ i. lent (of_map.1 i) (of_map.2 i) (front i)

      pub takes : accepts (check_answer (lent l.n l.m (take (l.n * l.m) after))) ≡ true
      unfolding map_of
      takes =
          let whole : Shaped (filed_in r).layout = record { bounds = of_map.0.bounds; long = length_table r } in
          ap (λ (g : Given). accepts (check_answer g)) lent_is ∙ ap accepts (shaped_map (filed_in r).layout whole) ∙ map_accepts (map_of (filed_in r).layout) of_map.0

      pub map_listed : (k : ℕ) → accepted_line e.die (lent l.n l.m (take (l.n * l.m) after)) ≡ line_of k r
      unfolding line_of line_for
      map_listed k = ap (accepted_line e.die) lent_is ∙ rw (good_here, says.0) refl

-- any bytes
pub from_short : (k : ℕ) (bytes : List ℕ) → length bytes < 2048 → short_end (length bytes) ≡ line_from k bytes
unfolding line_from record_size
from_short k bytes few = simp (lt-leb 2048 (length bytes) few)

pub from_record : (k : ℕ) (bytes : List ℕ) → 2048 ≤ length bytes → line_of k (take 2048 bytes) ≡ line_from k bytes
unfolding line_from record_size
from_record k bytes many = simp (le-leb 2048 (length bytes) many)

pub printed_only : (l : List ℕ) (r s : Line) → PrintedAs l r → PrintedAs l s → r ≡ s
printed_only l r s a b =
    let one-start : r.start ≡ s.start = omega (arith, a.begins, b.begins) in
    let one_line : r.bytes ≡ s.bytes = a.printed ∙ rw one-start refl ∙ sym b.printed in
    values_one struct the_propositions r s (λ i. (one_line i, (one-start i, tt)))
