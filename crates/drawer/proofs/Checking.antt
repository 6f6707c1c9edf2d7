-- The laws behind the drawer check's functions: the records inside the bytes, and a bad record.
--     count_over, count_inside
--                           13, by the count and the bytes
--     chunk_at, record_in_chunks
--                           a record as one of the chunks of its size
--     bad_fault, bad_die, bad_layout, not_bad
--                           whether record k is bad, by its reading and the records before it
--     first_laws, count_laws, bad_laws
--                           these, and those of a search from 1 upwards, for the functions of `src/`
-- Assumes nothing.
use Prim.Native.Nat.{ℕ, zero, suc, ◌+◌, ◌-◌, ◌*◌, ◌≤◌, ◌<◌}
use mathlib.Core.Path.{◌≡◌, refl, sym, ap, ◌∙◌}
use mathlib.Core.Bool.{Bool, true, false, ◌||◌}
use mathlib.Core.List.{List, []}
use mathlib.Core.Logic.{◌⊎◌}
use native.Mathlib.Omega.{arith}
use native.Mathlib.Nat.{suc-mul, add_comm}
use borrow.Author.Tests.{le-leb}
use lib.ListN.{length, get_or, take, drop}
use Rattle.std.specs.Prelude.{None, Some, Ok, Err}
use Rattle.std.specs.Simd.{first_chunks}
use Rattle.std.proofs.lemmas.List.{drop-drop, get_or-take}
use Rattle.maps.specs.Least.{least, found_at}
use Rattle.maps.specs.Verdict.{accepted, refused}
use Rattle.maps.proofs.Least.{least_found, least_none, passes_some, misses_some, search_hit, search_over, some_is, none_is}
use Rattle.maps.proofs.Verdict.{unless_passed, unless_refused}
use Rattle.drawer.specs.Record.{Reading, good, bad, record_size, filed_in, read_record}
use Rattle.drawer.specs.Drawer.{drawer, most_records, record_at, entry_at, is_bad, has_die, has_layout, repeats, bad_record, judge_count, record_of, record_of_die}
use Rattle.drawer.specs.Answers.{reading_of}
use Rattle.drawer.specs.declared.fields.Layout.{Layout}
use Rattle.drawer.specs.declared.fields.RecordFault.{RecordFault}
use Rattle.drawer.proofs.Readings.{sound_good, good_sound}
use Rattle.drawer.proofs.Lines.{bounds_fail}

module _ (count : ℕ) (bytes : List ℕ) where
  pub count_over : (1024 < count) ⊎ (length bytes < count * 2048) → judge_count (drawer count bytes) ≡ refused 13 0
  unfolding judge_count most_records record_size
  count_over h = unless_refused _ 13 0 ((bounds_fail count 1024 (count * 2048) (length bytes)).1 h)

  pub count_inside : count ≤ 1024 → count * 2048 ≤ length bytes → judge_count (drawer count bytes) ≡ accepted
  unfolding judge_count most_records record_size
  count_inside few inside = unless_passed _ 13 0 (simp (le-leb count 1024 few, le-leb (count * 2048) (length bytes) inside))

-- a chunk of n elements
chunk_at : {X : Type 0} (n k i : ℕ) (xs : List X) → i < k → get_or (first_chunks n k xs) i [] ≡ take n (drop (i * n) xs)
chunk_at n zero i xs h = absurd (omega arith)
chunk_at n (suc k) zero xs h = let none : 0 * n ≡ 0 = omega arith in rw none refl
chunk_at n (suc k) (suc i) xs h =
    let past : n + i * n ≡ suc i * n = add_comm n (i * n) ∙ sym (suc-mul i n) in
    chunk_at n k i (drop n xs) (omega arith) ∙ ap (take n) (drop-drop (i * n) n xs ∙ ap (λ (j : ℕ). drop j xs) past)

-- the first records of the chunks
pub record_in_chunks : (count k i : ℕ) (bytes : List ℕ) → count ≤ k → i < count → get_or (take count (first_chunks 2048 k bytes)) i [] ≡ record_at bytes (i + 1)
unfolding record_at record_size
record_in_chunks count k i bytes fits low =
    let same : i + 1 - 1 ≡ i = omega arith in
    get_or-take count (first_chunks 2048 k bytes) i [] low ∙ chunk_at 2048 k i bytes (omega arith) ∙ rw same refl

either_second : (a b : Bool) → b ≡ true → (a || b) ≡ true
either_second true b e = refl
either_second false b e = e

-- the die of a reading that finds a layout
die_read : Reading → ℕ
die_read (good f) = f.die
die_read (bad f) = 0

module _ (bytes : List ℕ) (k : ℕ) where
  abbrev bytes_at : List ℕ
  bytes_at = record_at bytes k

  pub bad_fault : (f : RecordFault) → reading_of (Err f) bytes_at ≡ read_record bytes_at → bad_record bytes k ≡ true
  unfolding bad_record reading_of is_bad
  bad_fault f is = rw (← is) refl

  module _ (l : Layout) (is : reading_of (Ok l) bytes_at ≡ read_record bytes_at) where
    sound : is_bad (read_record bytes_at) ≡ false
    unfolding reading_of is_bad
    sound = rw (← is) refl

    -- the die that is read is the one that stands there
    die_is : (entry_at bytes k).die ≡ l.die
    unfolding entry_at reading_of die_read
    die_is = ap die_read (sym (sound_good bytes_at (good_sound bytes_at sound)) ∙ sym is)

    -- the two tests of an earlier record
    abbrev has_die_at : ℕ → Bool
    has_die_at j = has_die (entry_at bytes k).die (entry_at bytes j)

    abbrev has_layout_at : ℕ → Bool
    has_layout_at j = has_layout (entry_at bytes k).layout (entry_at bytes j)

    -- an earlier record has one or the other
    abbrev again : ℕ → Bool
    again j = has_die_at j || has_layout_at j

    die_first : record_of_die l.die (drawer (k - 1) bytes) ≡ least (k - 1) has_die_at
    unfolding record_of_die
    die_first = ap (λ (x : ℕ). least (k - 1) (λ j. has_die x (entry_at bytes j))) (sym die_is)

    layout_first : record_of (filed_in bytes_at).layout (drawer (k - 1) bytes) ≡ least (k - 1) has_layout_at
    unfolding record_of entry_at
    layout_first = refl

    pub bad_die : (j : ℕ) → Some j ≡ found_at (record_of_die l.die (drawer (k - 1) bytes)) → bad_record bytes k ≡ true
    unfolding bad_record repeats
    bad_die j first =
        let h = some_is first in
        let f = least_found has_die_at (k - 1) (omega (arith, die_first, h.0, h.1)) in
        simp (sound, passes_some again (k - 1) _ f.low f.high (simp f.hit))

    pub bad_layout : (j : ℕ) → Some j ≡ found_at (record_of (filed_in bytes_at).layout (drawer (k - 1) bytes)) → bad_record bytes k ≡ true
    unfolding bad_record repeats
    bad_layout j first =
        let h = some_is first in
        let f = least_found has_layout_at (k - 1) (omega (arith, layout_first, h.0, h.1)) in
        let d = least (k - 1) has_layout_at in
        simp (sound, passes_some again (k - 1) d f.low f.high (either_second (has_die_at d) (has_layout_at d) f.hit))

    pub not_bad : None ≡ found_at (record_of_die l.die (drawer (k - 1) bytes)) → None ≡ found_at (record_of (filed_in bytes_at).layout (drawer (k - 1) bytes)) → bad_record bytes k ≡ false
    unfolding bad_record repeats
    not_bad no_die no_layout =
        let dies = least_none has_die_at (k - 1) (sym die_first ∙ none_is no_die) in
        let layouts = least_none has_layout_at (k - 1) (sym layout_first ∙ none_is no_layout) in
        simp (sound, misses_some again (k - 1) (λ j low high. simp (dies j low high, layouts j low high)))

pub ruleset first_laws = (search_hit, search_over)

pub ruleset count_laws = (count_over, count_inside)

pub ruleset bad_laws = (bad_fault, bad_die, bad_layout, not_bad)
