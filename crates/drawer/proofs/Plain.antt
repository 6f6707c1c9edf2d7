-- The laws of `specs/Plain.antt`: a drawer that holds a plain list answers as the list does, call by call, and goes on holding it.
--     least_front, first_place-least    the least number that passes a test, from the front: the first place of a plain list is one
--     Each                              a record has room for each entry of a list
--     record_at_lem                     record k of the records of a list is that of its entry k
--     Held, held_none                   what the drawer that holds a plain list keeps, and that an empty one starts so
--     search_is, fetch_is, filing_is    its answers are the list's
--     after_accepted, after_refused     so is what a filing leaves
--     Steps, steps                      one call
--     run_is, left_is                   a run of calls: the answers, and the drawer left
--     plain_list                        12: from an empty drawer
-- Assumes nothing.
use Prim.Native.Nat.{ℕ, zero, suc, ◌+◌, ◌-◌, ◌*◌, ◌/◌, ◌≤◌, ◌<◌}
use mathlib.Core.Path.{◌≡◌, refl, sym, ap, ap₂, ◌∙◌}
use mathlib.Core.Bool.{Bool, true, false, cond, ◌&&◌}
use mathlib.Core.List.{List, [], ◌∷◌, ◌++◌, flat_map, append_assoc, append-nil}
use mathlib.Core.Logic.{◌↔◌}
use native.Mathlib.Omega.{arith}
use native.Mathlib.Nat.{suc-mul, zero-mul, le-div_iff_mul-le}
use native.Mathlib.Numerals.{add-one}
use borrow.Author.Tests.{le-leb, leb-true, leb-false, ne_eqb}
use lib.Dec.{T, leb, eqb, leb→le}
use lib.Seq.{take_at, drop-append-add, drop-drop}
use lib.ListN.{length, drop, get_or, length-append, length-drop}
use Rattle.maps.specs.Least.{least}
use Rattle.maps.specs.Given.{Given, map_of}
use Rattle.maps.specs.Verdict.{accepted, accepts, unless, in_order}
use Rattle.maps.proofs.Least.{Tested, passes, fails, tested, Misses, Found, Sought, nowhere, somewhere, sought, none_least, least_is, least_cong, least_le}
use Rattle.maps.proofs.Lines.{both_pass}
use Rattle.labels.specs.Queue.{further}
use Rattle.labels.specs.Judging.{check_answer}
use Rattle.labels.specs.Theorems.{CheckAccepts}
use Rattle.labels.proofs.Theorems.{check_accepts}
use Rattle.drawer.specs.Record.{Filed, record_size, record_bytes, filed_in}
use Rattle.drawer.specs.Drawer.{Drawer, drawer, most_records, record_at, entry_at, has_die, has_layout, drawer_answer, layout_of, record_of, record_of_die, judge_search, search_answer, own_bytes, judge_next, judge_filing, filing_answer, filed_bytes}
use Rattle.drawer.specs.Plain.{Call, checks, searches, fetches, files, Answer, checked, searched, fetched, filed, fits, all_fit, drawer_step, drawer_after, drawer_run, first_place, no_entry, filed_at, judge_plain_search, plain_search, plain_fetch, judge_plain_filing, plain_filing, plain_step, plain_after, plain_run, room_in, PlainList}
use Rattle.drawer.specs.Theorems.{drawer_left, plain_left, holding}
use Rattle.drawer.proofs.Record.{Fits, length_record_bytes, filed_in_record_bytes}
use Rattle.drawer.proofs.Readings.{filing_fits}
use Rattle.drawer.proofs.Drawer.{in_order_both, unless_holds, GoodDrawer, good_check}
use Rattle.drawer.proofs.Filings.{filing_passed, written, filed_bytes_lem, filed_count, stays_good, refused_bytes}

-- the least number that passes, by the first
module _ (p : ℕ → Bool) (k : ℕ) where
  abbrev next : ℕ → Bool
  next j = p (suc j)

  misses_front : p 1 ≡ false → Misses next k → Misses p (suc k)
  misses_front miss m zero low high = absurd (omega arith)
  misses_front miss m (suc zero) low high = miss
  misses_front miss m (suc (suc j)) low high = m (suc j) (omega arith) (omega arith)

  before_front : {d : ℕ} → p 1 ≡ false → Found next k d → (j : ℕ) → 1 ≤ j → j < suc d → p j ≡ false
  before_front miss f zero low less = absurd (omega arith)
  before_front miss f (suc zero) low less = miss
  before_front miss f (suc (suc j)) low less = f.before (suc j) (omega arith) (omega arith)

  pub least_front : least (suc k) p ≡ cond (p 1) 1 (further (least k (λ j. p (suc j))))
  unfolding further
  least_front = at (tested (p 1)) (sought next k)
    where
      at : Tested (p 1) → Sought next k → least (suc k) p ≡ cond (p 1) 1 (further (least k next))
      at (passes hit) s = simp hit (least_is p (suc k) (record { low = omega arith; high = omega arith; hit = hit; before = λ j low less. absurd (omega arith) }))
      at (fails miss) (nowhere is m) = simp (miss, is) (none_least p (suc k) (misses_front miss m))
      at (fails miss) (somewhere d is f) =
          let some-d : eqb d 0 ≡ false = ne_eqb d 0 (λ z. omega (arith, f.low)) in
          simp (miss, is, some-d, add-one)
          (least_is p (suc k) (record { low = omega arith; high = omega (arith, f.high); hit = f.hit; before = before_front miss f }))

-- entry k of a list with one more at the front
filed_at_one : (f : Filed) (fs : List Filed) → filed_at (f ∷ fs) 1 ≡ f
unfolding filed_at
filed_at_one f fs = refl

filed_at-suc : (fs : List Filed) (j : ℕ) → filed_at fs (suc j) ≡ get_or fs j no_entry
unfolding filed_at
filed_at-suc fs j = let less : suc j - 1 ≡ j = omega arith in rw less

filed_at_next : (f : Filed) (fs : List Filed) (k : ℕ) → 1 ≤ k → filed_at (f ∷ fs) (suc k) ≡ filed_at fs k
filed_at_next f fs zero low = absurd (omega arith)
filed_at_next f fs (suc j) low = filed_at-suc (f ∷ fs) (suc j) ∙ sym (filed_at-suc fs j)

pub first_place-least : (p : Filed → Bool) (fs : List Filed) → first_place p fs ≡ least (length fs) (λ k. p (filed_at fs k))
unfolding first_place least
first_place-least p [] = refl
first_place-least p (f ∷ fs) =
    sym
    (least_front (λ k. p (filed_at (f ∷ fs) k)) (length fs)
    ∙ ap₂ (λ (a : Filed) (r : ℕ). cond (p a) 1 (further r)) (filed_at_one f fs)
    (least_cong {k = length fs} (λ j low high. ap p (filed_at_next f fs j low)) ∙ sym (first_place-least p fs)))

-- a record has room for each entry
pub data Each : List Filed → Type 0 where
  none : Each []
  more : {f : Filed} {fs : List Filed} → Fits f → Each fs → Each (f ∷ fs)

each_append : {fs : List Filed} {f : Filed} → Each fs → Fits f → Each (fs ++ (f ∷ []))
each_append none r = more r none
each_append (more h e) r = more h (each_append e r)

each_at : {fs : List Filed} → Each fs → (j : ℕ) → j < length fs → Fits (get_or fs j no_entry)
each_at none j less = absurd (omega arith)
each_at (more h e) zero less = h
each_at (more h e) (suc j) less = each_at e j (omega arith)

-- the records of a list, one after the other
abbrev records_of : List Filed → List ℕ
records_of fs = flat_map record_bytes fs

length_records : {fs : List Filed} → Each fs → length (records_of fs) ≡ length fs * record_size
unfolding flat_map
length_records none = sym (zero-mul record_size)
length_records (more {f = f} {fs = fs} h e) =
    rw (length-append, length_record_bytes f h.long h.small, length_records e) (omega (arith, suc-mul (length fs) record_size))

records_append : (fs : List Filed) (f : Filed) → records_of (fs ++ (f ∷ [])) ≡ records_of fs ++ record_bytes f
unfolding flat_map
records_append [] f = append-nil (record_bytes f)
records_append (h ∷ fs) f = rw (records_append fs f) (sym (append_assoc (record_bytes h) (records_of fs) (record_bytes f)))

-- a record after one more at the front
record_at_next : (r xs : List ℕ) (j : ℕ) → length r ≡ record_size → record_at (r ++ xs) (suc (suc j)) ≡ record_at xs (suc j)
unfolding record_at
record_at_next r xs j size =
    let after : suc (suc j) - 1 ≡ suc j = omega arith in
    let before : suc j - 1 ≡ j = omega arith in
    let place : (suc (suc j) - 1) * record_size ≡ length r + (suc j - 1) * record_size = rw (after, before, size) (omega (arith, suc-mul j record_size)) in
    rw (place, drop-append-add r xs ((suc j - 1) * record_size))

record_at_first : (r xs : List ℕ) → length r ≡ record_size → record_at (r ++ xs) 1 ≡ r
unfolding record_at
record_at_first r xs size = rw (zero-mul record_size) (take_at r xs record_size size)

record_at_lem : {fs : List Filed} → Each fs → (rest : List ℕ) (j : ℕ) → j < length fs → record_at (records_of fs ++ rest) (suc j) ≡ record_bytes (get_or fs j no_entry)
unfolding flat_map
record_at_lem none rest j less = absurd (omega arith)
record_at_lem (more {f = f} {fs = fs} h e) rest zero less = rw (append_assoc (record_bytes f) (records_of fs) rest) (record_at_first (record_bytes f) (records_of fs ++ rest) (length_record_bytes f h.long h.small))
record_at_lem (more {f = f} {fs = fs} h e) rest (suc j) less =
    rw (append_assoc (record_bytes f) (records_of fs) rest)
    (record_at_next (record_bytes f) (records_of fs ++ rest) j (length_record_bytes f h.long h.small) ∙ record_at_lem e rest j (omega arith))

some_size : 0 < record_size
unfolding record_size
some_size = omega arith

-- k records find room exactly where their count and their bytes do
room_says : (bytes : List ℕ) (k : ℕ) → (k ≤ room_in bytes) ↔ (k ≤ most_records) × (k * record_size ≤ length bytes)
unfolding room_in
room_says bytes k = (
  λ h. (omega arith, (le-div_iff_mul-le {k = record_size} {x = k} {y = length bytes} some_size).0 (omega arith)),
  λ h. let fits : k ≤ length bytes / record_size = (le-div_iff_mul-le {k = record_size} {x = k} {y = length bytes} some_size).1 h.1 in omega (arith, h.0),
)

-- what the drawer that holds a plain list keeps
pub record Held (bytes : List ℕ) (fs : List Filed) : Type 0 where
  pub in_room : length fs ≤ room_in bytes
  pub good : GoodDrawer (holding bytes fs)
  pub each : Each fs

module _ {bytes : List ℕ} {fs : List Filed} (h : Held bytes fs) where
  abbrev D : Drawer
  D = holding bytes fs

  fine : drawer_answer D ≡ accepted
  fine = good_check D h.good

  holding_long : length (holding bytes fs).bytes ≡ length bytes
  unfolding holding
  holding_long = rw (length-append, length_records h.each, length-drop) (omega (arith, ((room_says bytes (length fs)).0 h.in_room).1))

  record_is : (k : ℕ) → 1 ≤ k → k ≤ length fs → record_at D.bytes k ≡ record_bytes (filed_at fs k)
  unfolding holding
  record_is zero low high = absurd (omega arith)
  record_is (suc j) low high = record_at_lem h.each (drop (length fs * record_size) bytes) j (omega arith) ∙ ap record_bytes (sym (filed_at-suc fs j))

  entry_is : (k : ℕ) → 1 ≤ k → k ≤ length fs → entry_at D.bytes k ≡ filed_at fs k
  unfolding entry_at
  entry_is zero low high = absurd (omega arith)
  entry_is (suc j) low high =
      ap filed_in (record_is (suc j) low high) ∙ filed_in_record_bytes (filed_at fs (suc j)) (rw (filed_at-suc fs j) (each_at h.each j (omega arith)))

  place_is : (p : Filed → Bool) → least (length fs) (λ k. p (entry_at D.bytes k)) ≡ first_place p fs
  place_is p = least_cong {k = length fs} (λ j low high. ap p (entry_is j low high)) ∙ sym (first_place-least p fs)

  record_of_is : (l : Given) → record_of l D ≡ first_place (has_layout l) fs
  unfolding record_of holding
  record_of_is l = place_is (has_layout l)

  record_of_die_is : (die : ℕ) → record_of_die die D ≡ first_place (has_die die) fs
  unfolding record_of_die holding
  record_of_die_is die = place_is (has_die die)

  module _ (g : Given) where
    judge_search_is : judge_search g D ≡ judge_plain_search g fs
    unfolding judge_search judge_plain_search in_order accepts accepted
    judge_search_is = rw (fine, record_of_is (layout_of g))

    -- where it accepts, the entry is there
    entry_there : accepts (judge_plain_search g fs) ≡ true → (1 ≤ first_place (has_layout (layout_of g)) fs) × (first_place (has_layout (layout_of g)) fs ≤ length fs)
    unfolding judge_plain_search
    entry_there e =
        let k = first_place (has_layout (layout_of g)) fs in
        let rest = (in_order_both (check_answer g) (unless (leb 1 k) 15 0 ∷ []) e).1 in (
          leb-true 1 k (unless_holds (leb 1 k) 15 0 (omega arith) (in_order_both (unless (leb 1 k) 15 0) [] rest).0),
          rw (first_place-least (has_layout (layout_of g)) fs) (least_le (λ j. has_layout (layout_of g) (filed_at fs j)) (length fs)),
        )

    search_is : search_answer g D ≡ plain_search g fs
    unfolding search_answer plain_search
    search_is = at (tested (accepts (judge_plain_search g fs)))
      where
        at : Tested (accepts (judge_plain_search g fs)) → search_answer g D ≡ plain_search g fs
        at (passes e) =
            let there = entry_there e in
            simp (judge_search_is, record_of_is (layout_of g), e, entry_is (first_place (has_layout (layout_of g)) fs) there.0 there.1)
        at (fails e) = simp (judge_search_is, record_of_is (layout_of g), e)

    fetch_is : own_bytes g D ≡ plain_fetch g fs
    unfolding own_bytes plain_fetch
    fetch_is = at (tested (accepts (judge_plain_search g fs)))
      where
        at : Tested (accepts (judge_plain_search g fs)) → own_bytes g D ≡ plain_fetch g fs
        at (passes e) =
            let there = entry_there e in
            simp (judge_search_is, record_of_is (layout_of g), e, record_is (first_place (has_layout (layout_of g)) fs) there.0 there.1)
        at (fails e) = simp (judge_search_is, record_of_is (layout_of g), e)

  -- one record more finds room in the drawer exactly where it does in the list
  room_is : (leb (length fs + 1) most_records && leb ((length fs + 1) * record_size) (length D.bytes)) ≡ leb (length fs + 1) (room_in bytes)
  room_is = rw holding_long (at (tested (leb (length fs + 1) (room_in bytes))))
    where
      both : Bool
      both = leb (length fs + 1) most_records && leb ((length fs + 1) * record_size) (length bytes)

      at : Tested (leb (length fs + 1) (room_in bytes)) → (leb (length fs + 1) most_records && leb ((length fs + 1) * record_size) (length bytes)) ≡ leb (length fs + 1) (room_in bytes)
      at (passes e) =
          let r = (room_says bytes (length fs + 1)).0 (leb-true (length fs + 1) (room_in bytes) e) in
          simp (e, le-leb (length fs + 1) most_records r.0, le-leb ((length fs + 1) * record_size) (length bytes) r.1)
      at (fails e) = rw e (on (tested both))
        where
          on : Tested both → both ≡ false
          on (fails f) = f
          on (passes f) =
              let p = both_pass (leb (length fs + 1) most_records) (leb ((length fs + 1) * record_size) (length bytes)) f in
              let in_room = (room_says bytes (length fs + 1)).1 (leb-true (length fs + 1) most_records p.0, leb-true ((length fs + 1) * record_size) (length bytes) p.1) in
              absurd (omega (arith, leb-false (length fs + 1) (room_in bytes) e))

  module _ (die : ℕ) (g : Given) where
    judge_filing_is : judge_filing die g D ≡ judge_plain_filing (room_in bytes) die g fs
    unfolding judge_next judge_filing judge_plain_filing in_order accepts accepted holding
    judge_filing_is = rw (fine, record_of_die_is die, record_of_is (layout_of g), room_is)

    filing_is : filing_answer die g D ≡ plain_filing (room_in bytes) die g fs
    unfolding filing_answer plain_filing holding
    filing_is = rw judge_filing_is

    module _ (e : accepts (judge_plain_filing (room_in bytes) die g fs) ≡ true) where
      abbrev f : Filed
      f = record { die = die; layout = layout_of g }

      passed : accepts (judge_filing die g D) ≡ true
      passed = ap accepts judge_filing_is ∙ e

      one_more : length (fs ++ (f ∷ [])) ≡ length fs + 1
      one_more = length-append fs (f ∷ [])

      -- the drawer with the record written holds the list with the entry at its end
      written_holds : written (holding bytes fs).bytes (length fs) (record_bytes f) ≡ (holding bytes (fs ++ (f ∷ []))).bytes
      unfolding holding
      written_holds =
          let long = length_records h.each in
          let X = records_of fs in
          let Y = drop (length fs * record_size) bytes in
          let past : (length fs + 1) * record_size ≡ length X + record_size = rw (add-one, long) (omega (arith, suc-mul (length fs) record_size)) in
          rw (
            one_more,
            records_append fs f,
            take_at X Y (length fs * record_size) long,
            past,
            drop-append-add X Y record_size,
            drop-drop record_size (length fs * record_size) bytes,
            long,
          )

      filed_holds : filed_bytes die g D ≡ (holding bytes (fs ++ (f ∷ []))).bytes
      unfolding holding
      filed_holds = filed_bytes_lem die g D passed ∙ written_holds

      next_holds : drawer (D.count + 1) (filed_bytes die g D) ≡ holding bytes (fs ++ (f ∷ []))
      unfolding holding
      next_holds = λ i. drawer (sym one_more i) (filed_holds i)

      after_accepted : drawer_after (files die g) D ≡ holding bytes (fs ++ (f ∷ []))
      unfolding drawer_after
      after_accepted = simp (passed, filed_count die g D passed) next_holds

      next_room : length (fs ++ (f ∷ [])) ≤ room_in bytes
      unfolding holding
      next_room =
          let through = filing_passed die g D passed in
          rw one_more ((room_says bytes (length fs + 1)).1 (through.few, rw holding_long at through.room))

      next_fits : die ≤ 4294967295 → Fits f
      unfolding layout_of CheckAccepts map_of
      next_fits small = filing_fits ((check_accepts g).0 (filing_passed die g D passed).checked).1 die small

      held_next : die ≤ 4294967295 → Held bytes (fs ++ (f ∷ []))
      held_next small = record { in_room = next_room; good = rw next_holds at (stays_good die g D passed small); each = each_append h.each (next_fits small) }

    after_refused : accepts (judge_plain_filing (room_in bytes) die g fs) ≡ false → drawer_after (files die g) D ≡ holding bytes fs
    unfolding drawer_after
    after_refused e =
        let refuses : accepts (judge_filing die g D) ≡ false = ap accepts judge_filing_is ∙ e in
        simp (refuses, refused_bytes die g D refuses)

  -- one call: the answer, the drawer left, and that it goes on
  record Steps (c : Call) : Type 0 where
    answer : drawer_step c (holding bytes fs) ≡ plain_step (room_in bytes) c fs
    after : drawer_after c (holding bytes fs) ≡ holding bytes (plain_after (room_in bytes) c fs)
    held : Held bytes (plain_after (room_in bytes) c fs)

  files_steps : (die : ℕ) (g : Given) → die ≤ 4294967295 → Steps (files die g)
  unfolding drawer_step plain_step plain_after
  files_steps die g small = at (tested (accepts (judge_plain_filing (room_in bytes) die g fs)))
    where
      at : Tested (accepts (judge_plain_filing (room_in bytes) die g fs)) → Steps (files die g)
      at (passes e) = record { answer = ap filed (filing_is die g); after = simp e (after_accepted die g e); held = simp e (held_next die g e small) }
      at (fails e) = record { answer = ap filed (filing_is die g); after = simp e (after_refused die g e); held = simp e h }

  steps : (c : Call) → T (fits c) → Steps c
  unfolding drawer_step plain_step drawer_after plain_after fits
  steps checks ok = record { answer = ap checked fine; after = refl; held = h }
  steps (searches g) ok = record { answer = ap searched (search_is g); after = refl; held = h }
  steps (fetches g) ok = record { answer = ap fetched (fetch_is g); after = refl; held = h }
  steps (files die g) ok = files_steps die g (leb→le die 4294967295 ok)

both_hold : (a b : Bool) → T (a && b) → T a × T b
both_hold true b t = (tt, t)
both_hold false b t = absurd t

-- a run of calls
pub run_is : {bytes : List ℕ} {fs : List Filed} → Held bytes fs → (cs : List Call) → T (all_fit cs) → drawer_run (holding bytes fs) cs ≡ plain_run (room_in bytes) fs cs
unfolding drawer_run plain_run all_fit
run_is h [] ok = refl
run_is {bytes} {fs} h (c ∷ cs) ok =
    let both = both_hold (fits c) (all_fit cs) ok in
    let s = steps h c both.0 in
    ap₂ (λ (a : Answer) (rest : List Answer). a ∷ rest) s.answer (ap (λ (D : Drawer). drawer_run D cs) s.after ∙ run_is {fs = plain_after (room_in bytes) c fs} s.held cs both.1)

pub left_is : {bytes : List ℕ} {fs : List Filed} → Held bytes fs → (cs : List Call) → T (all_fit cs) → drawer_left (holding bytes fs) cs ≡ holding bytes (plain_left (room_in bytes) fs cs)
unfolding drawer_left plain_left all_fit
left_is h [] ok = refl
left_is {bytes} {fs} h (c ∷ cs) ok =
    let both = both_hold (fits c) (all_fit cs) ok in
    let s = steps h c both.0 in
    ap (λ (D : Drawer). drawer_left D cs) s.after ∙ left_is {fs = plain_after (room_in bytes) c fs} s.held cs both.1

-- an empty drawer holds the empty list
module _ (bytes : List ℕ) where
  pub holding_none : holding bytes [] ≡ drawer 0 bytes
  unfolding holding flat_map
  holding_none = rw (zero-mul record_size)

  pub held_none : Held bytes []
  held_none = record { in_room = omega arith; good = rw holding_none empty; each = none }
    where
      empty : GoodDrawer (drawer 0 bytes)
      empty = record { few = omega arith; within = rw (zero-mul record_size) (omega arith); each = λ k there. absurd (omega arith) }

pub plain_list : PlainList
unfolding PlainList
plain_list bytes calls ok = ap (λ (D : Drawer). drawer_run D calls) (sym (holding_none bytes)) ∙ run_is (held_none bytes) calls ok
