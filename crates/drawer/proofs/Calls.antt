-- The laws behind the check, search and filing: what each answers, by what its code has found so far.
--     drawer_short, drawer_bad, drawer_good
--                            13 and 14
--     next_drawer, next_no_die, next_die, next_layout, next_over, next_room
--                            13, 14 and 16 to 18, in their order
--     made_layout, made_long  what a record made of a die and an accepted map says
--     search_map, search_drawer, search_missed, search_passed
--                            what search comes to
--     record_high            the first record with a layout is one of them
--     shown_found, shown_refused, own_found, own_none
--                            what search answers, and which bytes it hands back
--     filing_map, filing_next, filing_done
--                            what filing answers and leaves in the drawer
--     check_laws, next_laws, search_laws, answer_laws
--                            these, for the functions of `src/`
-- Assumes nothing.
use Prim.Native.Nat.{ℕ, ◌+◌, ◌-◌, ◌*◌, ◌≤◌, ◌<◌}
use mathlib.Core.Path.{◌≡◌, sym, ap, ◌∙◌}
use mathlib.Core.Bool.{true, ◌&&◌}
use mathlib.Core.List.{List, [], ◌∷◌, ◌++◌, append_assoc}
use mathlib.Core.Logic.{◌⊎◌}
use native.Mathlib.Omega.{arith}
use borrow.Author.Rules.{rules}
use borrow.Rule.Slice.PartMut.{put_mid}
use borrow.Author.Tests.{le-leb, lt-leb}
use lib.Dec.{leb}
use lib.ListN.{length, take, drop}
use Rattle.std.specs.Prelude.{None, Some, Ok, Err}
use Rattle.std.proofs.lemmas.Slice.{overwrites}
use Rattle.maps.specs.Least.{least, found_at}
use Rattle.maps.specs.Given.{Given, map_of}
use Rattle.maps.specs.Verdict.{Verdict, accepted, refused, accepts, unless, at_least, in_order}
use Rattle.maps.specs.Shown.{shown_refusal}
use Rattle.maps.specs.declared.Refusal.{Refusal}
use Rattle.maps.proofs.Least.{least_le, some_is, none_is}
use Rattle.maps.proofs.Verdict.{in_order_refused, in_order_first, in_order_on, in_order_last, unless_passed, unless_refused, at_least-some, at_least_none}
use Rattle.labels.specs.Judging.{check_answer}
use Rattle.labels.specs.Theorems.{CheckAccepts}
use Rattle.labels.proofs.Theorems.{check_accepts}
use Rattle.drawer.specs.Record.{Filed, record_size, record_bytes, filed_in}
use Rattle.drawer.specs.Drawer.{Drawer, most_records, record_at, entry_at, bad_record, judge_count, judge_records, drawer_answer, layout_of, record_of, record_of_die, judge_search, search_answer, own_bytes, judge_next, judge_filing, filing_answer, filed_bytes}
use Rattle.drawer.specs.Shown.{shown_drawer}
use Rattle.drawer.specs.Answers.{shown_search, FilesAs}
use Rattle.drawer.specs.declared.refusal.DrawerRefusal.{DrawerRefusal}
use Rattle.drawer.specs.declared.refusal.DrawerRefusal.TheVariants.{Map}
use Rattle.drawer.proofs.Shown.{drawer_refuses}
use Rattle.drawer.proofs.Record.{Fits, length_record_bytes, filed_in_record_bytes}
use Rattle.drawer.proofs.Readings.{filing_fits}
use Rattle.drawer.proofs.Lines.{bounds_fail}

-- a refusal that comes first is the answer
first_refused : (r : DrawerRefusal) (v : Verdict) (vs : List Verdict) → shown_drawer r ≡ v → shown_drawer r ≡ in_order (v ∷ vs)
first_refused r v vs is = is ∙ sym (in_order_refused v vs (sym (ap accepts is) ∙ drawer_refuses r))

first_at_least : (k p q : ℕ) (vs : List Verdict) → 1 ≤ k → Some p ≡ found_at q → refused k p ≡ in_order (at_least k q ∷ vs)
first_at_least k p q vs low is =
    let h = some_is is in
    sym (in_order_first (at_least k q) vs k p low (rw h.0 (at_least-some k p (λ z. omega (arith, h.1)))))

past_at_least : (k q : ℕ) (vs : List Verdict) → None ≡ found_at q → in_order (at_least k q ∷ vs) ≡ in_order vs
past_at_least k q vs is = in_order_on (at_least k q) vs (at_least_none k q (none_is is))

-- the drawer check
module _ (D : Drawer) where
  pub drawer_short : (r : DrawerRefusal) → shown_drawer r ≡ judge_count D → shown_drawer r ≡ drawer_answer D
  unfolding drawer_answer
  drawer_short r is = first_refused r _ _ is

  module _ (counted : judge_count D ≡ accepted) where
    pub drawer_bad : (k : ℕ) → Some k ≡ found_at (least D.count (bad_record D.bytes)) → refused 14 k ≡ drawer_answer D
    unfolding drawer_answer judge_records
    drawer_bad k is = first_at_least 14 k _ [] (omega arith) is ∙ sym (in_order_on _ _ counted)

    pub drawer_good : None ≡ found_at (least D.count (bad_record D.bytes)) → drawer_answer D ≡ accepted
    unfolding drawer_answer judge_records
    drawer_good none = in_order_on _ _ counted ∙ in_order_last _ (at_least_none 14 _ (none_is none))

-- what stands against a die and a layout as the next record
module _ (die : ℕ) (l : Given) (D : Drawer) where
  -- what is left of the verdicts after each test
  abbrev room_left : List Verdict
  room_left = unless (leb (D.count + 1) most_records && leb ((D.count + 1) * record_size) (length D.bytes)) 18 0 ∷ []

  abbrev layout_left : List Verdict
  layout_left = at_least 17 (record_of l D) ∷ room_left

  abbrev die_left : List Verdict
  die_left = at_least 16 (record_of_die die D) ∷ layout_left

  pub next_drawer : (r : DrawerRefusal) → shown_drawer r ≡ drawer_answer D → shown_drawer r ≡ in_order (judge_next die l D)
  unfolding judge_next
  next_drawer r is = first_refused r _ _ is

  module _ (fine : drawer_answer D ≡ accepted) where
    past_drawer : in_order (judge_next die l D) ≡ in_order (unless (leb 1 die) 16 0 ∷ die_left)
    unfolding judge_next
    past_drawer = in_order_on _ _ fine

    pub next_no_die : die ≡ 0 → refused 16 0 ≡ in_order (judge_next die l D)
    next_no_die none = sym (past_drawer ∙ in_order_first _ _ 16 0 (omega arith) (unless_refused _ 16 0 (lt-leb 1 die (omega arith))))

    module _ (some_die : die ≡ 0 → ⊥) where
      past_no_die : in_order (judge_next die l D) ≡ in_order die_left
      past_no_die = past_drawer ∙ in_order_on _ die_left (unless_passed _ 16 0 (le-leb 1 die (omega arith)))

      pub next_die : (k : ℕ) → Some k ≡ found_at (record_of_die die D) → refused 16 k ≡ in_order (judge_next die l D)
      next_die k is = first_at_least 16 k _ _ (omega arith) is ∙ sym past_no_die

      module _ (no_die : None ≡ found_at (record_of_die die D)) where
        past_die : in_order (judge_next die l D) ≡ in_order layout_left
        past_die = past_no_die ∙ past_at_least 16 _ _ no_die

        pub next_layout : (k : ℕ) → Some k ≡ found_at (record_of l D) → refused 17 k ≡ in_order (judge_next die l D)
        next_layout k is = first_at_least 17 k _ _ (omega arith) is ∙ sym past_die

        module _ (no_layout : None ≡ found_at (record_of l D)) where
          past_layout : in_order (judge_next die l D) ≡ in_order room_left
          past_layout = past_die ∙ past_at_least 17 _ _ no_layout

          pub next_over : (1024 < D.count + 1) ⊎ (length D.bytes < (D.count + 1) * 2048) → refused 18 0 ≡ in_order (judge_next die l D)
          unfolding most_records record_size
          next_over h =
              sym
              (past_layout
              ∙ in_order_first _ _ 18 0 (omega arith) (unless_refused _ 18 0 ((bounds_fail (D.count + 1) 1024 ((D.count + 1) * 2048) (length D.bytes)).1 h)))

          pub next_room : D.count + 1 ≤ 1024 → (D.count + 1) * 2048 ≤ length D.bytes → accepted ≡ in_order (judge_next die l D)
          unfolding most_records record_size
          next_room few room =
              sym
              (past_layout
              ∙ in_order_last _ (unless_passed _ 18 0 (simp (le-leb (D.count + 1) 1024 few, le-leb ((D.count + 1) * 2048) (length D.bytes) room))))

-- a record made of a die and an accepted map
module _ (die : ℕ) (g : Given) (small : die ≤ 4294967295) (takes : check_answer g ≡ accepted) where
  abbrev filed : Filed
  filed = record { die = die; layout = layout_of g }

  fits : Fits filed
  unfolding CheckAccepts layout_of map_of
  fits = filing_fits ((check_accepts g).0 takes).1 die small

  pub made_layout : (filed_in (record_bytes filed)).layout ≡ layout_of g
  made_layout = ap (λ (f : Filed). f.layout) (filed_in_record_bytes filed fits)

  pub made_long : length (record_bytes filed) ≡ record_size
  made_long = length_record_bytes filed fits.long fits.small

pub record_high : (l : Given) (D : Drawer) → record_of l D ≤ D.count
unfolding record_of
record_high l D = least_le _ D.count

-- what search comes to
module _ (g : Given) (D : Drawer) where
  pub search_map : (r : Refusal) → shown_refusal r ≡ check_answer g → shown_drawer (Map r) ≡ judge_search g D
  unfolding judge_search
  search_map r is = first_refused (Map r) _ _ is

  module _ (takes : check_answer g ≡ accepted) where
    pub search_drawer : (r : DrawerRefusal) → shown_drawer r ≡ drawer_answer D → shown_drawer r ≡ judge_search g D
    unfolding judge_search
    search_drawer r is = first_refused r _ _ is ∙ sym (in_order_on _ _ takes)

    module _ (fine : drawer_answer D ≡ accepted) where
      past_drawer_check : judge_search g D ≡ in_order (unless (leb 1 (record_of (layout_of g) D)) 15 0 ∷ [])
      unfolding judge_search
      past_drawer_check = in_order_on _ _ takes ∙ in_order_on _ _ fine

      pub search_missed : None ≡ found_at (record_of (layout_of g) D) → refused 15 0 ≡ judge_search g D
      search_missed none =
          let z = none_is none in
          sym (past_drawer_check ∙ in_order_first _ _ 15 0 (omega arith) (unless_refused _ 15 0 (lt-leb 1 (record_of (layout_of g) D) (omega arith))))

      pub search_passed : (k : ℕ) → Some k ≡ found_at (record_of (layout_of g) D) → judge_search g D ≡ accepted
      search_passed k is =
          let h = some_is is in
          past_drawer_check ∙ in_order_last _ (unless_passed _ 15 0 (le-leb 1 (record_of (layout_of g) D) (omega (arith, h.0, h.1))))

  -- what it answers, and the bytes that it hands back
  pub shown_found : judge_search g D ≡ accepted → (k die : ℕ) → k ≡ record_of (layout_of g) D → die ≡ (entry_at D.bytes k).die
      → shown_search (Ok (record { die = die; at = k })) ≡ search_answer g D
  unfolding search_answer accepts accepted
  shown_found is k die at named = simp (is, ← at, named)

  pub shown_refused : (r : DrawerRefusal) → shown_drawer r ≡ judge_search g D → shown_search (Err r) ≡ search_answer g D
  unfolding search_answer
  shown_refused r is = rw (← is) (simp (drawer_refuses r))

  pub own_found : judge_search g D ≡ accepted → (k : ℕ) → k ≡ record_of (layout_of g) D → record_at D.bytes k ≡ own_bytes g D
  unfolding own_bytes accepts accepted
  own_found is k at = simp (is, at)

  pub own_none : (r : DrawerRefusal) → shown_drawer r ≡ judge_search g D → [] ≡ own_bytes g D
  unfolding own_bytes
  own_none r is = rw (← is) (simp (drawer_refuses r))

part_over : (from : ℕ) (xs ys : List ℕ) → put_mid from (from + 2048 - from) xs ys ≡ take from xs ++ (ys ++ drop (from + 2048) xs)
part_over from xs ys = search (rules, overwrites)

-- what filing answers and leaves, by what it has found
module _ (die : ℕ) (g : Given) (D : Drawer) where
  filing_refused : (r : DrawerRefusal) → shown_drawer r ≡ judge_filing die g D → FilesAs die g D (Err r) D.bytes
  unfolding filing_answer filed_bytes
  filing_refused r is = record { answer = rw (← is) (simp (drawer_refuses r)); written = rw (← is) (simp (drawer_refuses r)) }

  pub filing_map : (r : Refusal) → shown_refusal r ≡ check_answer g → FilesAs die g D (Err (Map r)) D.bytes
  unfolding judge_filing
  filing_map r is = filing_refused (Map r) (first_refused (Map r) _ _ is)

  module _ (takes : check_answer g ≡ accepted) where
    pub filing_next : (r : DrawerRefusal) → shown_drawer r ≡ in_order (judge_next die (layout_of g) D) → FilesAs die g D (Err r) D.bytes
    unfolding judge_filing
    filing_next r is = filing_refused r (is ∙ sym (in_order_on _ _ takes))

    module _ (passed : accepted ≡ in_order (judge_next die (layout_of g) D)) where
      accepting : accepts (judge_filing die g D) ≡ true
      unfolding judge_filing accepts accepted
      accepting = ap accepts (in_order_on _ _ takes ∙ sym passed)

      -- the bytes `filed` are laid where the next record stands
      pub filing_done : (filed : List ℕ) → filed ≡ record_bytes (record { die = die; layout = layout_of g })
          → FilesAs die g D (Ok (D.count + 1)) (put_mid (D.count * 2048) (D.count * 2048 + 2048 - D.count * 2048) D.bytes filed)
      unfolding filing_answer filed_bytes record_size
      filing_done filed is =
          let from = D.count * 2048 in
          let next : D.count * 2048 + 2048 ≡ (D.count + 1) * 2048 = omega arith in
          record { answer = simp accepting; written = simp accepting (part_over from D.bytes filed ∙ rw (is, next) (sym (append_assoc (take from D.bytes) _ _))) }

pub ruleset check_laws = (drawer_short, drawer_bad, drawer_good)

pub ruleset next_laws = (next_drawer, next_no_die, next_die, next_layout, next_over, next_room)

pub ruleset search_laws = (search_map, search_drawer, search_missed, made_layout)

pub ruleset answer_laws = (shown_found, shown_refused, record_high)
