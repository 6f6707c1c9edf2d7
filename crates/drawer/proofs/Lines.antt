-- The laws of `specs/Lines.antt`: a record is bad in the words of document 01 exactly where the test finds it bad, and the answers
-- of the calls are what their lines show.
--     has_layout_says, has_die_says   the tests of an entry
--     bad_says                        a record is bad
--     drawer_shows                    13 and 14
--     search_shows, search_numbers    search
--     filing_shows, filing_numbers    filing
-- Assumes nothing.
use Prim.Native.Nat.{ℕ, zero, suc, ◌+◌, ◌-◌, ◌*◌, ◌≤◌, ◌<◌}
use mathlib.Core.Path.{◌≡◌, refl, sym, ◌∙◌}
use mathlib.Core.Bool.{Bool, true, false, ◌&&◌, ◌||◌}
use mathlib.Core.List.{List, [], ◌∷◌}
use mathlib.Core.Logic.{◌↔◌, ◌⊎◌, inl, inr, ⊎_elim}
use native.Mathlib.Omega.{arith}
use borrow.Author.Tests.{lt-leb, leb-true, leb-false, eq-eqb, eqb-true, eqb-false}
use lib.Dec.{eqb, leb}
use lib.Seq.{get_or-drop}
use lib.ListN.{length, get_or}
use Rattle.maps.specs.Least.{nth, least, some}
use Rattle.maps.specs.Given.{Given, map_of}
use Rattle.maps.specs.Verdict.{Verdict, accepted, refused, accepts, unless, at_least, in_order}
use Rattle.maps.specs.Rules.{judge_dimension, judge_size}
use Rattle.maps.specs.Lines.{Line, Shows, here, shape_lines, room_lines, entry_lines, map_lines, table_lines, check_lines}
use Rattle.maps.proofs.Least.{Tested, passes, fails, tested, true_not_false, Misses, some_found, some_misses, misses_some, least_none, least_found}
use Rattle.maps.proofs.Verdict.{in_order_passed, in_order_first, in_order-accepts, unless_refused, unless-accepts}
use Rattle.maps.proofs.Lines.{Clear, past, has_number, shows_then, shows_last, shows_unless, shows_least, shows_without, both_pass}
use Rattle.labels.specs.Judging.{judge_map}
use Rattle.labels.specs.Theorems.{CheckShows}
use Rattle.labels.proofs.Theorems.{check_shows}
use Rattle.words.specs.Words.{same, signature}
use Rattle.words.proofs.Order.{same_equal, equal_same}
use Rattle.drawer.specs.Record.{Filed, record_size, filed_in, zero_byte_in, filling_in, all_zero, read_record}
use Rattle.drawer.specs.Drawer.{Drawer, most_records, record_at, entry_at, is_bad, has_die, has_layout, repeats, bad_record, judge_count, judge_records, drawer_answer, layout_of, record_of, record_of_die, judge_search, search_answer, judge_next, judge_filing, filing_answer}
use Rattle.drawer.specs.Lines.{IsRecord, layout_at, Bad, no_die, out_of_bounds, zero_byte, filling, no_map, other_word, die_repeated, layout_repeated, drawer_lines, search_lines, filing_lines, DrawerShows, SearchShows, FilingShows, SearchNumbers, FilingNumbers}
use Rattle.drawer.proofs.Readings.{Sound, good_sound, sound_reads, bounds_accept, accept_bounds, map_accepts, accepts_map, same_layout_equal, equal_same_layout}

-- an entry has the die, or the layout
pub has_die_says : (die : ℕ) (f : Filed) → (has_die die f ≡ true) ↔ (f.die ≡ die)
unfolding has_die
has_die_says die f = (eqb-true f.die die, eq-eqb f.die die)

pub has_layout_says : (l : Given) (f : Filed) → (has_layout l f ≡ true) ↔ (f.layout ≡ l)
unfolding has_layout
has_layout_says l f = (same_layout_equal f.layout l, equal_same_layout f.layout l)

-- one of two tests passes
either_passes : (a b : Bool) → (a || b) ≡ true → (a ≡ true) ⊎ (b ≡ true)
either_passes true b e = inl refl
either_passes false b e = inr e

either_says : {A B : Type 0} (a b : Bool) → (a ≡ true) ↔ A → (b ≡ true) ↔ B → ((a || b) ≡ true) ↔ (A ⊎ B)
either_says true b f g = (λ e. inl (f.0 refl), λ h. refl)
either_says false b f g = (λ e. inr (g.0 e), λ h. ⊎_elim (λ x. absurd (true_not_false (f.1 x) refl)) (λ y. g.1 y) h)

pub neither_passes : (a b : Bool) → (a || b) ≡ false → (a ≡ false) × (b ≡ false)
neither_passes true b e = absurd (true_not_false refl e)
neither_passes false b e = (refl, e)

-- a list that is not all zeros holds another number
some_number : (xs : List ℕ) → all_zero xs ≡ false → (i : ℕ) × (¬ (get_or xs i 0 ≡ 0))
unfolding all_zero
some_number [] e = absurd (true_not_false refl e)
some_number (x ∷ xs) e = at (tested (eqb x 0)) (some_number xs)
  where
    at : Tested (eqb x 0) → (all_zero xs ≡ false → (i : ℕ) × (¬ (get_or xs i 0 ≡ 0))) → (i : ℕ) × (¬ (get_or (x ∷ xs) i 0 ≡ 0))
    at (passes z) ih = let rest = ih (simp z at e) in (suc rest.0, rest.1)
    at (fails z) ih = (0, eqb-false x 0 z)

no_number : (xs : List ℕ) → all_zero xs ≡ true → (i : ℕ) → get_or xs i 0 ≡ 0
unfolding all_zero
no_number [] e i = refl
no_number (x ∷ xs) e zero = eqb-true x 0 (both_pass (eqb x 0) (all_zero xs) e).0
no_number (x ∷ xs) e (suc i) = no_number xs (both_pass (eqb x 0) (all_zero xs) e).1 i

module _ (D : Drawer) (k : ℕ) where
  -- the bytes of record k, and the tests of its reading
  abbrev bytes_at : List ℕ
  bytes_at = record_at D.bytes k

  abbrev layout : Given
  layout = (filed_in bytes_at).layout

  -- a record is bad by itself, or sound
  bad_or_sound : Bad D k ⊎ Sound bytes_at
  unfolding entry_at filling_in nth map_of
  bad_or_sound =
      at
      (tested (accepts (judge_dimension layout)))
      (tested (accepts (judge_size layout)))
      (tested (leb 1 (filed_in bytes_at).die))
      (tested (eqb (zero_byte_in bytes_at) 0))
      (tested (all_zero (filling_in bytes_at)))
      (tested (accepts (judge_map (map_of layout))))
      (tested (same layout.table (signature (map_of layout))))
    where
      at :
          Tested (accepts (judge_dimension layout)) → Tested (accepts (judge_size layout)) → Tested (leb 1 (filed_in bytes_at).die)
          → Tested (eqb (zero_byte_in bytes_at) 0) → Tested (all_zero (filling_in bytes_at)) → Tested (accepts (judge_map (map_of layout)))
          → Tested (same layout.table (signature (map_of layout))) → Bad D k ⊎ Sound bytes_at
      at (fails e) b c d f g h = inl (out_of_bounds (λ in_bounds. true_not_false (bounds_accept layout in_bounds).0 e))
      at (passes a) (fails e) c d f g h = inl (out_of_bounds (λ in_bounds. true_not_false (bounds_accept layout in_bounds).1 e))
      at (passes a) (passes b) (fails e) d f g h = inl (no_die (omega (arith, leb-false 1 (filed_in bytes_at).die e)))
      at (passes a) (passes b) (passes c) (fails e) f g h = inl (zero_byte (eqb-false (zero_byte_in bytes_at) 0 e))
      at (passes a) (passes b) (passes c) (passes d) (fails e) g h =
          let other = some_number (filling_in bytes_at) e in
          let from = 8 + 2 * (layout.n * layout.m) in
          inl (filling (suc (from + other.0)) (omega arith) (λ z. other.1 (get_or-drop from bytes_at other.0 0 ∙ z)))
      at (passes a) (passes b) (passes c) (passes d) (passes f) (fails e) h = inl (no_map (λ m. true_not_false (map_accepts (map_of layout) m) e))
      at (passes a) (passes b) (passes c) (passes d) (passes f) (passes g) (fails e) =
          inl (other_word (λ w. true_not_false (equal_same layout.table (signature (map_of layout)) w) e))
      at (passes a) (passes b) (passes c) (passes d) (passes f) (passes g) (passes h) =
          inr
          (record {
            die = leb-true 1 (filed_in bytes_at).die c;
            zero_byte = eqb-true (zero_byte_in bytes_at) 0 d;
            filling = f;
            of_map = accepts_map (map_of layout) (accept_bounds layout a b) g;
            signed = same_equal layout.table (signature (map_of layout)) h;
          })

  -- its die number or its layout stands in record j
  abbrev Repeated : ℕ → Type 0
  Repeated j = ((entry_at D.bytes j).die ≡ (entry_at D.bytes k).die) ⊎ (layout_at D j ≡ layout_at D k)

  abbrev again : ℕ → Bool
  again j = has_die (entry_at D.bytes k).die (entry_at D.bytes j) || has_layout (layout_at D k) (entry_at D.bytes j)

  again_says : (j : ℕ) → (again j ≡ true) ↔ Repeated j
  again_says j =
      either_says (has_die (entry_at D.bytes k).die (entry_at D.bytes j)) (has_layout (layout_at D k) (entry_at D.bytes j))
      (has_die_says (entry_at D.bytes k).die (entry_at D.bytes j))
      (has_layout_says (layout_at D k) (entry_at D.bytes j))

  -- a record that passes is sound, and repeats no earlier one
  pub passed_sound : bad_record D.bytes k ≡ false → Sound (record_at D.bytes k)
  unfolding bad_record
  passed_sound e = good_sound bytes_at (neither_passes (is_bad (read_record bytes_at)) (repeats D.bytes k) e).0

  pub passed_first : bad_record D.bytes k ≡ false → (j : ℕ) → 1 ≤ j → j < k → ¬ Repeated j
  unfolding bad_record repeats
  passed_first e j low less h =
      true_not_false ((again_says j).1 h) (some_misses again (k - 1) (neither_passes (is_bad (read_record bytes_at)) (some (k - 1) again) e).1 j low (omega arith))

  -- and such a record passes
  pub sound_passed : Sound (record_at D.bytes k) → ((j : ℕ) → 1 ≤ j → j < k → ¬ Repeated j) → bad_record D.bytes k ≡ false
  unfolding bad_record repeats
  sound_passed s first = simp (sound_reads s, misses_some again (k - 1) never)
    where
      never : Misses again (k - 1)
      never j low high = at (tested (again j))
        where
          at : Tested (again j) → again j ≡ false
          at (passes e) = absurd (first j low (omega arith) ((again_says j).0 e))
          at (fails e) = e

  -- a record that passes is not bad
  passed_not_bad : bad_record D.bytes k ≡ false → ¬ Bad D k
  unfolding entry_at filling_in nth map_of
  passed_not_bad e (no_die z) = omega (arith, (passed_sound e).die)
  passed_not_bad e (out_of_bounds h) = h (passed_sound e).of_map.bounds
  passed_not_bad e (zero_byte h) = h (passed_sound e).zero_byte
  passed_not_bad e (filling p after other) =
      let from = 8 + 2 * (layout.n * layout.m) in
      let i = p - suc from in
      let is : p ≡ suc (from + i) = omega arith in
      other (rw is (sym (get_or-drop from bytes_at i 0) ∙ no_number (filling_in bytes_at) (passed_sound e).filling i))
  passed_not_bad e (no_map h) = h (passed_sound e).of_map
  passed_not_bad e (other_word h) = h (passed_sound e).signed
  passed_not_bad e (die_repeated j low less h) = passed_first e j low less (inl h)
  passed_not_bad e (layout_repeated j low less h) = passed_first e j low less (inr h)

  repeated_bad : repeats D.bytes k ≡ true → Bad D k
  unfolding repeats
  repeated_bad e =
      let f = some_found again (k - 1) e in
      let j = least (k - 1) again in
      let less : j < k = omega (arith, f.low, f.high) in
      ⊎_elim (λ h. die_repeated j f.low less h) (λ h. layout_repeated j f.low less h) ((again_says j).0 f.hit)

  bad_either : bad_record D.bytes k ≡ true → (is_bad (read_record bytes_at) ≡ true) ⊎ (repeats D.bytes k ≡ true)
  unfolding bad_record
  bad_either e = either_passes (is_bad (read_record bytes_at)) (repeats D.bytes k) e

  -- a record is bad exactly where the test finds it bad
  pub bad_says : (bad_record D.bytes k ≡ true) ↔ Bad D k
  bad_says = (λ e. to (bad_either e) bad_or_sound, back (tested (bad_record D.bytes k)))
    where
      to : (is_bad (read_record bytes_at) ≡ true) ⊎ (repeats D.bytes k ≡ true) → Bad D k ⊎ Sound bytes_at → Bad D k
      to (inl e) (inl b) = b
      to (inl e) (inr s) = absurd (true_not_false e (sound_reads s))
      to (inr e) h = repeated_bad e

      back : Tested (bad_record D.bytes k) → Bad D k → bad_record D.bytes k ≡ true
      back (passes e) b = e
      back (fails e) b = absurd (passed_not_bad e b)

-- a test of two bounds fails exactly when one of them is exceeded
pub bounds_fail : (a b c d : ℕ) → ((leb a b && leb c d) ≡ false) ↔ ((b < a) ⊎ (d < c))
bounds_fail a b c d = (to (tested (leb a b)), back (tested (leb a b)))
  where
    to : Tested (leb a b) → (leb a b && leb c d) ≡ false → (b < a) ⊎ (d < c)
    to (passes low) e = inr (leb-false c d (simp low at e))
    to (fails low) e = inl (leb-false a b low)

    back : Tested (leb a b) → (b < a) ⊎ (d < c) → (leb a b && leb c d) ≡ false
    back (fails low) h = simp low
    back (passes low) (inl over) = absurd (omega (arith, leb-true a b low))
    back (passes low) (inr over) = simp (low, lt-leb c d over)

pub drawer_shows : DrawerShows
unfolding DrawerShows drawer_lines drawer_answer judge_count judge_records
drawer_shows D =
    shows_then _ (shows_unless 13 _ (omega arith) (bounds_fail D.count most_records (D.count * record_size) (length D.bytes)))
    (λ c.
    shows_last
    (shows_least (record { number = 14; Holds = λ k. IsRecord D k × Bad D k }) D.count (bad_record D.bytes) (omega arith)
    (λ k. (
      λ h. (h.0.0, h.0.1, (bad_says D k).1 h.1),
      λ h. ((h.0, h.1), (bad_says D k).0 h.2),
    ))))

module _ (D : Drawer) where
  -- record k has the layout, or the die
  pub layout_says : (l : Given) (k : ℕ) → (has_layout l (entry_at D.bytes k) ≡ true) ↔ (layout_at D k ≡ l)
  layout_says l k = has_layout_says l (entry_at D.bytes k)

  -- the record sought is there, or it is none
  pub record_of_found : (l : Given) → 1 ≤ record_of l D → IsRecord D (record_of l D) × (layout_at D (record_of l D) ≡ l)
  unfolding record_of
  record_of_found l some-record =
      let f = least_found (λ k. has_layout l (entry_at D.bytes k)) D.count some-record in
      ((f.low, f.high), (layout_says l (record_of l D)).0 f.hit)

  pub record_of_none : (l : Given) → record_of l D ≡ 0 → (k : ℕ) → IsRecord D k → ¬ (layout_at D k ≡ l)
  unfolding record_of
  record_of_none l none k at-k is =
      true_not_false ((layout_says l k).1 is) (least_none (λ k. has_layout l (entry_at D.bytes k)) D.count none k at-k.0 at-k.1)

  pub record_of_die_none : (die : ℕ) → record_of_die die D ≡ 0 → (k : ℕ) → IsRecord D k → ¬ ((entry_at D.bytes k).die ≡ die)
  unfolding record_of_die
  record_of_die_none die none k at-k is =
      true_not_false ((has_die_says die (entry_at D.bytes k)).1 is) (least_none (λ k. has_die die (entry_at D.bytes k)) D.count none k at-k.0 at-k.1)

  not_found : (l : Given) → (leb 1 (record_of l D) ≡ false) ↔ (¬ ((k : ℕ) × IsRecord D k × (layout_at D k ≡ l)))
  not_found l = (
    λ e h. record_of_none l (let z = leb-false 1 (record_of l D) e in omega arith) h.0 h.1 h.2,
    back (tested (leb 1 (record_of l D))),
  )
    where
      back : Tested (leb 1 (record_of l D)) → ¬ ((k : ℕ) × IsRecord D k × (layout_at D k ≡ l)) → leb 1 (record_of l D) ≡ false
      back (fails e) h = e
      back (passes e) h = let f = record_of_found l (leb-true 1 (record_of l D) e) in absurd (h (record_of l D, f.0, f.1))

module _ (g : Given) (D : Drawer) where
  judge_search_shows : Shows (search_lines g D) (judge_search g D)
  unfolding search_lines judge_search CheckShows DrawerShows
  judge_search_shows =
      shows_then _ (check_shows g)
      (λ c.
      shows_then _ (drawer_shows D)
      (λ d. shows_last (shows_unless 15 _ (omega arith) (not_found D (layout_of g)))))

  pub judge_search_whole : accepts (judge_search g D) ≡ true → judge_search g D ≡ accepted
  unfolding judge_search
  judge_search_whole e = in_order-accepts _ e

pub search_shows : SearchShows
unfolding SearchShows search_answer accepts accepted refused
search_shows g D = at (tested (accepts (judge_search g D)))
  where
    at : Tested (accepts (judge_search g D)) → Shows (search_lines g D) (refused (search_answer g D).number (search_answer g D).place)
    at (passes e) = simp (e, e) (rw (judge_search_whole g D e) at (judge_search_shows g D))
    at (fails e) = simp (e, e) (judge_search_shows g D)

pub search_numbers : SearchNumbers
unfolding SearchNumbers SearchShows search_lines drawer_lines check_lines table_lines shape_lines room_lines map_lines entry_lines has_number refused
search_numbers g D = shows_without 4 (omega arith) refl (search_shows g D)

module _ (die : ℕ) (g : Given) (D : Drawer) where
  -- the lines of filing after the drawer check
  abbrev die_line : Line
  die_line = record { number = 16; Holds = λ k. ((k ≡ 0) × (die ≡ 0)) ⊎ (IsRecord D k × ((entry_at D.bytes k).die ≡ die)) }

  abbrev layout_line : Line
  layout_line = record { number = 17; Holds = λ k. IsRecord D k × (layout_at D k ≡ layout_of g) }

  -- 16: two verdicts, and one line
  die_shows : {ks : List Line} (vs : List Verdict) → (Clear (die_line ∷ []) → Shows ks (in_order vs)) → Shows (die_line ∷ ks) (in_order (unless (leb 1 die) 16 0 ∷ at_least 16 (record_of_die die D) ∷ vs))
  unfolding record_of_die
  die_shows {ks} vs next = at (tested (leb 1 die))
    where
      filed : 1 ≤ die → (k : ℕ) → die_line.Holds k ↔ (1 ≤ k) × (k ≤ D.count) × (has_die die (entry_at D.bytes k) ≡ true)
      filed some_die k = (
        λ h. ⊎_elim (λ z. absurd (omega arith)) (λ r. (r.0.0, r.0.1, (has_die_says die (entry_at D.bytes k)).1 r.1)) h,
        λ h. inr ((h.0, h.1), (has_die_says die (entry_at D.bytes k)).0 h.2),
      )

      at : Tested (leb 1 die) → Shows (die_line ∷ ks) (in_order (unless (leb 1 die) 16 0 ∷ at_least 16 (record_of_die die D) ∷ vs))
      at (fails e) =
          let none : die ≡ 0 = omega (arith, leb-false 1 die e) in
          rw (in_order_first (unless (leb 1 die) 16 0) (at_least 16 (record_of_die die D) ∷ vs) 16 0 (omega arith) (unless_refused (leb 1 die) 16 0 e))
          (here {l = die_line} (omega arith) (inl (refl, none)) (λ q less. absurd (omega arith)))
      at (passes e) =
          rw (in_order_passed (unless (leb 1 die) 16 0) (at_least 16 (record_of_die die D) ∷ vs) (unless-accepts (leb 1 die) 16 0 (omega arith) ∙ e))
          (shows_then vs (shows_least die_line D.count (λ k. has_die die (entry_at D.bytes k)) (omega arith) (filed (leb-true 1 die e))) next)

  layout_shows : Shows (layout_line ∷ []) (at_least 17 (record_of (layout_of g) D))
  unfolding record_of
  layout_shows =
      shows_least layout_line D.count (λ k. has_layout (layout_of g) (entry_at D.bytes k)) (omega arith)
      (λ k. (
        λ h. (h.0.0, h.0.1, (layout_says D (layout_of g) k).1 h.1),
        λ h. ((h.0, h.1), (layout_says D (layout_of g) k).0 h.2),
      ))

  -- the count is not above 1,024 where 13 is silent
  count_most : Clear (drawer_lines D) → D.count ≤ most_records
  unfolding drawer_lines
  count_most (past silent c) = let not-over : ¬ (most_records < D.count) = λ h. silent 0 (refl, inl h) in omega arith

  room_fails : D.count ≤ most_records → ((leb (D.count + 1) most_records && leb ((D.count + 1) * record_size) (length D.bytes)) ≡ false) ↔ ((D.count ≡ most_records) ⊎ (length D.bytes < (D.count + 1) * record_size))
  room_fails most =
      let f = bounds_fail (D.count + 1) most_records ((D.count + 1) * record_size) (length D.bytes) in (
        λ e. ⊎_elim (λ h. inl (omega arith)) (λ h. inr h) (f.0 e),
        λ h. f.1 (⊎_elim (λ e. inl (omega arith)) (λ l. inr l) h),
      )

  judge_filing_shows : Shows (filing_lines die g D) (judge_filing die g D)
  unfolding filing_lines judge_next judge_filing CheckShows DrawerShows
  judge_filing_shows =
      shows_then _ (check_shows g)
      (λ c.
      shows_then _ (drawer_shows D)
      (λ d.
      die_shows _
      (λ e.
      shows_then _ layout_shows
      (λ f. shows_last (shows_unless 18 _ (omega arith) (room_fails (count_most d)))))))

  pub judge_filing_whole : accepts (judge_filing die g D) ≡ true → judge_filing die g D ≡ accepted
  unfolding judge_next judge_filing
  judge_filing_whole e = in_order-accepts _ e

pub filing_shows : FilingShows
unfolding FilingShows filing_answer accepts accepted refused
filing_shows die g D = at (tested (accepts (judge_filing die g D)))
  where
    at : Tested (accepts (judge_filing die g D)) → Shows (filing_lines die g D) (refused (filing_answer die g D).number (filing_answer die g D).place)
    at (passes e) = simp (e, e) (rw (judge_filing_whole die g D e) at (judge_filing_shows die g D))
    at (fails e) = simp (e, e) (judge_filing_shows die g D)

pub filing_numbers : FilingNumbers
unfolding FilingNumbers FilingShows filing_lines drawer_lines check_lines table_lines shape_lines room_lines map_lines entry_lines has_number refused
filing_numbers die g D = shows_without 4 (omega arith) refl (filing_shows die g D)
