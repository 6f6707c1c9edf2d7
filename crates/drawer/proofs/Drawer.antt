-- The laws of `specs/Drawer.antt`: what a good drawer is, and what search and filing do with one.
--     in_order_both, unless_holds           verdicts that accept, one by one
--     GoodDrawer                            what the drawer check asks, record by record
--     check_good, good_check                it accepts exactly where that holds
--     accepts_each                          so no record of it is bad
--     layout_matched, matched_layout        a record of a good drawer has the layout of a map exactly where the two have a matching
--     layout_once                           no layout stands in two records
--     search_found, search_none             what search answers
--     search_tells, matches_once, search_fifteen
--                                           in the words of matchings
--     own_bytes_lem                         the bytes that it hands back
-- Assumes nothing.
use Prim.Native.Nat.{ℕ, suc, ◌+◌, ◌-◌, ◌*◌, ◌≤◌, ◌<◌}
use mathlib.Core.Path.{◌≡◌, refl, sym, ap, ◌∙◌}
use mathlib.Core.Bool.{Bool, true, false}
use mathlib.Core.List.{List, [], ◌∷◌}
use mathlib.Core.Logic.{◌↔◌, ◌⊎◌, inl, inr}
use native.Mathlib.Omega.{arith}
use native.Mathlib.Nat.{eq-zero-or-pos, suc-mul, mul-le-mul_right}
use borrow.Author.Tests.{le-leb, leb-true, eq-eqb}
use lib.Dec.{leb}
use lib.Seq.{length-take-le}
use lib.ListN.{length, drop, length-drop}
use Rattle.maps.specs.Accepted.{Accepted}
use Rattle.maps.specs.Matching.{Matched}
use Rattle.maps.specs.Given.{Given, lent, map_of}
use Rattle.maps.specs.Verdict.{Verdict, accepted, refused, accepts, unless, in_order}
use Rattle.maps.proofs.Least.{Tested, passes, fails, tested, true_not_false}
use Rattle.maps.proofs.Verdict.{in_order-accepts, in_order_passed, in_order_refused, in_order_one, unless_passed, unless-accepts}
use Rattle.maps.proofs.Lines.{Clear, clear, past, shows_clear, clear_shows, plain_silent}
use Rattle.labels.specs.Judging.{check_answer}
use Rattle.labels.specs.Theorems.{CheckAccepts}
use Rattle.labels.proofs.Theorems.{check_accepts}
use Rattle.words.specs.Words.{signature}
use Rattle.words.specs.Theorems.{SignatureTells}
use Rattle.words.proofs.Theorems.{signature_tells}
use Rattle.drawer.specs.Record.{record_size}
use Rattle.drawer.specs.Drawer.{Drawer, most_records, record_at, entry_at, bad_record, drawer_answer, layout_of, record_of, SearchAnswer, judge_search, search_answer, own_bytes}
use Rattle.drawer.specs.Lines.{IsRecord, layout_at, Bad, drawer_lines, DrawerShows}
use Rattle.drawer.specs.Theorems.{found, MatchesRecord}
use Rattle.drawer.proofs.Readings.{Sound}
use Rattle.drawer.proofs.Lines.{bad_says, passed_sound, passed_first, drawer_shows, record_of_found, record_of_none}

-- a list of verdicts that accepts
pub in_order_both : (v : Verdict) (vs : List Verdict) → accepts (in_order (v ∷ vs)) ≡ true → (accepts v ≡ true) × (accepts (in_order vs) ≡ true)
in_order_both v vs e = at (tested (accepts v))
  where
    at : Tested (accepts v) → (accepts v ≡ true) × (accepts (in_order vs) ≡ true)
    at (passes a) = (a, sym (ap accepts (in_order_passed v vs a)) ∙ e)
    at (fails a) = absurd (true_not_false (sym (ap accepts (in_order_refused v vs a)) ∙ e) a)

pub unless_holds : (b : Bool) (k p : ℕ) → 1 ≤ k → accepts (unless b k p) ≡ true → b ≡ true
unless_holds b k p low e = sym (unless-accepts b k p low) ∙ e

pub drawer_whole : (D : Drawer) → accepts (drawer_answer D) ≡ true → drawer_answer D ≡ accepted
unfolding drawer_answer
drawer_whole D e = in_order-accepts _ e

-- what the drawer check asks, record by record
pub record GoodDrawer (D : Drawer) : Type 0 where
  pub few : D.count ≤ most_records
  pub within : D.count * record_size ≤ length D.bytes
  pub each : (k : ℕ) → IsRecord D k → bad_record D.bytes k ≡ false

module _ (D : Drawer) where
  pub check_good : drawer_answer D ≡ accepted → GoodDrawer D
  unfolding DrawerShows drawer_lines
  check_good is = to (shows_clear (drawer_shows D) is)
    where
      fine : (k : ℕ) → ¬ (IsRecord D k × Bad D k) → IsRecord D k → Tested (bad_record D.bytes k) → bad_record D.bytes k ≡ false
      fine k silent there (passes e) = absurd (silent (there, (bad_says D k).0 e))
      fine k silent there (fails e) = e

      to : Clear (drawer_lines D) → GoodDrawer D
      to (past counts (past records clear)) =
          let not-many : ¬ (most_records < D.count) = λ h. counts 0 (refl, inl h) in
          let not-past : ¬ (length D.bytes < D.count * record_size) = λ h. counts 0 (refl, inr h) in
          record {
            few = omega arith;
            within = omega arith;
            each = λ k there. fine k (records k) there (tested (bad_record D.bytes k));
          }

  pub good_check : GoodDrawer D → drawer_answer D ≡ accepted
  unfolding DrawerShows drawer_lines
  good_check h =
      clear_shows (drawer_shows D)
      (past (plain_silent counts) (past (λ k b. true_not_false ((bad_says D k).1 b.1) (h.each k b.0)) clear))
    where
      counts : ¬ ((most_records < D.count) ⊎ (length D.bytes < D.count * record_size))
      counts (inl many) = omega (arith, h.few)
      counts (inr long) = omega (arith, h.within)

  pub accepts_each : (drawer_answer D ≡ accepted) ↔ (D.count ≤ most_records) × (D.count * record_size ≤ length D.bytes) × ((k : ℕ) → IsRecord D k → ¬ Bad D k)
  accepts_each = (to, back)
    where
      to : drawer_answer D ≡ accepted → (D.count ≤ most_records) × (D.count * record_size ≤ length D.bytes) × ((k : ℕ) → IsRecord D k → ¬ Bad D k)
      to is =
          let h = check_good is in
          (h.few, h.within, λ k there b. true_not_false ((bad_says D k).1 b) (h.each k there))

      fine : (k : ℕ) → ¬ Bad D k → Tested (bad_record D.bytes k) → bad_record D.bytes k ≡ false
      fine k never (passes e) = absurd (never ((bad_says D k).0 e))
      fine k never (fails e) = e

      back : (D.count ≤ most_records) × (D.count * record_size ≤ length D.bytes) × ((k : ℕ) → IsRecord D k → ¬ Bad D k) → drawer_answer D ≡ accepted
      back h = good_check (record { few = h.0; within = h.1; each = λ k there. fine k (h.2 k there) (tested (bad_record D.bytes k)) })

module _ {D : Drawer} (h : GoodDrawer D) where
  pub record_sound : (k : ℕ) → IsRecord D k → Sound (record_at D.bytes k)
  record_sound k there = passed_sound D k (h.each k there)

  -- no layout stands in two records
  layout_not_before : (j k : ℕ) → IsRecord D j → IsRecord D k → layout_at D j ≡ layout_at D k → ¬ (j < k)
  layout_not_before j k at_j at-k is less = passed_first D k (h.each k at-k) j at_j.0 less (inr is)

  pub layout_once : (j k : ℕ) → IsRecord D j → IsRecord D k → layout_at D j ≡ layout_at D k → j ≡ k
  layout_once j k at_j at-k is =
      let not-less = layout_not_before j k at_j at-k is in
      let not_more = layout_not_before k j at-k at_j (sym is) in
      omega arith

  module _ (g : Given) (a : Accepted (map_of g)) (k : ℕ) (there : IsRecord D k) where
    -- a record's own table is its signature
    pub layout_matched : layout_at D k ≡ layout_of g → Matched (map_of g) (map_of (layout_at D k))
    unfolding SignatureTells entry_at layout_of map_of
    layout_matched is =
        let s = record_sound k there in
        (signature_tells (map_of g) (map_of (layout_at D k)) a s.of_map).0 (
          sym (ap (λ (l : Given). l.n) is),
          sym (ap (λ (l : Given). l.m) is),
          sym (ap (λ (l : Given). l.table) is) ∙ s.signed,
        )

    pub matched_layout : Matched (map_of g) (map_of (layout_at D k)) → layout_at D k ≡ layout_of g
    unfolding SignatureTells entry_at layout_of map_of
    matched_layout m =
        let s = record_sound k there in
        let same = (signature_tells (map_of g) (map_of (layout_at D k)) a s.of_map).1 m in
        let table : (layout_at D k).table ≡ signature (map_of g) = s.signed ∙ sym same.2 in
        λ i. lent (sym same.0 i) (sym same.1 i) (table i)

module _ (g : Given) (D : Drawer) (checked : check_answer g ≡ accepted) (fine : drawer_answer D ≡ accepted) where
  -- search comes to 15
  judge_search_last : judge_search g D ≡ unless (leb 1 (record_of (layout_of g) D)) 15 0
  unfolding judge_search in_order accepts accepted unless
  judge_search_last =
      let b = leb 1 (record_of (layout_of g) D) in
      rw (checked, fine) (in_order_one (unless b 15 0) (λ e. unless_passed b 15 0 (sym (unless-accepts b 15 0 (omega arith)) ∙ e)))

  pub search_found : 1 ≤ record_of (layout_of g) D → search_answer g D ≡ found (record_of (layout_of g) D) (entry_at D.bytes (record_of (layout_of g) D)).die
  unfolding search_answer accepts accepted unless
  search_found some-record = simp (judge_search_last, le-leb 1 (record_of (layout_of g) D) some-record)

  pub search_none : record_of (layout_of g) D ≡ 0 → search_answer g D ≡ record { number = 15; place = 0; die = 0; at = 0 }
  unfolding search_answer accepts accepted refused unless
  search_none none = simp (judge_search_last, none)

  -- the record that search finds is the one whose layout has a matching with the map
  module _ (k : ℕ) where
    answers_matches : (x : ℕ) → search_answer g D ≡ found k x → MatchesRecord g D k × ((entry_at D.bytes k).die ≡ x)
    unfolding CheckAccepts
    answers_matches x is = at (eq-zero-or-pos (record_of (layout_of g) D))
      where
        at : (record_of (layout_of g) D ≡ 0) ⊎ (0 < record_of (layout_of g) D) → MatchesRecord g D k × ((entry_at D.bytes k).die ≡ x)
        at (inl none) = let z : ◌≡◌ {A = ℕ} 15 0 = ap (λ (a : SearchAnswer). a.number) (sym (search_none none) ∙ is) in absurd (omega arith)
        at (inr some-record) =
            let same = sym (search_found some-record) ∙ is in
            let k-is : record_of (layout_of g) D ≡ k = ap (λ (a : SearchAnswer). a.at) same in
            let x-is : (entry_at D.bytes (record_of (layout_of g) D)).die ≡ x = ap (λ (a : SearchAnswer). a.die) same in
            let f : IsRecord D k × (layout_at D k ≡ layout_of g) = rw k-is at (record_of_found D (layout_of g) some-record) in
            ((f.0, layout_matched (check_good D fine) g ((check_accepts g).0 checked).1 k f.0 f.1), rw k-is at x-is)

    -- a record that has a matching is the one that search finds
    pub matches_found : MatchesRecord g D k → (1 ≤ record_of (layout_of g) D) × (record_of (layout_of g) D ≡ k)
    unfolding CheckAccepts
    matches_found m = at (eq-zero-or-pos (record_of (layout_of g) D))
      where
        is : layout_at D k ≡ layout_of g
        is = matched_layout (check_good D fine) g ((check_accepts g).0 checked).1 k m.0 m.1

        at : (record_of (layout_of g) D ≡ 0) ⊎ (0 < record_of (layout_of g) D) → (1 ≤ record_of (layout_of g) D) × (record_of (layout_of g) D ≡ k)
        at (inl none) = absurd (record_of_none D (layout_of g) none k m.0 is)
        at (inr some-record) =
            let f = record_of_found D (layout_of g) some-record in
            (some-record, layout_once (check_good D fine) (record_of (layout_of g) D) k f.0 m.0 (f.1 ∙ sym is))

    matches_answers : (x : ℕ) → MatchesRecord g D k × ((entry_at D.bytes k).die ≡ x) → search_answer g D ≡ found k x
    matches_answers x h =
        let m = matches_found h.0 in
        search_found m.0 ∙ rw (m.1, h.1)

    pub search_tells : (x : ℕ) → (search_answer g D ≡ found k x) ↔ MatchesRecord g D k × ((entry_at D.bytes k).die ≡ x)
    search_tells x = (answers_matches x, matches_answers x)

  pub matches_once : (j k : ℕ) → MatchesRecord g D j → MatchesRecord g D k → j ≡ k
  matches_once j k a b = sym (matches_found j a).1 ∙ (matches_found k b).1

  pub search_fifteen : ((search_answer g D).number ≡ 15) ↔ ((k : ℕ) → ¬ MatchesRecord g D k)
  search_fifteen = (to, back)
    where
      to : (search_answer g D).number ≡ 15 → (k : ℕ) → ¬ MatchesRecord g D k
      to is k m =
          let z : ◌≡◌ {A = ℕ} 15 0 = sym is ∙ ap (λ (a : SearchAnswer). a.number) (search_found (matches_found k m).0) in
          omega arith

      back : ((k : ℕ) → ¬ MatchesRecord g D k) → (search_answer g D).number ≡ 15
      back none = at (eq-zero-or-pos (record_of (layout_of g) D))
        where
          at : (record_of (layout_of g) D ≡ 0) ⊎ (0 < record_of (layout_of g) D) → (search_answer g D).number ≡ 15
          at (inl z) = ap (λ (a : SearchAnswer). a.number) (search_none z)
          at (inr some-record) = absurd (none (record_of (layout_of g) D) ((search_tells (record_of (layout_of g) D) _).0 (search_found some-record)).0)

-- a record inside the bytes is 2,048 bytes long
length-record_at : {D : Drawer} → GoodDrawer D → (k : ℕ) → IsRecord D k → length (record_at D.bytes k) ≡ record_size
unfolding record_at
length-record_at {D} h k there =
    let k-is : k ≡ suc (k - 1) = omega arith in
    let high : k * record_size ≤ D.count * record_size = mul-le-mul_right record_size there.1 in
    let ends : k * record_size ≡ (k - 1) * record_size + record_size = ap (λ (j : ℕ). j * record_size) k-is ∙ suc-mul (k - 1) record_size in
    length-take-le record_size (drop ((k - 1) * record_size) D.bytes) (rw length-drop (omega (arith, h.within)))

-- the bytes handed back
module _ (g : Given) (D : Drawer) where
  -- where search accepts, it has come to a record
  pub search_passed : accepts (judge_search g D) ≡ true → GoodDrawer D × (1 ≤ record_of (layout_of g) D)
  unfolding judge_search
  search_passed e =
      let k = record_of (layout_of g) D in
      let rest = (in_order_both (check_answer g) (drawer_answer D ∷ unless (leb 1 k) 15 0 ∷ []) e).1 in
      let last = in_order_both (drawer_answer D) (unless (leb 1 k) 15 0 ∷ []) rest in (
        check_good D (drawer_whole D last.0),
        leb-true 1 k (unless_holds (leb 1 k) 15 0 (omega arith) (in_order_both (unless (leb 1 k) 15 0) [] last.1).0),
      )

  pub own_accepted : accepts (judge_search g D) ≡ true → (own_bytes g D ≡ record_at D.bytes (search_answer g D).at) × (length (own_bytes g D) ≡ record_size)
  unfolding own_bytes search_answer
  own_accepted e =
      let h = search_passed e in
      let f = record_of_found D (layout_of g) h.1 in
      (simp (e, e), simp e (length-record_at h.0 (record_of (layout_of g) D) f.0))

  pub own_refused : accepts (judge_search g D) ≡ false → own_bytes g D ≡ []
  unfolding own_bytes
  own_refused e = simp e

  -- number 0 says that search accepts
  pub own_bytes_lem : ((search_answer g D).number ≡ 0 → (own_bytes g D ≡ record_at D.bytes (search_answer g D).at) × (length (own_bytes g D) ≡ record_size)) × (¬ ((search_answer g D).number ≡ 0) → own_bytes g D ≡ [])
  unfolding search_answer accepts
  own_bytes_lem = at (tested (accepts (judge_search g D)))
    where
      at : Tested (accepts (judge_search g D)) → ((search_answer g D).number ≡ 0 → (own_bytes g D ≡ record_at D.bytes (search_answer g D).at) × (length (own_bytes g D) ≡ record_size)) × (¬ ((search_answer g D).number ≡ 0) → own_bytes g D ≡ [])
      at (passes e) = (λ is. own_accepted e, λ other. absurd (other (simp e)))
      at (fails e) = (λ is. absurd (true_not_false (eq-eqb (judge_search g D).number 0 (simp e at is)) e), λ other. own_refused e)
