-- What an accepted filing leaves (`specs/Drawer.antt`): the next record, and every other byte as it was.
--     Passed, filing_passed                   what an accepted filing has passed
--     answer_accepts, answer_refuses          number 0 says that it is accepted
--     record_at_front, record_at_seam, record_at_cut
--                                             a record of the first of two lists, the one after it, and one before a cut
--     written, written_..                     bytes with a record written over them
--     filed_bytes_lem, filed_count, kept_..   what an accepted filing leaves
--     stays_good                              a good drawer
--     refused_bytes                           what a refused one leaves
-- Assumes nothing.
use Prim.Native.Nat.{ℕ, zero, suc, ◌+◌, ◌-◌, ◌*◌, ◌≤◌, ◌<◌}
use mathlib.Core.Path.{◌≡◌, refl, sym, ap, ◌∙◌}
use mathlib.Core.Bool.{true, false}
use mathlib.Core.List.{List, ◌++◌, append_assoc}
use mathlib.Core.Logic.{◌⊎◌, inl, inr, ⊎_elim}
use native.Mathlib.Omega.{arith}
use native.Mathlib.Nat.{suc-mul, mul-le-mul_right, eq-or-lt_of_le}
use native.Mathlib.Numerals.{add-one}
use borrow.Author.Tests.{leb-true, eqb-true, eq-eqb}
use lib.Dec.{leb, eqb}
use lib.Seq.{get_or-take, get_or-drop, get_or-append-add, length-take-le, take-append-le, drop-append-le, take_at, drop_at}
use lib.ListN.{length, take, drop, get_or, length-append, length-drop, take-append-drop, get_or-append}
use Rattle.maps.specs.Least.{nth}
use Rattle.maps.specs.Given.{Given, map_of}
use Rattle.maps.specs.Verdict.{accepted, accepts, at_least}
use Rattle.maps.proofs.Least.{Tested, passes, fails, tested}
use Rattle.maps.proofs.Verdict.{unless-accepts}
use Rattle.maps.proofs.Lines.{both_pass}
use Rattle.labels.specs.Judging.{check_answer}
use Rattle.labels.specs.Theorems.{CheckAccepts}
use Rattle.labels.proofs.Theorems.{check_accepts}
use Rattle.labels.proofs.Judging.{check_whole}
use Rattle.words.proofs.Sign.{length-signature}
use Rattle.drawer.specs.Record.{Filed, record_size, record_bytes, filed_in}
use Rattle.drawer.specs.Drawer.{Drawer, drawer, most_records, record_at, entry_at, bad_record, drawer_answer, layout_of, record_of, record_of_die, judge_next, judge_filing, filing_answer, filed_bytes}
use Rattle.drawer.specs.Lines.{IsRecord}
use Rattle.drawer.specs.Theorems.{Elsewhere}
use Rattle.drawer.proofs.Record.{length_record_bytes, filed_in_record_bytes}
use Rattle.drawer.proofs.Readings.{Sound, filing_fits, signed_sound}
use Rattle.drawer.proofs.Lines.{passed_sound, passed_first, sound_passed, record_of_none, record_of_die_none}
use Rattle.drawer.proofs.Drawer.{in_order_both, unless_holds, drawer_whole, GoodDrawer, check_good}

at_least_none : (k p : ℕ) → 1 ≤ k → accepts (at_least k p) ≡ true → p ≡ 0
unfolding at_least
at_least_none k p low e = eqb-true p 0 (sym (unless-accepts (eqb p 0) k p low) ∙ e)

-- what an accepted filing has passed
pub record Passed (die : ℕ) (g : Given) (D : Drawer) : Type 0 where
  pub checked : check_answer g ≡ accepted
  pub fine : drawer_answer D ≡ accepted
  pub some_die : 1 ≤ die
  pub new_die : record_of_die die D ≡ 0
  pub new_layout : record_of (layout_of g) D ≡ 0
  pub few : D.count + 1 ≤ most_records
  pub room : (D.count + 1) * record_size ≤ length D.bytes

module _ (die : ℕ) (g : Given) (D : Drawer) where
  pub filing_passed : accepts (judge_filing die g D) ≡ true → Passed die g D
  unfolding judge_next judge_filing
  filing_passed e =
      let a = in_order_both _ _ e in
      let b = in_order_both _ _ a.1 in
      let c = in_order_both _ _ b.1 in
      let d = in_order_both _ _ c.1 in
      let f = in_order_both _ _ d.1 in
      let h = in_order_both _ _ f.1 in
      let bounds = both_pass (leb (D.count + 1) most_records) (leb ((D.count + 1) * record_size) (length D.bytes)) (unless_holds _ 18 0 (omega arith) h.0) in
      record {
        checked = check_whole g a.0;
        fine = drawer_whole D b.0;
        some_die = leb-true 1 die (unless_holds (leb 1 die) 16 0 (omega arith) c.0);
        new_die = at_least_none 16 (record_of_die die D) (omega arith) d.0;
        new_layout = at_least_none 17 (record_of (layout_of g) D) (omega arith) f.0;
        few = leb-true (D.count + 1) most_records bounds.0;
        room = leb-true ((D.count + 1) * record_size) (length D.bytes) bounds.1;
      }

  -- number 0 says that it is accepted
  pub answer_accepts : (filing_answer die g D).number ≡ 0 → accepts (judge_filing die g D) ≡ true
  unfolding filing_answer accepts
  answer_accepts is = at (tested (accepts (judge_filing die g D)))
    where
      at : Tested (accepts (judge_filing die g D)) → accepts (judge_filing die g D) ≡ true
      at (passes e) = e
      at (fails e) = eq-eqb (judge_filing die g D).number 0 (simp e at is)

  pub answer_refuses : ¬ ((filing_answer die g D).number ≡ 0) → accepts (judge_filing die g D) ≡ false
  unfolding filing_answer accepts
  answer_refuses other = at (tested (accepts (judge_filing die g D)))
    where
      at : Tested (accepts (judge_filing die g D)) → accepts (judge_filing die g D) ≡ false
      at (passes e) = absurd (other (simp e))
      at (fails e) = e

-- a record of the first of two lists
pub record_at_front : (xs ys : List ℕ) (k : ℕ) → 1 ≤ k → k * record_size ≤ length xs → record_at (xs ++ ys) k ≡ record_at xs k
unfolding record_at
record_at_front xs ys k low within =
    let k-is : k ≡ suc (k - 1) = omega arith in
    let ends : (k - 1) * record_size + record_size ≤ length xs = omega (arith, within, ap (λ (j : ℕ). j * record_size) k-is, suc-mul (k - 1) record_size) in
    let rest : record_size ≤ length (drop ((k - 1) * record_size) xs) = rw length-drop (omega arith) in
    rw (drop-append-le ((k - 1) * record_size) xs ys (omega arith)) (take-append-le record_size (drop ((k - 1) * record_size) xs) ys rest)

-- and the one after it
pub record_at_seam : (xs r ys : List ℕ) (c : ℕ) → length xs ≡ c * record_size → length r ≡ record_size → record_at (xs ++ r ++ ys) (c + 1) ≡ r
unfolding record_at
record_at_seam xs r ys c long size =
    let c-is : c + 1 - 1 ≡ c = omega arith in
    rw (c-is, append_assoc xs r ys, drop_at xs (r ++ ys) (c * record_size) long) (take_at r ys record_size size)

-- a record before the place where a list is cut
pub record_at_cut : (bytes ys : List ℕ) (c k : ℕ) → c * record_size ≤ length bytes → 1 ≤ k → k ≤ c → record_at (take (c * record_size) bytes ++ ys) k ≡ record_at bytes k
record_at_cut bytes ys c k within low high =
    let cut : length (take (c * record_size) bytes) ≡ c * record_size = length-take-le (c * record_size) bytes within in
    let ends : k * record_size ≤ length (take (c * record_size) bytes) = rw cut (mul-le-mul_right record_size high) in
    record_at_front (take (c * record_size) bytes) ys k low ends
    ∙ sym (record_at_front (take (c * record_size) bytes) (drop (c * record_size) bytes) k low ends)
    ∙ ap (λ (b : List ℕ). record_at b k) (take-append-drop (c * record_size) bytes)

-- the bytes with record c + 1 written over them
abbrev pub written : List ℕ → ℕ → List ℕ → List ℕ
written bytes c r = take (c * record_size) bytes ++ r ++ drop ((c + 1) * record_size) bytes

module _ (bytes r : List ℕ) (c : ℕ) (room : (c + 1) * record_size ≤ length bytes) (size : length r ≡ record_size) where
  next_record : (c + 1) * record_size ≡ c * record_size + record_size
  next_record = rw add-one (omega (arith, suc-mul c record_size))

  cut_long : length (take (c * record_size) bytes) ≡ c * record_size
  cut_long = length-take-le (c * record_size) bytes (omega (arith, next_record))

  head_long : length (take (c * record_size) bytes ++ r) ≡ (c + 1) * record_size
  head_long = rw (length-append, cut_long, size) (sym next_record)

  pub written_long : length (written bytes c r) ≡ length bytes
  written_long = rw (length-append, head_long, length-drop) (omega arith)

  pub written_next : record_at (written bytes c r) (c + 1) ≡ r
  written_next = record_at_seam (take (c * record_size) bytes) r (drop ((c + 1) * record_size) bytes) c cut_long size

  pub written_before : (k : ℕ) → 1 ≤ k → k ≤ c → record_at (written bytes c r) k ≡ record_at bytes k
  written_before k low high =
      rw (append_assoc (take (c * record_size) bytes) r (drop ((c + 1) * record_size) bytes))
      (record_at_cut bytes (r ++ drop ((c + 1) * record_size) bytes) c k (omega (arith, next_record)) low high)

  pub written_elsewhere : (p : ℕ) → (p ≤ c * record_size) ⊎ ((c + 1) * record_size < p) → nth (written bytes c r) p ≡ nth bytes p
  unfolding nth
  written_elsewhere zero h = refl
  written_elsewhere (suc p) (inl before) =
      rw (append_assoc (take (c * record_size) bytes) r (drop ((c + 1) * record_size) bytes))
      (get_or-append (take (c * record_size) bytes) (r ++ drop ((c + 1) * record_size) bytes) 0 p (rw cut_long before)
      ∙ get_or-take (c * record_size) bytes p 0 before)
  written_elsewhere (suc p) (inr beyond) =
      let i = p - (c + 1) * record_size in
      let p-is : p ≡ (c + 1) * record_size + i = omega arith in
      let at_i : p ≡ length (take (c * record_size) bytes ++ r) + i = rw head_long p-is in
      ap (λ (j : ℕ). get_or (written bytes c r) j 0) at_i
      ∙ get_or-append-add (take (c * record_size) bytes ++ r) (drop ((c + 1) * record_size) bytes) i 0
      ∙ get_or-drop ((c + 1) * record_size) bytes i 0
      ∙ ap (λ (j : ℕ). get_or bytes j 0) (sym p-is)

-- two entries have the die number or the layout in common
abbrev Alike : Filed → Filed → Type 0
Alike a b = (a.die ≡ b.die) ⊎ (a.layout ≡ b.layout)

alike_same : {a a' b b' : Filed} → a ≡ a' → b ≡ b' → Alike a b → Alike a' b'
alike_same p q (inl e) = inl (sym (ap (λ (f : Filed). f.die) p) ∙ e ∙ ap (λ (f : Filed). f.die) q)
alike_same p q (inr e) = inr (sym (ap (λ (f : Filed). f.layout) p) ∙ e ∙ ap (λ (f : Filed). f.layout) q)

module _ (die : ℕ) (g : Given) (D : Drawer) (e : accepts (judge_filing die g D) ≡ true) where
  abbrev f : Filed
  f = record { die = die; layout = layout_of g }

  abbrev filing : Passed die g D
  filing = filing_passed die g D e

  pub filed_bytes_lem : filed_bytes die g D ≡ written D.bytes D.count (record_bytes f)
  unfolding filed_bytes
  filed_bytes_lem = simp e

  pub filed_long : length (record_bytes f) ≡ record_size
  unfolding layout_of CheckAccepts map_of
  filed_long =
      let a = ((check_accepts g).0 filing.checked).1 in
      length_record_bytes f (length-signature a) a.bounds.table_most

  pub kept_long : length (filed_bytes die g D) ≡ length D.bytes
  kept_long = rw filed_bytes_lem (written_long D.bytes (record_bytes f) D.count filing.room filed_long)

  pub kept_next : record_at (filed_bytes die g D) (D.count + 1) ≡ record_bytes f
  kept_next = rw filed_bytes_lem (written_next D.bytes (record_bytes f) D.count filing.room filed_long)

  pub kept_before : (k : ℕ) → IsRecord D k → record_at (filed_bytes die g D) k ≡ record_at D.bytes k
  kept_before k there = rw filed_bytes_lem (written_before D.bytes (record_bytes f) D.count filing.room filed_long k there.0 there.1)

  pub kept_elsewhere : (p : ℕ) → Elsewhere D p → nth (filed_bytes die g D) p ≡ nth D.bytes p
  kept_elsewhere p h = rw filed_bytes_lem (written_elsewhere D.bytes (record_bytes f) D.count filing.room filed_long p h)

  pub filed_count : (filing_answer die g D).count ≡ D.count + 1
  unfolding filing_answer
  filed_count = simp e

  -- the drawer afterwards
  abbrev D' : Drawer
  D' = drawer (D.count + 1) (filed_bytes die g D)

  entry_before : (k : ℕ) → IsRecord D k → entry_at (filed_bytes die g D) k ≡ entry_at D.bytes k
  unfolding entry_at
  entry_before k there = ap filed_in (kept_before k there)

  module _ (fits : die ≤ 4294967295) where
    next_sound : Sound (record_at (filed_bytes die g D) (D.count + 1))
    unfolding layout_of CheckAccepts map_of
    next_sound = rw kept_next (signed_sound ((check_accepts g).0 filing.checked).1 die filing.some_die fits)

    pub entry_next : entry_at (filed_bytes die g D) (D.count + 1) ≡ f
    unfolding entry_at layout_of CheckAccepts map_of
    entry_next = rw kept_next (filed_in_record_bytes f (filing_fits ((check_accepts g).0 filing.checked).1 die fits))

    before_good : (k : ℕ) → IsRecord D k → bad_record (filed_bytes die g D) k ≡ false
    before_good k there =
        let good = (check_good D filing.fine).each k there in
        sound_passed D' k (rw (kept_before k there) (passed_sound D k good))
        (λ j low less h. passed_first D k good j low less (alike_same (entry_before j (low, omega (arith, there.1))) (entry_before k there) h))

    next_good : bad_record (filed_bytes die g D) (D.count + 1) ≡ false
    next_good = sound_passed D' (D.count + 1) next_sound never
      where
        fresh : (j : ℕ) → IsRecord D j → ¬ Alike (entry_at D.bytes j) f
        fresh j there (inl same) = record_of_die_none D die filing.new_die j there same
        fresh j there (inr same) = record_of_none D (layout_of g) filing.new_layout j there same

        never : (j : ℕ) → 1 ≤ j → j < D.count + 1 → ¬ Alike (entry_at (filed_bytes die g D) j) (entry_at (filed_bytes die g D) (D.count + 1))
        never j low less h =
            let there : IsRecord D j = (low, omega arith) in
            fresh j there (alike_same (entry_before j there) entry_next h)

    pub stays_good : GoodDrawer (drawer (D.count + 1) (filed_bytes die g D))
    stays_good = record { few = filing.few; within = rw kept_long filing.room; each = each }
      where
        each : (k : ℕ) → IsRecord D' k → bad_record (filed_bytes die g D) k ≡ false
        each k there = ⊎_elim (λ is. rw is next_good) (λ less. before_good k (there.0, omega arith)) (eq-or-lt_of_le there.1)

pub refused_bytes : (die : ℕ) (g : Given) (D : Drawer) → accepts (judge_filing die g D) ≡ false → filed_bytes die g D ≡ D.bytes
unfolding filed_bytes
refused_bytes die g D e = simp e
