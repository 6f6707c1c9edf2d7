-- The laws of `specs/Answer.antt` and `specs/Shown.antt`: what `judge` answers, and β0 found dart by dart.
--     refusal_only, verdict_only          a refusal, an answer, is told by what it shows
--     refusal_low, refusal_high, refusal_refuses
--                                         a refusal shows a number from 1 to 9
--     refusal_at, refusal_back, judged_of
--                                         the refusal, the answer, that shows a number at a place
--     Answered shown v                    some answer shows the verdict v: it accepts, at place 0, or is what a refusal shows
--     AllAnswered, answered_in_order      so of a list of verdicts, and the first of them that refuses
--     answered_unless, answered_at_least  so a verdict by a test, or by the least wrong place, whose refusal is shown
--     answered_as, answered_second        so what other refusals show too, and the verdict on a second map
--     shape_answered, output_answered, entries_answered, sewing_answered
--                                         so the verdicts of the rules 1 to 8
--     verdict_of-judged_of, judged_back   an answer's number and place are those of the verdict that it stands for, and the other way round
--     ok_accepts, err_refuses             an answer is `Ok` exactly when its verdict accepts
--     as_refused, as_passed               an answer that has its verdict
--     as_same                             judges that agree on a table have the same answers
--     judged_only                         no second answer fits
--     Backs M k held                      at each dart stands the least of the first k darts that β1 takes there, or 0
--     backs_start                         before any dart is passed, nothing
--     backs_unsewn, backs_given           an unsewn dart changes nothing, a sewn one is written where nothing stands
--     backs_whole                         once all are passed, β0 of every dart
--     clash_sewn, clash_unsewn            rule 6 at a dart, by what stands in the array
--     Sewing, sewing_..                   β0 found so far, and rule 6 kept so far
--     backs_sew                           β0 of a dart, read off the array
-- Assumes nothing.
use Prim.Native.Nat.{ℕ, suc, ◌+◌, ◌-◌, ◌*◌, ◌≤◌}
use mathlib.Core.Path.{◌≡◌, refl, sym, ap, ◌∙◌}
use mathlib.Core.Bool.{Bool, true, false, cond}
use mathlib.Core.List.{List, [], ◌∷◌, map}
use native.Mathlib.Omega.{arith}
use borrow.Author.Tests.{eq-eqb, ne_eqb, eqb-true, eqb-false, lt-ltb}
use lib.Dec.{eqb, ltb}
use lib.ListN.{length, get_or, set, replicate, length-set, length-map, length-replicate, get_or-replicate}
use lib.Seq.{get_or-set_same, get_or-set_other, ext_get_or}
use Rattle.maps.specs.Least.{nth, up_to, least, some}
use Rattle.maps.specs.Map.{Map, IsDart, back, sew}
use Rattle.maps.specs.Given.{Given, map_of, place_of}
use Rattle.maps.specs.Verdict.{Verdict, accepted, refused, accepts, unless, at_least, in_order, of_second}
use Rattle.maps.specs.Rules.{judge_dimension, judge_size, judge_length, judge_shape, judge_output, Rule, given_before, over_rule, clash_rule, reverse_rule, compose_rule, rules, wrong_entry, shown_place, judged_by, judge_entries, judge_sewing}
use Rattle.std.specs.Prelude.{Result, Ok, Err, None, Some}
use Rattle.maps.specs.Shown.{shown_refusal, verdict_of}
use Rattle.maps.specs.Answer.{backs_of, JudgedAs}
use Rattle.maps.specs.Inside.{EntriesJudged, BackAs}
use Rattle.std.specs.Result.{is_err}
use Rattle.maps.specs.declared.Output.{Output}
use Rattle.maps.specs.declared.Output.TheVariants.{Nothing, Word, Images}
use Rattle.maps.specs.declared.Refusal.{Refusal}
use Rattle.maps.specs.declared.Refusal.TheVariants.{Dimension, Size, Length, Room, Exceeds, GivenBefore, Unanswered, Parted, NotReached}
use Rattle.maps.proofs.Least.{true_not_false, Passed, passed_start, passed_turn, found_some, found_none, least_hit, least_miss, least_kept, sought, Sought, nowhere, somewhere, Tested, passes, fails, tested, some_cong, length-up_to, nth-map-up_to, nth-suc}
use Rattle.maps.proofs.Rules.{clash_entry, clash_none}
use Rattle.maps.proofs.Map.{takes, sew_beta, sew_back}

-- the refusal that shows a number from 1 to 9 at a place
unfoldable pub refusal_at : ℕ → ℕ → Refusal
refusal_at k p =
    cond (eqb k 1) Dimension
    (cond (eqb k 2) Size
    (cond (eqb k 3) Length
    (cond (eqb k 4) Room
    (cond (eqb k 5) (Exceeds p)
    (cond (eqb k 6) (GivenBefore p)
    (cond (eqb k 7) (Unanswered p)
    (cond (eqb k 8) (Parted p)
    (NotReached p))))))))

pub refusal_back : (r : Refusal) → refusal_at (shown_refusal r).number (shown_refusal r).place ≡ r
unfolding refused refusal_at
refusal_back Dimension = refl
refusal_back Size = refl
refusal_back Length = refl
refusal_back Room = refl
refusal_back (Exceeds p) = refl
refusal_back (GivenBefore p) = refl
refusal_back (Unanswered p) = refl
refusal_back (Parted p) = refl
refusal_back (NotReached p) = refl

-- two refusals that show one number at one place are one
pub refusal_only : (r s : Refusal) → shown_refusal r ≡ shown_refusal s → r ≡ s
refusal_only r s same = sym (refusal_back r) ∙ ap (λ (v : Verdict). refusal_at v.number v.place) same ∙ refusal_back s

-- a refusal shows a number from 1 to 9
pub refusal_low : (r : Refusal) → 1 ≤ (shown_refusal r).number
unfolding refused
refusal_low Dimension = omega arith
refusal_low Size = omega arith
refusal_low Length = omega arith
refusal_low Room = omega arith
refusal_low (Exceeds p) = omega arith
refusal_low (GivenBefore p) = omega arith
refusal_low (Unanswered p) = omega arith
refusal_low (Parted p) = omega arith
refusal_low (NotReached p) = omega arith

pub refusal_high : (r : Refusal) → (shown_refusal r).number ≤ 9
unfolding refused
refusal_high Dimension = omega arith
refusal_high Size = omega arith
refusal_high Length = omega arith
refusal_high Room = omega arith
refusal_high (Exceeds p) = omega arith
refusal_high (GivenBefore p) = omega arith
refusal_high (Unanswered p) = omega arith
refusal_high (Parted p) = omega arith
refusal_high (NotReached p) = omega arith

pub refusal_refuses : (r : Refusal) → accepts (shown_refusal r) ≡ false
unfolding accepts
refusal_refuses r = let low = refusal_low r in ne_eqb _ 0 (λ z. omega arith)

-- a verdict that an answer shows accepts exactly where the answer is `Ok`
pub ok_accepts : {v : Verdict} (u : Unit) → verdict_of (Ok u) ≡ v → accepts v ≡ true
unfolding accepts accepted
ok_accepts u is = rw (← is) refl

pub err_refuses : {v : Verdict} (r : Refusal) → verdict_of (Err r) ≡ v → accepts v ≡ false
err_refuses r is = rw (← is) (refusal_refuses r)

-- two answers that show one verdict are one
pub verdict_only : (r s : Result Unit Refusal) → verdict_of r ≡ verdict_of s → r ≡ s
unfolding accepted
verdict_only (Ok a) (Ok b) same = refl
verdict_only (Ok a) (Err s) same = let number : 0 ≡ (shown_refusal s).number = ap (λ (v : Verdict). v.number) same in absurd (omega (arith, refusal_low s))
verdict_only (Err r) (Ok b) same = let number : (shown_refusal r).number ≡ 0 = ap (λ (v : Verdict). v.number) same in absurd (omega (arith, refusal_low r))
verdict_only (Err r) (Err s) same = ap Err (refusal_only r s same)

-- the answer that stands for a verdict
unfoldable pub judged_of : Verdict → Result Unit Refusal
judged_of v = cond (accepts v) (Ok tt) (Err (refusal_at v.number v.place))

-- some answer shows the verdict: it accepts, at place 0, or is what a refusal shows
pub data Answered {E : Type 0} (shown : E → Verdict) (v : Verdict) : Type 0 where
  answers_ok : v ≡ accepted → Answered shown v
  answers_err : (r : E) → v ≡ shown r → Answered shown v

-- and so of a list of verdicts
pub data AllAnswered {E : Type 0} (shown : E → Verdict) : List Verdict → Type 0 where
  all_done : AllAnswered shown []
  one_more : {v : Verdict} {vs : List Verdict} → Answered shown v → AllAnswered shown vs → AllAnswered shown (v ∷ vs)

module _ {E : Type 0} {shown : E → Verdict} where
  pub answered_in_order : {vs : List Verdict} → AllAnswered shown vs → Answered shown (in_order vs)
  unfolding in_order
  answered_in_order all_done = answers_ok refl
  answered_in_order (one_more {v} {vs} first others) = at (tested (accepts v)) (answered_in_order others)
    where
      at : Tested (accepts v) → Answered shown (in_order vs) → Answered shown (in_order (v ∷ vs))
      at (passes e) rest = simp e rest
      at (fails e) rest = simp e first

  pub answered_unless : (b : Bool) (k p : ℕ) (r : E) → refused k p ≡ shown r → Answered shown (unless b k p)
  unfolding unless
  answered_unless true k p r is = answers_ok refl
  answered_unless false k p r is = answers_err r is

  pub answered_at_least : (k p : ℕ) (r : E) → refused k p ≡ shown r → Answered shown (at_least k p)
  unfolding at_least
  answered_at_least k p r is = answered_unless (eqb p 0) k p r is

  -- what other refusals show too
  pub answered_as : {F : Type 0} {shown' : F → Verdict} (f : E → F) → ((r : E) → shown r ≡ shown' (f r)) → {v : Verdict} → Answered shown v → Answered shown' v
  answered_as f same (answers_ok is) = answers_ok is
  answered_as f same (answers_err r is) = answers_err (f r) (is ∙ same r)

  -- and of a second map, where they are 20 higher
  pub answered_second : {F : Type 0} {shown' : F → Verdict} (f : E → F) → ((r : E) → of_second (shown r) ≡ shown' (f r)) → {v : Verdict} → Answered shown v → Answered shown' (of_second v)
  unfolding of_second accepts accepted
  answered_second f same (answers_ok is) = answers_ok (rw is refl)
  answered_second f same (answers_err r is) = answers_err (f r) (ap of_second is ∙ same r)

-- an answer's number and place are those of the verdict that it stands for
pub verdict_of-judged_of : {v : Verdict} → Answered shown_refusal v → verdict_of (judged_of v) ≡ v
unfolding judged_of accepts accepted
verdict_of-judged_of (answers_ok is) = rw is refl
verdict_of-judged_of (answers_err r is) = rw is (simp (refusal_refuses r, refusal_back r))

-- and an answer is the one that its verdict stands for
pub judged_back : (r : Result Unit Refusal) → judged_of (verdict_of r) ≡ r
unfolding judged_of accepts accepted
judged_back (Ok _) = refl
judged_back (Err r) = simp (refusal_refuses r, refusal_back r)

-- an answer shows each verdict of the rules 1 to 8
pub shape_answered : (g : Given) → Answered shown_refusal (judge_shape g)
unfolding judge_shape judge_dimension judge_size judge_length
shape_answered g =
    answered_in_order
    (one_more (answered_unless _ 1 0 Dimension refl)
    (one_more (answered_unless _ 2 0 Size refl)
    (one_more (answered_unless _ 3 0 Length refl) all_done)))

pub output_answered : (o : Output) (n m : ℕ) → Answered shown_refusal (judge_output o n m)
unfolding judge_output
output_answered Nothing n m = answers_ok refl
output_answered (Word room) n m = answered_unless _ 4 0 Room refl
output_answered (Images room) n m = answered_unless _ 4 0 Room refl

rule_answered : (M : Map) (rule : Rule) (at : ℕ → Refusal) → ((p : ℕ) → refused rule.number p ≡ shown_refusal (at p)) → Answered shown_refusal (judged_by M rule)
unfolding judged_by shown_place
rule_answered M rule at is =
    let p = wrong_entry M rule in
    answered_unless _ rule.number p (at p) (is p)

pub entries_answered : (M : Map) → Answered shown_refusal (judge_entries M)
unfolding judge_entries rules
entries_answered M =
    answered_in_order
    (one_more (rule_answered M over_rule Exceeds (λ p. refl))
    (one_more (rule_answered M clash_rule GivenBefore (λ p. refl))
    (one_more (rule_answered M reverse_rule Unanswered (λ p. refl))
    (one_more (rule_answered M compose_rule Parted (λ p. refl)) all_done))))

pub sewing_answered : (o : Output) (g : Given) → Answered shown_refusal (judge_sewing o g)
unfolding judge_sewing
sewing_answered o g = answered_in_order (one_more (shape_answered g) (one_more (output_answered o g.n g.m) (one_more (entries_answered (map_of g)) all_done)))

-- a judge's answer on a table that it refuses, and on one that it accepts
module _ {judge : Given → Verdict} {g : Given} {held : List ℕ} where
  pub as_refused : (r : Refusal) → judge g ≡ shown_refusal r → held ≡ replicate 1020 0 → JudgedAs judge g (Err r) held
  as_refused r is zeros = record { verdict = sym is; backs = zeros ∙ rw is (simp (refusal_refuses r)) }

  pub as_passed : (u : Unit) → judge g ≡ accepted → held ≡ backs_of (map_of g) → JudgedAs judge g (Ok u) held
  unfolding accepted accepts
  as_passed u is whole = record { verdict = sym is; backs = whole ∙ rw is refl }

-- once 1 to 4 pass, the entries' answer is the judge's
module _ {judge : Given → Verdict} {g g' : Given} where
  pub entries_refused : (r : Result Unit Refusal) (back : List ℕ) → is_err r ≡ true → (g' ≡ g) × (judge g ≡ judge_entries (map_of g)) → EntriesJudged (map_of g') r back → JudgedAs judge g r (replicate 1020 0)
  entries_refused (Ok u) back e same judged = absurd (true_not_false e refl)
  entries_refused (Err r) back e same judged = as_refused r (same.1 ∙ ap (λ (h : Given). judge_entries (map_of h)) (sym same.0) ∙ judged) refl

  pub entries_passed : (r : Result Unit Refusal) (back : List ℕ) → is_err r ≡ false → (g' ≡ g) × (judge g ≡ judge_entries (map_of g)) → EntriesJudged (map_of g') r back → JudgedAs judge g r back
  entries_passed (Ok u) back e same judged =
      as_passed u (same.1 ∙ ap (λ (h : Given). judge_entries (map_of h)) (sym same.0) ∙ judged.0) (judged.1 ∙ ap (λ (h : Given). backs_of (map_of h)) same.0)
  entries_passed (Err r) back e same judged = absurd (true_not_false refl e)

-- judges that agree on a table have the same answers
pub as_same : {judge other : Given → Verdict} {g : Given} {r : Result Unit Refusal} {held : List ℕ} → judge g ≡ other g → JudgedAs other g r held → JudgedAs judge g r held
as_same is answer = record { verdict = rw is answer.verdict; backs = rw is answer.backs }

-- no second answer fits, nor a second array
pub judged_only : (judge : Given → Verdict) (g : Given) (r s : Result Unit Refusal) (held kept : List ℕ) → JudgedAs judge g r held → JudgedAs judge g s kept → (r ≡ s) × (held ≡ kept)
judged_only judge g r s held kept a b = (verdict_only r s (a.verdict ∙ sym b.verdict), a.backs ∙ sym b.backs)

-- at each dart stands the least of the first k darts that β1 takes there, or 0
pub record Backs (M : Map) (k : ℕ) (held : List ℕ) : Type 0 where
  pub long : length held ≡ 1020
  pub stands : (e : ℕ) → 1 ≤ e → e ≤ 1020 → get_or held (e - 1) 0 ≡ least k (takes M e)

pub backs_start : (M : Map) → Backs M 0 (replicate 1020 0)
unfolding least
backs_start M = record { long = length-replicate {A = ℕ} 1020 0; stands = λ e low high. get_or-replicate {A = ℕ} 1020 (e - 1) 0 0 (omega arith) }

-- one dart more that β1 does not take to e
takes_not : (M : Map) (k e : ℕ) → takes M e (suc k) ≡ false → least (suc k) (takes M e) ≡ least k (takes M e)
takes_not M k e miss = at (sought (takes M e) k)
  where
    at : Sought (takes M e) k → least (suc k) (takes M e) ≡ least k (takes M e)
    at (nowhere none m) = least_miss (takes M e) k none miss ∙ sym none
    at (somewhere d is f) = least_kept (takes M e) k (rw is f.low)

module _ {M : Map} {k : ℕ} {held : List ℕ} (b : Backs M k held) (dart : IsDart M (suc k)) (dim : 1 ≤ M.dim) where
  -- β1 of the next dart, as written
  next : sew M 1 (suc k) ≡ M.beta 1 (suc k)
  next = sew_beta M 1 (suc k) dart (omega arith) dim

  pub backs_unsewn : sew M 1 (suc k) ≡ 0 → Backs M (suc k) held
  unfolding takes
  backs_unsewn none =
      record {
        long = b.long;
        stands = λ e low high.
            b.stands e low high ∙ sym (takes_not M k e (rw (← next, none) (ne_eqb 0 e (λ z. omega arith))));
      }

  pub backs_given : (x : ℕ) → x ≡ sew M 1 (suc k) → 1 ≤ x → x ≤ 1020 → get_or held (x - 1) 0 ≡ 0 → Backs M (suc k) (set held (x - 1) (suc k))
  unfolding takes
  backs_given x is low high free = record { long = length-set held (x - 1) (suc k) ∙ b.long; stands = after }
    where
      after : (e : ℕ) → 1 ≤ e → e ≤ 1020 → get_or (set held (x - 1) (suc k)) (e - 1) 0 ≡ least (suc k) (takes M e)
      after e elow ehigh = at (tested (eqb e x))
        where
          at : Tested (eqb e x) → get_or (set held (x - 1) (suc k)) (e - 1) 0 ≡ least (suc k) (takes M e)
          at (passes h) =
              let same : e ≡ x = eqb-true e x h in
              let none : least k (takes M x) ≡ 0 = sym (b.stands x low high) ∙ free in
              let hit : takes M x (suc k) ≡ true = eq-eqb (M.beta 1 (suc k)) x (sym next ∙ sym is) in
              rw same (get_or-set_same held (x - 1) (suc k) 0 (omega (arith, b.long)) ∙ sym (least_hit (takes M x) k none hit))
          at (fails h) =
              let differ : e ≡ x → ⊥ = eqb-false e x h in
              let miss : takes M e (suc k) ≡ false = ne_eqb (M.beta 1 (suc k)) e (λ z. differ (sym z ∙ sym next ∙ sym is)) in
              get_or-set_other held (x - 1) (e - 1) (suc k) 0 (λ z. differ (omega arith))
              ∙ b.stands e elow ehigh
              ∙ sym (takes_not M k e miss)

  -- rule 6 at the next dart: something stands where it is sewn to
  pub clash_sewn : (x : ℕ) → x ≡ sew M 1 (suc k) → 1 ≤ x → x ≤ 1020 → given_before M (suc k) 1 ≡ ltb 0 (get_or held (x - 1) 0)
  unfolding given_before takes some
  clash_sewn x is low high =
      let one_less : suc k - 1 ≡ k = omega arith in
      let sewn : ltb 0 x ≡ true = lt-ltb 0 x low in
      let agree : some k (λ e. eqb (sew M 1 e) x) ≡ some k (takes M x) =
      some_cong (λ j jlow jhigh. ap (λ (y : ℕ). eqb y x) (sew_beta M 1 j (jlow, omega (arith, dart.1)) (omega arith) dim)) in
      rw (one_less, ← is, sewn, b.stands x low high) agree

  -- "Counting two unsewn edges as a β1 clash" is wrong
  pub clash_unsewn : sew M 1 (suc k) ≡ 0 → given_before M (suc k) 1 ≡ false
  unfolding given_before
  clash_unsewn none = simp none

pub backs_whole : (M : Map) (held : List ℕ) → Backs M M.darts held → held ≡ backs_of M
unfolding backs_of back takes
backs_whole M held b =
    ext_get_or 0 held (map (back M) (up_to 1020)) (b.long ∙ sym long)
    (λ i below.
    let here : get_or held (suc i - 1) 0 ≡ back M (suc i) = b.stands (suc i) (omega arith) (omega (arith, b.long)) in
    let index : suc i - 1 ≡ i = omega arith in
    let there : nth (map (back M) (up_to 1020)) (suc i) ≡ back M (suc i) =
    nth-map-up_to (back M) 1020 (suc i) (omega arith) (omega (arith, b.long)) in
    (rw index at here) ∙ sym there ∙ nth-suc (map (back M) (up_to 1020)) i)
  where
    long : length (map (back M) (up_to 1020)) ≡ 1020
    long = length-map (up_to 1020) (back M) ∙ length-up_to 1020

-- β0 found of what the darts below d lead to, and rule 6 kept so far
pub record Sewing (M : Map) (d : ℕ) (back : List ℕ) : Type 0 where
  pub low : 1 ≤ d
  pub backs : Backs M (d - 1) back
  pub so_far : Passed (λ e. given_before M e 1) d

pub sewing_start : (M : Map) {back : List ℕ} → back ≡ replicate 1020 0 → Sewing M 1 back
sewing_start M zeros = record { low = omega arith; backs = rw zeros (backs_start M); so_far = passed_start _ }

module _ {M : Map} {d : ℕ} {back : List ℕ} (s : Sewing M d back) (dim : 1 ≤ M.dim) where
  module _ (inside : d ≤ M.darts) where
    one_less : suc (d - 1) ≡ d
    one_less = omega (arith, s.low)

    dart : IsDart M (suc (d - 1))
    dart = (omega arith, omega (arith, s.low))

    module _ {x : ℕ} (is : x ≡ sew M 1 d) where
      there : x ≡ sew M 1 (suc (d - 1))
      there = is ∙ ap (sew M 1) (sym one_less)

      clash-here : 1 ≤ x → x ≤ 1020 → given_before M d 1 ≡ ltb 0 (get_or back (x - 1) 0)
      clash-here low high = ap (λ (c : ℕ). given_before M c 1) (sym one_less) ∙ clash_sewn s.backs dart dim x there low high

      -- the next dart leads where an earlier one does
      pub sewing_clash : (x ≡ 0 → ⊥) → x ≤ 1020 → (get_or back (x - 1) 0 ≡ 0 → ⊥) → BackAs M (Some ((d - 1) * M.dim + 1)) back
      unfolding place_of
      sewing_clash some high stands =
          let clash : given_before M d 1 ≡ true = clash-here (omega arith) high ∙ lt-ltb 0 (get_or back (x - 1) 0) (omega arith) in
          record {
            wrong = found_some (omega arith) (clash_entry M dim d s.so_far s.low inside clash);
            whole = λ none. absurd (let z : ◌≡◌ {A = ℕ} 0 1 = cc in omega arith);
          }

      -- or where none does
      pub sewing_given : (x ≡ 0 → ⊥) → x ≤ 1020 → get_or back (x - 1) 0 ≡ 0 → Sewing M (d + 1) (set back (x - 1) d)
      sewing_given some high free =
          let low : 1 ≤ x = omega arith in
          let more : suc (d - 1) ≡ d + 1 - 1 = omega (arith, s.low) in
          let value : set back (x - 1) (suc (d - 1)) ≡ set back (x - 1) d = ap (set back (x - 1)) one_less in
          record {
            low = omega arith;
            backs = rw (← more, ← value) (backs_given s.backs dart dim x there low high free);
            so_far = passed_turn _ s.so_far (clash-here low high ∙ ap (ltb 0) free);
          }

      -- or nowhere
      pub sewing_unsewn : x ≡ 0 → Sewing M (d + 1) back
      sewing_unsewn none =
          let more : suc (d - 1) ≡ d + 1 - 1 = omega (arith, s.low) in
          let unsewn : sew M 1 (suc (d - 1)) ≡ 0 = sym there ∙ none in
          record {
            low = omega arith;
            backs = rw (← more) (backs_unsewn s.backs dart dim unsewn);
            so_far = passed_turn _ s.so_far (ap (λ (c : ℕ). given_before M c 1) (sym one_less) ∙ clash_unsewn s.backs dart dim unsewn);
          }

  -- all darts are passed
  pub sewing_over : d ≡ M.darts + 1 → BackAs M None back
  sewing_over past =
      let all : d - 1 ≡ M.darts = omega arith in
      record { wrong = found_none (clash_none M dim d s.so_far (omega arith)); whole = λ none. backs_whole M back (rw all at s.backs) }

-- β0 of a dart, read off the array
pub backs_sew : (M : Map) (d : ℕ) → IsDart M d → d ≤ 1020 → get_or (backs_of M) (d - 1) 0 ≡ sew M 0 d
unfolding backs_of
backs_sew M d dart few =
    let index : suc (d - 1) ≡ d = omega (arith, dart.0) in
    sym (nth-suc (map (back M) (up_to 1020)) (d - 1))
    ∙ ap (nth (map (back M) (up_to 1020))) index
    ∙ nth-map-up_to (back M) 1020 d dart.0 few
    ∙ sym (sew_back M d dart)
