-- The laws of `specs/Judging.antt`: rule 9, and that the answers show the lines of a table (theorem 10).
--     unlabelled_says                        a dart has label 0 from dart 1 exactly when no path leads there
--     Unreached, not_reached_none, not_reached_least
--                                            rule 9 names no dart exactly in a connected map, else the least that no path leads to
--     map_shows, map_clear                   5 to 9
--     table_shows, table_clear, clear_table  1 to 9, with the output that a call is lent
--     table_nine, nine_before, nine_none, nine_refused
--                                            1 to 9 by what 1 to 8 answer
--     nine, passed_..                        what `judge` is proved by: where 1 to 8 refuse, and where they pass
--     table_whole, check_whole, sewing_whole
--                                            a table whose verdict accepts is accepted, at place 0
--     table_answered, check_answered         some answer shows each verdict on a table
--     shaped_map                             of a table in shape, 5 to 9 are left
--     judges_only, check_only                no second answer fits
-- Assumes nothing.
use Prim.Native.Nat.{ℕ, ◌*◌, ◌≤◌, ◌<◌}
use mathlib.Core.Path.{◌≡◌, refl, sym, ap, ◌∙◌}
use mathlib.Core.Bool.{Bool, true, false}
use mathlib.Core.List.{List, [], ◌∷◌}
use mathlib.Core.Logic.{◌↔◌, ⊎_elim}
use native.Mathlib.Omega.{arith}
use native.Mathlib.Nat.{eq-zero-or-pos}
use borrow.Author.Tests.{eq-eqb, ne_eqb, eqb-true, eqb-false}
use lib.Dec.{eqb}
use lib.ListN.{length, replicate}
use Rattle.std.specs.Prelude.{Result, Ok, Err, Some}
use Rattle.maps.specs.Least.{found_at}
use Rattle.maps.specs.Map.{Map, IsDart}
use Rattle.maps.specs.Accepted.{ToDarts, OpenMap, Path, Connected, Accepted}
use Rattle.maps.specs.Given.{Given, map_of, Shaped}
use Rattle.maps.specs.Verdict.{Verdict, accepted, refused, accepts, unless, at_least, in_order}
use Rattle.maps.specs.Lines.{Silent, Shows, shape_lines, room_lines, entry_lines, reach_line, map_lines, table_lines}
use Rattle.maps.specs.Rules.{judge_shape, judge_output, judge_entries, judge_sewing}
use Rattle.maps.specs.Shown.{shown_refusal, verdict_of}
use Rattle.maps.specs.Answer.{backs_of, JudgedAs}
use Rattle.maps.specs.declared.Refusal.{Refusal}
use Rattle.maps.specs.declared.Refusal.TheVariants.{NotReached}
use Rattle.maps.specs.declared.Output.{Output}
use Rattle.maps.proofs.Least.{Tested, passes, fails, tested, Found, least_none, none_least, least_found, least_is, some_is, none_is}
use Rattle.maps.proofs.Verdict.{in_order_passed, in_order_refused, in_order_first, in_order_one, in_order-accepts, at_least-some}
use Rattle.maps.proofs.Lines.{Clear, clear, past, shows_clear, clear_shows, clear_join, clear_split, shows_then, shows_last, shows_least, shape_shows, shape_clear, room_shows, entries_shows, entries_clear, sewing_clear}
use Rattle.maps.proofs.Answer.{Answered, all_done, one_more, answered_in_order, answered_at_least, shape_answered, output_answered, entries_answered, judged_only, verdict_only, refusal_refuses, ok_accepts, as_refused}
use Rattle.labels.specs.Queue.{label_in, labelling}
use Rattle.labels.specs.Judging.{not_reached, judge_map, table_answer, check_answer, Judges}
use Rattle.labels.proofs.Reached.{labelled_reached, reached_labelled}

-- the test of rule 9
abbrev unlabelled : Map → ℕ → Bool
unlabelled M d = eqb (label_in (labelling M 1) d) 0

-- d is the least dart that no path from dart 1 leads to
pub record Unreached (M : Map) (d : ℕ) : Type 0 where
  pub dart : IsDart M d
  pub no_path : ¬ Path M 1 d
  pub lower : (e : ℕ) → 1 ≤ e → e < d → Path M 1 e

-- rule 9, where every sewing leads to a dart or to nothing
module _ (M : Map) (to_darts : ToDarts M) (darts : 1 ≤ M.darts) where
  path_labelled : (d : ℕ) → Path M 1 d → 0 < label_in (labelling M 1) d
  path_labelled d p = reached_labelled M to_darts 1 (omega arith, darts) d p

  -- a dart has label 0 from dart 1 exactly when no path leads there
  pub unlabelled_says : (d : ℕ) → (label_in (labelling M 1) d ≡ 0) ↔ (¬ Path M 1 d)
  unlabelled_says d = (
    λ z p. omega (arith, path_labelled d p),
    λ none. ⊎_elim (λ z. z) (λ pos. absurd (none (labelled_reached M 1 d pos))) (eq-zero-or-pos (label_in (labelling M 1) d)),
  )

  -- the same of the test of rule 9
  missed_path : (d : ℕ) → unlabelled M d ≡ false → Path M 1 d
  missed_path d e = labelled_reached M 1 d (let some = eqb-false (label_in (labelling M 1) d) 0 e in omega arith)

  path_missed : (d : ℕ) → Path M 1 d → unlabelled M d ≡ false
  path_missed d p = ne_eqb (label_in (labelling M 1) d) 0 (λ z. omega (arith, path_labelled d p))

  hit_no_path : (d : ℕ) → unlabelled M d ≡ true → ¬ Path M 1 d
  hit_no_path d e = (unlabelled_says d).0 (eqb-true (label_in (labelling M 1) d) 0 e)

  no_path_hit : (d : ℕ) → ¬ Path M 1 d → unlabelled M d ≡ true
  no_path_hit d none = eq-eqb (label_in (labelling M 1) d) 0 ((unlabelled_says d).1 none)

  -- a path that is not missing is there
  path_stable : (d : ℕ) → ¬ ¬ Path M 1 d → Path M 1 d
  path_stable d some = at (tested (unlabelled M d))
    where
      at : Tested (unlabelled M d) → Path M 1 d
      at (passes e) = absurd (some (hit_no_path d e))
      at (fails e) = missed_path d e

  -- no dart is named exactly in a connected map
  pub not_reached_none : (not_reached M ≡ 0) ↔ Connected M
  unfolding not_reached Connected
  not_reached_none = (
    λ z d dart. missed_path d (least_none (unlabelled M) M.darts z d dart.0 dart.1),
    λ c. none_least (unlabelled M) M.darts (λ d low high. path_missed d (c d (low, high))),
  )

  -- else the one named is the least that no path leads to
  pub not_reached_least : (d : ℕ) → 1 ≤ d → (not_reached M ≡ d) ↔ Unreached M d
  unfolding not_reached
  not_reached_least d low = (to, back)
    where
      to : not_reached M ≡ d → Unreached M d
      to is =
          let f : Found (unlabelled M) M.darts d = rw is at (least_found (unlabelled M) M.darts (rw is low)) in
          record { dart = (f.low, f.high); no_path = hit_no_path d f.hit; lower = λ e one less. missed_path e (f.before e one less) }

      back : Unreached M d → not_reached M ≡ d
      back u =
          least_is (unlabelled M) M.darts
          (record { low = u.dart.0; high = u.dart.1; hit = no_path_hit d u.no_path; before = λ e one less. path_missed e (u.lower e one less) })

module _ (M : Map) where
  -- rule 9's verdict is what its line shows, in an open map
  nine_shows : OpenMap M → 1 ≤ M.darts → Shows (reach_line M ∷ []) (at_least 9 (not_reached M))
  unfolding not_reached
  nine_shows o darts =
      shows_least (reach_line M) M.darts (unlabelled M) (omega arith)
      (λ d. (
        λ h. (h.0.0, h.0.1, no_path_hit M o.to_darts darts d h.1),
        λ h. ((h.0, h.1), hit_no_path M o.to_darts darts d h.2),
      ))

  -- 5 to 9 show the lines of the map
  pub map_shows : 1 ≤ M.dim → 1 ≤ M.darts → Shows (map_lines M) (judge_map M)
  unfolding map_lines judge_map
  map_shows dim darts = shows_then _ (entries_shows M dim) (λ c. shows_last (nine_shows ((entries_clear M).0 c) darts))

  -- which hold of no place exactly in an open, connected map
  pub map_clear : 1 ≤ M.darts → Clear (map_lines M) ↔ OpenMap M × Connected M
  unfolding map_lines Connected
  map_clear darts = (to, back)
    where
      reached : OpenMap M → Clear (reach_line M ∷ []) → (d : ℕ) → IsDart M d → Path M 1 d
      reached o (past silent clear) d dart = path_stable M o.to_darts darts d (λ none. silent d (dart, none))

      to : Clear (map_lines M) → OpenMap M × Connected M
      to c =
          let both = clear_split (entry_lines M) c in
          let o : OpenMap M = (entries_clear M).0 both.0 in
          (o, reached o both.1)

      all : Connected M → Silent (reach_line M)
      all c d h = h.1 (c d h.0)

      back : OpenMap M × Connected M → Clear (map_lines M)
      back h = clear_join ((entries_clear M).1 h.0) (past (all h.1) clear)

module _ (o : Output) (g : Given) where
  -- the answer of a call on one table is what its lines show
  pub table_shows : Shows (table_lines o g) (table_answer o g)
  unfolding table_lines table_answer map_of
  table_shows =
      shows_then _ (shape_shows g)
      (λ c.
      let b = ((shape_clear g).0 c).bounds in
      shows_then _ (room_shows o g.n g.m) (λ d. shows_last (map_shows (map_of g) b.dim_least b.darts_least)))

  -- where it accepts, the output has room, and the table is in shape and that of an accepted map
  pub table_clear : table_answer o g ≡ accepted → (judge_output o g.n g.m ≡ accepted) × Shaped g × Accepted (map_of g)
  unfolding table_lines map_of
  table_clear is =
      let first = clear_split (shape_lines g) (shows_clear table_shows is) in
      let rest = clear_split (room_lines o g.n g.m) first.1 in
      let s = (shape_clear g).0 first.0 in
      let m = (map_clear (map_of g) s.bounds.darts_least).0 rest.1 in
      (clear_shows (room_shows o g.n g.m) rest.0, s, record { bounds = s.bounds; open_map = m.0; connected = m.1 })

  -- and it accepts wherever that holds
  pub clear_table : judge_output o g.n g.m ≡ accepted → length g.table ≡ g.n * g.m → Accepted (map_of g) → table_answer o g ≡ accepted
  unfolding table_lines map_of
  clear_table room long a =
      clear_shows table_shows
      (clear_join ((shape_clear g).1 (record { bounds = a.bounds; long = long }))
      (clear_join (shows_clear (room_shows o g.n g.m) room) ((map_clear (map_of g) a.bounds.darts_least).1 (a.open_map, a.connected))))

  -- a table whose verdict accepts is accepted, at place 0
  pub table_whole : accepts (table_answer o g) ≡ true → table_answer o g ≡ accepted
  unfolding table_answer
  table_whole e = in_order-accepts _ e

  pub sewing_whole : accepts (judge_sewing o g) ≡ true → judge_sewing o g ≡ accepted
  unfolding judge_sewing
  sewing_whole e = in_order-accepts _ e

-- a list in a list is judged as one
nested : (s r e x : Verdict) → in_order (s ∷ r ∷ in_order (e ∷ x ∷ []) ∷ []) ≡ in_order (in_order (s ∷ r ∷ e ∷ []) ∷ x ∷ [])
unfolding in_order accepts accepted
nested s r e x = at (tested (accepts s)) (tested (accepts r)) (tested (accepts e)) (tested (accepts x))
  where
    at : Tested (accepts s) → Tested (accepts r) → Tested (accepts e) → Tested (accepts x) → in_order (s ∷ r ∷ in_order (e ∷ x ∷ []) ∷ []) ≡ in_order (in_order (s ∷ r ∷ e ∷ []) ∷ x ∷ [])
    at (fails a) b c d = simp (a, a)
    at (passes a) (fails b) c d = simp (a, b, b)
    at (passes a) (passes b) (fails c) d = simp (a, b, c, c)
    at (passes a) (passes b) (passes c) (passes d) = simp (a, b, c, d)
    at (passes a) (passes b) (passes c) (fails d) = simp (a, b, c, d, d)

-- 1 to 8, and then rule 9
table_nine : (o : Output) (g : Given) → table_answer o g ≡ in_order (judge_sewing o g ∷ at_least 9 (not_reached (map_of g)) ∷ [])
unfolding table_answer judge_sewing judge_map
table_nine o g = nested (judge_shape g) (judge_output o g.n g.m) (judge_entries (map_of g)) (at_least 9 (not_reached (map_of g)))

module _ (o : Output) (g : Given) where
  pub nine_before : accepts (judge_sewing o g) ≡ false → table_answer o g ≡ judge_sewing o g
  nine_before e = table_nine o g ∙ in_order_refused _ _ e

  pub nine_none : accepts (judge_sewing o g) ≡ true → not_reached (map_of g) ≡ 0 → table_answer o g ≡ judge_sewing o g
  unfolding in_order at_least unless accepts accepted
  nine_none e none = table_nine o g ∙ in_order_passed (judge_sewing o g) (at_least 9 (not_reached (map_of g)) ∷ []) e ∙ simp none (sym (sewing_whole o g e))

  pub nine_refused : accepts (judge_sewing o g) ≡ true → (p : ℕ) → p ≡ not_reached (map_of g) → (p ≡ 0 → ⊥) → table_answer o g ≡ refused 9 p
  nine_refused e p is some = table_nine o g ∙ in_order_passed _ _ e ∙ in_order_first _ _ 9 p (omega arith) (rw (← is) (at_least-some 9 p some))

-- what 1 to 8 refuse goes straight back, and what they pass is accepted where rule 9 finds no dart
pub ruleset nine = (nine_before, nine_none, refusal_refuses, none_is, sewing_whole)

-- what 1 to 8 pass is in shape, its sewings lead to darts, and the array holds its β0
module _ (o : Output) {g : Given} {r : Result Unit Refusal} {back : List ℕ} (judged : JudgedAs (judge_sewing o) g r back) (passed : r ≡ Ok tt) where
  passed_accepts : accepts (judge_sewing o g) ≡ true
  passed_accepts = ok_accepts tt (ap verdict_of (sym passed) ∙ judged.verdict)

  passed_whole : Shaped g × OpenMap (map_of g)
  passed_whole = sewing_clear _ _ (sewing_whole o g passed_accepts)

  pub passed_shaped : Shaped g
  passed_shaped = passed_whole.0

  pub passed_within : ToDarts (map_of g)
  passed_within = passed_whole.1.to_darts

  pub passed_backs : back ≡ backs_of (map_of g)
  passed_backs = judged.backs ∙ simp passed_accepts

  -- and it is refused where rule 9 finds a dart
  pub passed_refused : {p : ℕ} {labels : List ℕ} → Some p ≡ found_at (not_reached (map_of g)) → labels ≡ replicate 1020 0 → Judges o g (Err (NotReached p)) (replicate 1020 0) labels
  passed_refused {p} found blank =
      let is = some_is found in
      record { answer = as_refused (NotReached p) (nine_refused o g passed_accepts p (sym is.0) (λ z. omega (arith, is.1))) refl; blank = blank }

-- some answer shows each verdict on a table
pub table_answered : (o : Output) (g : Given) → Answered shown_refusal (table_answer o g)
unfolding table_answer judge_map
table_answered o g =
    let M = map_of g in
    let nine_answered = answered_at_least 9 (not_reached M) (NotReached (not_reached M)) refl in
    let map_answered = answered_in_order (one_more (entries_answered M) (one_more nine_answered all_done)) in
    answered_in_order (one_more (shape_answered g) (one_more (output_answered o g.n g.m) (one_more map_answered all_done)))

pub check_answered : (g : Given) → Answered shown_refusal (check_answer g)
unfolding check_answer
check_answered g = table_answered _ g

-- of a table in shape, 5 to 9 are left to the plain check
pub shaped_map : (g : Given) → Shaped g → check_answer g ≡ judge_map (map_of g)
unfolding check_answer table_answer judge_output judge_map accepts accepted in_order
shaped_map g s =
    in_order_passed (judge_shape g) (accepted ∷ judge_map (map_of g) ∷ []) (ap accepts (clear_shows (shape_shows g) ((shape_clear g).1 s))) ∙ in_order_one _ (in_order-accepts (judge_entries (map_of g) ∷ at_least 9 (not_reached (map_of g)) ∷ []))

-- a table that the plain check passes is accepted, at place 0
pub check_whole : (g : Given) → accepts (check_answer g) ≡ true → check_answer g ≡ accepted
unfolding check_answer
check_whole g e = table_whole _ g e

-- no second answer of `judge` fits, nor other contents of the arrays that it is lent
pub judges_only : (o : Output) (g : Given) (r s : Result Unit Refusal) (b c l k : List ℕ) → Judges o g r b l → Judges o g s c k → (r ≡ s) × (b ≡ c) × (l ≡ k)
judges_only o g r s b c l k x y = let same = judged_only (table_answer o) g r s b c x.answer y.answer in (same.0, same.1, x.blank ∙ sym y.blank)

-- no second answer of the plain check fits
pub check_only : (g : Given) (r s : Result Unit Refusal) → verdict_of r ≡ check_answer g → verdict_of s ≡ check_answer g → r ≡ s
check_only g r s a b = verdict_only r s (a ∙ sym b)
