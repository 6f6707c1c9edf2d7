-- What the display shows of a drawer's refusal tells refusals and answers apart.
--     drawer_refuses                          no refusal accepts
--     drawer_refusal_only                     two refusals that show the same are one
--     drawer_refusal_at, search_of, filing_of
--                                             the refusal that shows a number at a place, the answers that stand for numbers
--     drawer_answered, search_answered, filing_answered
--                                             some answer shows each verdict of the three calls
--     shown_searched, shown_filed             an answer's numbers are those that it stands for, where a refusal has no others
--     shown_search_lem, shown_filing_lem      and so those of search and of filing
--     drawer_only, search_only, own_bytes_only, filing_only
--                                             no second answer fits: the drawer check, search, the record's own bytes, filing
-- Assumes nothing.
use Prim.Native.Nat.{ℕ, ◌≤◌}
use mathlib.Core.Path.{◌≡◌, refl, sym, ap, ◌∙◌}
use mathlib.Core.Bool.{false, cond}
use mathlib.Core.List.{List}
use native.Mathlib.Omega.{arith}
use borrow.Author.Tests.{eq-eqb, ne_eqb, le-leb}
use lib.Dec.{eqb, leb}
use Rattle.std.specs.Prelude.{Result, Ok, Err}
use Rattle.maps.specs.Given.{Given}
use Rattle.maps.specs.Verdict.{Verdict, accepted, refused, accepts}
use Rattle.maps.specs.Shown.{shown_refusal}
use Rattle.maps.proofs.Least.{Tested, passes, fails, tested}
use Rattle.maps.proofs.Answer.{refusal_at, refusal_back, refusal_low, refusal_high, Answered, answers_ok, answers_err, all_done, one_more, answered_in_order, answered_unless, answered_at_least, answered_as}
use Rattle.labels.specs.Judging.{check_answer}
use Rattle.labels.proofs.Judging.{check_answered}
use Rattle.drawer.specs.Drawer.{Drawer, SearchAnswer, FilingAnswer, judge_count, judge_records, drawer_answer, judge_search, search_answer, own_bytes, judge_next, judge_filing, filing_answer}
use Rattle.drawer.specs.Shown.{shown_drawer, drawer_verdict}
use Rattle.drawer.specs.Answers.{shown_search, shown_filing, FilesAs}
use Rattle.drawer.specs.declared.records.Found.{Found}
use Rattle.drawer.specs.declared.refusal.DrawerRefusal.{DrawerRefusal}
use Rattle.drawer.specs.declared.refusal.DrawerRefusal.TheVariants.{Map, Short, Bad, NotFound, Die, Layout, Full}

-- the refusal that shows a number at a place
unfoldable pub drawer_refusal_at : ℕ → ℕ → DrawerRefusal
drawer_refusal_at k p =
    cond (leb k 9) (Map (refusal_at k p))
    (cond (eqb k 13) Short
    (cond (eqb k 14) (Bad p)
    (cond (eqb k 15) NotFound
    (cond (eqb k 16) (Die p)
    (cond (eqb k 17) (Layout p)
    Full)))))

drawer_back : (r : DrawerRefusal) → drawer_refusal_at (shown_drawer r).number (shown_drawer r).place ≡ r
unfolding refused drawer_refusal_at
drawer_back (Map r) = simp (le-leb (shown_refusal r).number 9 (refusal_high r)) (ap Map (refusal_back r))
drawer_back Short = refl
drawer_back (Bad p) = refl
drawer_back NotFound = refl
drawer_back (Die p) = refl
drawer_back (Layout p) = refl
drawer_back Full = refl

drawer_low : (r : DrawerRefusal) → 1 ≤ (shown_drawer r).number
unfolding refused
drawer_low (Map r) = refusal_low r
drawer_low Short = omega arith
drawer_low (Bad p) = omega arith
drawer_low NotFound = omega arith
drawer_low (Die p) = omega arith
drawer_low (Layout p) = omega arith
drawer_low Full = omega arith

pub drawer_refuses : (r : DrawerRefusal) → accepts (shown_drawer r) ≡ false
unfolding accepts
drawer_refuses r = let low = drawer_low r in ne_eqb _ 0 (λ z. omega arith)

-- the same number at the same place
same_shown : (r s : DrawerRefusal) → (shown_drawer r).number ≡ (shown_drawer s).number → (shown_drawer r).place ≡ (shown_drawer s).place → r ≡ s
same_shown r s number place = sym (drawer_back r) ∙ (λ i. drawer_refusal_at (number i) (place i)) ∙ drawer_back s

pub drawer_refusal_only : (r s : DrawerRefusal) → shown_drawer r ≡ shown_drawer s → r ≡ s
drawer_refusal_only r s same = same_shown r s (ap (λ (v : Verdict). v.number) same) (ap (λ (v : Verdict). v.place) same)

-- and so for answers, where 0 is the number of none
verdicts_only : (r s : Result Unit DrawerRefusal) → drawer_verdict r ≡ drawer_verdict s → r ≡ s
unfolding accepted
verdicts_only (Ok a) (Ok b) same = refl
verdicts_only (Ok a) (Err s) same = let low = drawer_low s in let n = ap (λ (v : Verdict). v.number) same in absurd (omega arith)
verdicts_only (Err r) (Ok b) same = let low = drawer_low r in let n = ap (λ (v : Verdict). v.number) same in absurd (omega arith)
verdicts_only (Err r) (Err s) same = ap Err (drawer_refusal_only r s same)

searches_only : (r s : Result Found DrawerRefusal) → shown_search r ≡ shown_search s → r ≡ s
searches_only (Ok a) (Ok b) same = ap (λ (x : SearchAnswer). Ok (record { die = x.die; at = x.at })) same
searches_only (Ok a) (Err s) same = let low = drawer_low s in let n = ap (λ (x : SearchAnswer). x.number) same in absurd (omega arith)
searches_only (Err r) (Ok b) same = let low = drawer_low r in let n = ap (λ (x : SearchAnswer). x.number) same in absurd (omega arith)
searches_only (Err r) (Err s) same = ap Err (same_shown r s (ap (λ (x : SearchAnswer). x.number) same) (ap (λ (x : SearchAnswer). x.place) same))

filings_only : (r s : Result ℕ DrawerRefusal) → shown_filing r ≡ shown_filing s → r ≡ s
filings_only (Ok a) (Ok b) same = ap (λ (x : FilingAnswer). Ok x.count) same
filings_only (Ok a) (Err s) same = let low = drawer_low s in let n = ap (λ (x : FilingAnswer). x.number) same in absurd (omega arith)
filings_only (Err r) (Ok b) same = let low = drawer_low r in let n = ap (λ (x : FilingAnswer). x.number) same in absurd (omega arith)
filings_only (Err r) (Err s) same = ap Err (same_shown r s (ap (λ (x : FilingAnswer). x.number) same) (ap (λ (x : FilingAnswer). x.place) same))

-- some answer shows the verdict on the map, and each of the drawer
map_answered : (g : Given) → Answered shown_drawer (check_answer g)
map_answered g = answered_as Map (λ r. refl) (check_answered g)

pub drawer_answered : (D : Drawer) → Answered shown_drawer (drawer_answer D)
unfolding drawer_answer judge_count judge_records
drawer_answered D = answered_in_order (one_more (answered_unless _ 13 0 Short refl) (one_more (answered_at_least 14 _ (Bad _) refl) all_done))

pub search_answered : (g : Given) (D : Drawer) → Answered shown_drawer (judge_search g D)
unfolding judge_search
search_answered g D = answered_in_order (one_more (map_answered g) (one_more (drawer_answered D) (one_more (answered_unless _ 15 0 NotFound refl) all_done)))

pub filing_answered : (die : ℕ) (g : Given) (D : Drawer) → Answered shown_drawer (judge_filing die g D)
unfolding judge_filing judge_next
filing_answered die g D =
    answered_in_order
    (one_more (map_answered g)
    (one_more (drawer_answered D)
    (one_more (answered_unless _ 16 0 (Die 0) refl)
    (one_more (answered_at_least 16 _ (Die _) refl)
    (one_more (answered_at_least 17 _ (Layout _) refl)
    (one_more (answered_unless _ 18 0 Full refl) all_done))))))

-- the answers that stand for numbers
unfoldable pub search_of : SearchAnswer → Result Found DrawerRefusal
search_of a = cond (eqb a.number 0) (Ok (record { die = a.die; at = a.at })) (Err (drawer_refusal_at a.number a.place))

unfoldable pub filing_of : FilingAnswer → Result ℕ DrawerRefusal
filing_of a = cond (eqb a.number 0) (Ok a.count) (Err (drawer_refusal_at a.number a.place))

-- the number and the place of a verdict that a refusal shows, which they give back
module _ {v : Verdict} (r : DrawerRefusal) (is : v ≡ shown_drawer r) where
  number_is : v.number ≡ (shown_drawer r).number
  number_is = ap (λ (w : Verdict). w.number) is

  place_is : v.place ≡ (shown_drawer r).place
  place_is = ap (λ (w : Verdict). w.place) is

  not_none : v.number ≡ 0 → ⊥
  not_none z = omega (arith, drawer_low r, number_is)

  given_back : drawer_refusal_at v.number v.place ≡ r
  given_back = (λ i. drawer_refusal_at (number_is i) (place_is i)) ∙ drawer_back r

-- the numbers of an answer of search are those that it stands for
pub shown_searched : (a : SearchAnswer) → Answered shown_drawer (refused a.number a.place) → ((a.number ≡ 0 → ⊥) → (a.die ≡ 0) × (a.at ≡ 0)) → shown_search (search_of a) ≡ a
unfolding search_of refused accepted
shown_searched a (answers_ok is) none =
    let number : a.number ≡ 0 = ap (λ (v : Verdict). v.number) is in
    let place : a.place ≡ 0 = ap (λ (v : Verdict). v.place) is in
    simp (eq-eqb a.number 0 number) (λ i. record { number = sym number i; place = sym place i; die = a.die; at = a.at })
shown_searched a (answers_err r is) none =
    let rest = none (not_none r is) in
    simp (ne_eqb a.number 0 (not_none r is), given_back r is) (λ i. record { number = sym (number_is r is) i; place = sym (place_is r is) i; die = sym rest.0 i; at = sym rest.1 i })

-- and those of an answer of filing
pub shown_filed : (a : FilingAnswer) → Answered shown_drawer (refused a.number a.place) → ((a.number ≡ 0 → ⊥) → a.count ≡ 0) → shown_filing (filing_of a) ≡ a
unfolding filing_of refused accepted
shown_filed a (answers_ok is) none =
    let number : a.number ≡ 0 = ap (λ (v : Verdict). v.number) is in
    let place : a.place ≡ 0 = ap (λ (v : Verdict). v.place) is in
    simp (eq-eqb a.number 0 number) (λ i. record { number = sym number i; place = sym place i; count = a.count })
shown_filed a (answers_err r is) none =
    let rest = none (not_none r is) in
    simp (ne_eqb a.number 0 (not_none r is), given_back r is) (λ i. record { number = sym (number_is r is) i; place = sym (place_is r is) i; count = sym rest i })

-- the numbers that search's answer stands for are the definition's
pub shown_search_lem : (g : Given) (D : Drawer) → shown_search (search_of (search_answer g D)) ≡ search_answer g D
unfolding search_answer accepted refused
shown_search_lem g D = shown_searched (search_answer g D) (at (tested (accepts (judge_search g D)))) (none (tested (accepts (judge_search g D))))
  where
    at : Tested (accepts (judge_search g D)) → Answered shown_drawer (refused (search_answer g D).number (search_answer g D).place)
    at (passes e) = answers_ok (simp e)
    at (fails e) = simp e (search_answered g D)

    none : Tested (accepts (judge_search g D)) → ((search_answer g D).number ≡ 0 → ⊥) → ((search_answer g D).die ≡ 0) × ((search_answer g D).at ≡ 0)
    none (passes e) some = absurd (some (simp e))
    none (fails e) some = (simp e, simp e)

-- the numbers that filing's answer stands for are the definition's
pub shown_filing_lem : (die : ℕ) (g : Given) (D : Drawer) → shown_filing (filing_of (filing_answer die g D)) ≡ filing_answer die g D
unfolding filing_answer accepted refused
shown_filing_lem die g D = shown_filed (filing_answer die g D) (at (tested (accepts (judge_filing die g D)))) (none (tested (accepts (judge_filing die g D))))
  where
    at : Tested (accepts (judge_filing die g D)) → Answered shown_drawer (refused (filing_answer die g D).number (filing_answer die g D).place)
    at (passes e) = answers_ok (simp e)
    at (fails e) = simp e (filing_answered die g D)

    none : Tested (accepts (judge_filing die g D)) → ((filing_answer die g D).number ≡ 0 → ⊥) → (filing_answer die g D).count ≡ 0
    none (passes e) some = absurd (some (simp e))
    none (fails e) some = simp e

pub drawer_only : (D : Drawer) (r s : Result Unit DrawerRefusal) → drawer_verdict r ≡ drawer_answer D → drawer_verdict s ≡ drawer_answer D → r ≡ s
drawer_only D r s a b = verdicts_only r s (a ∙ sym b)

pub search_only : (g : Given) (D : Drawer) (r s : Result Found DrawerRefusal) → shown_search r ≡ search_answer g D → shown_search s ≡ search_answer g D → r ≡ s
search_only g D r s a b = searches_only r s (a ∙ sym b)

pub own_bytes_only : (g : Given) (D : Drawer) (r s : List ℕ) → r ≡ own_bytes g D → s ≡ own_bytes g D → r ≡ s
own_bytes_only g D r s a b = a ∙ sym b

-- neither another answer nor other bytes
pub filing_only : (die : ℕ) (g : Given) (D : Drawer) (r s : Result ℕ DrawerRefusal) (o p : List ℕ) → FilesAs die g D r o → FilesAs die g D s p → (r ≡ s) × (o ≡ p)
filing_only die g D r s o p a b = (filings_only r s (a.answer ∙ sym b.answer), a.written ∙ sym b.written)
