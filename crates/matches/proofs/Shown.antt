-- The laws of `specs/Shown.antt`: what the display shows tells the answers apart.
--     shown_second              a refusal of a second table is 20 higher
--     second_accepted           a second table that is accepted stays so
--     list_refuses              a refusal shows a number from 1 on
--     list_answered             some answer shows each verdict
--     list_shown_only           answers that show the same are the same
-- Assumes nothing.
use Prim.Native.Nat.{ℕ, ◌+◌, ◌-◌}
use mathlib.Core.Path.{◌≡◌, refl, sym, ap, ◌∙◌}
use mathlib.Core.Bool.{cond, false}
use mathlib.Core.List.{List}
use native.Mathlib.Omega.{arith}
use borrow.Author.Tests.{ne_eqb}
use lib.Dec.{eqb, ltb}
use Rattle.std.specs.Prelude.{Result, Ok, Err}
use Rattle.maps.specs.Given.{Given}
use Rattle.maps.specs.Verdict.{Verdict, accepted, refused, accepts, of_second}
use Rattle.maps.specs.Shown.{shown_refusal}
use Rattle.maps.proofs.Answer.{refusal_at, refusal_refuses, Answered, all_done, one_more, answered_in_order, answered_unless, answered_at_least, answered_as, answered_second}
use Rattle.maps.specs.declared.Refusal.{Refusal}
use Rattle.maps.specs.declared.Refusal.TheVariants.{Dimension, Size, Length, Room, Exceeds, GivenBefore, Unanswered, Parted, NotReached}
use Rattle.labels.proofs.Judging.{check_answered}
use Rattle.words.specs.Match.{judge_pair}
use Rattle.matches.specs.Judge.{judge_answer}
use Rattle.matches.specs.Shown.{shown_list_refusal, list_verdict_of}
use Rattle.matches.specs.declared.ListRefusal.{ListRefusal}
use Rattle.matches.specs.declared.ListRefusal.TheVariants.{First, Second, Unlike, Image, NotKept}

pub shown_second : (r : Refusal) → of_second (shown_refusal r) ≡ refused ((shown_refusal r).number + 20) (shown_refusal r).place
unfolding of_second
shown_second r =
    let higher : 20 + (shown_refusal r).number ≡ (shown_refusal r).number + 20 = omega arith in
    simp (refusal_refuses r) (ap (λ (k : ℕ). refused k (shown_refusal r).place) higher)

pub second_accepted : of_second accepted ≡ accepted
unfolding of_second accepts accepted
second_accepted = refl

-- a refusal shows a number from 1 on
pub list_refuses : (r : ListRefusal) → accepts (shown_list_refusal r) ≡ false
unfolding accepts refused
list_refuses (First r) = refusal_refuses r
list_refuses (Second r) = rw (shown_second r) (ne_eqb ((shown_refusal r).number + 20) 0 (λ z. omega arith))
list_refuses Unlike = refl
list_refuses (Image dart) = refl
list_refuses (NotKept dart) = refl

-- the refusal, and the answer, that show a number and a place
abbrev list_refusal_of : ℕ → ℕ → ListRefusal
list_refusal_of k p =
    cond (eqb k 10) Unlike
    (cond (eqb k 11) (Image p)
    (cond (eqb k 12) (NotKept p)
    (cond (ltb k 10) (First (refusal_at k p)) (Second (refusal_at (k - 20) p)))))

abbrev answer_of : Verdict → Result Unit ListRefusal
answer_of v = cond (eqb v.number 0) (Ok tt) (Err (list_refusal_of v.number v.place))

known : (r : Result Unit ListRefusal) → answer_of (list_verdict_of r) ≡ r
unfolding accepted refused of_second accepts refusal_at
known (Ok u) = refl
known (Err (First Dimension)) = refl
known (Err (First Size)) = refl
known (Err (First Length)) = refl
known (Err (First Room)) = refl
known (Err (First (Exceeds entry))) = refl
known (Err (First (GivenBefore entry))) = refl
known (Err (First (Unanswered entry))) = refl
known (Err (First (Parted entry))) = refl
known (Err (First (NotReached dart))) = refl
known (Err (Second Dimension)) = refl
known (Err (Second Size)) = refl
known (Err (Second Length)) = refl
known (Err (Second Room)) = refl
known (Err (Second (Exceeds entry))) = refl
known (Err (Second (GivenBefore entry))) = refl
known (Err (Second (Unanswered entry))) = refl
known (Err (Second (Parted entry))) = refl
known (Err (Second (NotReached dart))) = refl
known (Err Unlike) = refl
known (Err (Image dart)) = refl
known (Err (NotKept dart)) = refl

-- some answer shows each verdict
pub list_answered : (a b : Given) (f : List ℕ) → Answered shown_list_refusal (judge_answer a b f)
unfolding judge_answer judge_pair
list_answered a b f =
    answered_in_order
    (one_more (answered_as First (λ r. refl) (check_answered a))
    (one_more (answered_second Second (λ r. refl) (check_answered b))
    (one_more (answered_unless _ 10 0 Unlike refl)
    (one_more (answered_unless _ 11 0 (Image 0) refl)
    (one_more (answered_at_least 11 _ (Image _) refl)
    (one_more (answered_at_least 12 _ (NotKept _) refl) all_done))))))

-- answers that show the same are the same
pub list_shown_only : (r s : Result Unit ListRefusal) → list_verdict_of r ≡ list_verdict_of s → r ≡ s
list_shown_only r s same = sym (known r) ∙ ap answer_of same ∙ known s
