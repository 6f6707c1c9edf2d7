-- `words::matching::match_maps` meets its contract: the first map's word from dart 1 is worked out once, and the starts of the second
-- are tried against it.
use native.Mathlib.Nat.{le_refl}
use Rattle.std.proofs.Common.{◌≡◌, ℕ, ◌*◌, ◌≤◌, true, List, length, take, inl, inr, refl, ap₂, sym, ap, ◌∙◌, arith}
use mathlib.Core.Logic.{◌⊎◌}
use Rattle.std.specs.Prelude.{Option, None, Some, Result, Ok, Err}
use Rattle.std.specs.Option.{ok_or}
use Rattle.maps.specs.Least.{least, found_at}
use Rattle.maps.specs.Given.{map_of}
use Rattle.maps.proofs.Least.{some_is, none_is}
use Rattle.maps.proofs.Accepted.{darts_most}
use lib.Seq.{length-take-le}
use Rattle.std.proofs.lemmas.Result.{err_from_is_err_and}
use Rattle.labels.specs.Judging.{Judges, table_answer, check_answer}
use Rattle.maps.specs.Verdict.{accepts}
use Rattle.maps.specs.Shown.{given, verdict_of}
use Rattle.maps.specs.declared.Output.TheVariants as output
use Rattle.maps.proofs.Answer.{ok_accepts, err_refuses}
use Rattle.words.specs.Match.{image_of_first, Unlike}
use Rattle.words.specs.Sign.{over}
use Rattle.words.specs.Words.{yields}
use Rattle.words.specs.declared.matching.Mismatch.{Mismatch}
use Rattle.words.specs.declared.matching.Mismatch.TheVariants.{First, Second, Unmatched}
use Rattle.words.proofs.Usable.{judged_clear, judged_check, judged_backs}
use Rattle.words.proofs.Starts.{seeks_ready}
use Rattle.words.proofs.Tried.{Spelt, spelt}
use Rattle.words.proofs.Match.{as_mismatch, no_mismatch, matches_refused, matches_passed, match_first, match_second, match_unlike, match_none, match_passed, Cleared, match_clear}
use Rattle.words.proofs.Images.{images_ready, images_shown}
use Rattle.words.proofs.matching.match_maps.Goals as goal
use Rattle.words.proofs.matching.match_maps.Goals.{In_ok-map_err, After-try_start, In_ok-map_err-2, After-first_alike}

pub returns-in_err-map_err : goal.returns-in_err-map_err
returns-in_err-map_err c =
    let p = err_from_is_err_and c.from_residual.result c.from_residual.ensures.1 in
    let t = as_mismatch First c.map_err.ensures.cases _ c.in_err-map_err.was in
    let v = ap verdict_of (sym t.1) ∙ c.judge.ensures.answer.verdict in
    rw (p.1, p.2, t.2) (matches_refused (First t.0) (match_first _ _ _ (err_refuses _ v) ∙ sym v))

-- the first table has passed
passed : (c : In_ok-map_err) → Judges (output.Images (length c.args.output.now)) (given c.args.first) (Ok c.in_ok-map_err.field-0) c.judge.new.back c.judge.new.labels
passed c = rw (no_mismatch First c.map_err.ensures.cases _ c.in_ok-map_err.was) at c.judge.ensures

accepting : (c : In_ok-map_err) → accepts (table_answer (output.Images (length c.args.output.now)) (given c.args.first)) ≡ true
accepting c = ok_accepts _ (passed c).answer.verdict

pub invariant_of-map : goal.invariant_of-map
invariant_of-map c =
    let j = passed (goal.at.invariant_of-map c).In_ok-map_err in
    record { accepted = judged_check j; backs = judged_backs j }

pub try_start-requires : goal.try_start-requires
try_start-requires c =
    seeks_ready (le_refl 1, (judged_clear (passed (goal.at.try_start-requires c).In_ok-map_err)).2.bounds.darts_least)

pub returns-in_err-map_err-2 : goal.returns-in_err-map_err-2
unfolding check_answer
returns-in_err-map_err-2 c =
    let p = err_from_is_err_and c.from_residual-in_err-map_err-2.result c.from_residual-in_err-map_err-2.ensures.1 in
    let t = as_mismatch Second c.map_err-2.ensures.cases _ c.in_err-map_err-2.was in
    let v = ap verdict_of (sym t.1) ∙ c.judge-2.ensures.answer.verdict in
    rw (p.1, p.2, t.2) (matches_refused (Second t.0) (match_second _ _ _ (accepting (goal.at.returns-in_err-map_err-2 c).In_ok-map_err) (err_refuses _ v) ∙ rw v refl))

-- and the second
passed2 : (c : In_ok-map_err-2) → Judges output.Nothing (given c.args.second) (Ok c.in_ok-map_err-2.field-0) c.judge-2.new.back c.judge-2.new.labels
passed2 c = rw (no_mismatch Second c.map_err-2.ensures.cases _ c.in_ok-map_err-2.was) at c.judge-2.ensures

accepting2 : (c : In_ok-map_err-2) → accepts (check_answer (given c.args.second)) ≡ true
accepting2 c = judged_check (passed2 c)

pub returns-then-first-second : goal.returns-then-first-second
returns-then-first-second c =
    let at = goal.at.returns-then-first-second c in
    matches_refused Unmatched (match_unlike _ _ _ (accepting at.In_ok-map_err) (accepting2 at.In_ok-map_err-2) (unlike c.then-first-second.either))
  where
    unlike : (¬ (c.args.first.n ≡ c.args.second.n)) ⊎ ((c.args.first.n ≡ c.args.second.n) × (¬ (c.args.first.m ≡ c.args.second.m))) → Unlike (given c.args.first) (given c.args.second)
    unlike (inl n) = inl n
    unlike (inr m) = inr m.1

pub invariant_of-map-2 : goal.invariant_of-map-2
invariant_of-map-2 c =
    let j = passed2 (goal.at.invariant_of-map-2 c).In_ok-map_err-2 in
    record { accepted = judged_check j; backs = judged_backs j }

-- what the first run has left
first_run : (c : After-try_start) → Spelt (given c.args.first) c.try_start.new.queue c.try_start.new.word
first_run c = spelt (judged_clear (passed (goal.at.After-try_start c).In_ok-map_err)).2 c.try_start.ensures

-- the start sought is the image of dart 1
image : (c : After-first_alike) → c.first_alike.result ≡ found_at (image_of_first (map_of (given c.args.first)) (map_of (given c.args.second)))
unfolding image_of_first map_of
image c =
    let s = first_run (goal.at.After-first_alike c).After-try_start in
    c.first_alike.ensures.found
    ∙ ap (λ (w : List ℕ). found_at (least c.args.second.m (yields (map_of (given c.args.second)) w)))
    (ap (λ (k : ℕ). take k c.try_start.new.word) (sym (ap₂ (λ (x y : ℕ). x * y) c.if-first-second.false c.if-first-second-2.false)) ∙ s.numbers)

-- a start that was sought, by what `ok_or` makes of it
none_left : {o : Option ℕ} {e f : Mismatch} → Err e ≡ ok_or o f → (o ≡ None) × (e ≡ f)
none_left {o} {e} {f} is = at o is
  where
    at : (p : Option ℕ) → Err e ≡ ok_or p f → (p ≡ None) × (e ≡ f)
    at None is = (refl, cc)
    at (Some d) is = cc

some_left : {o : Option ℕ} {d : ℕ} (f : Mismatch) → ◌≡◌ {A = Result ℕ Mismatch} (Ok d) (ok_or o f) → o ≡ Some d
some_left {o} {d} f is = at o is
  where
    at : (p : Option ℕ) → ◌≡◌ {A = Result ℕ Mismatch} (Ok d) (ok_or p f) → p ≡ Some d
    at None is = cc
    at (Some e) is = cc

pub returns-in_err-ok_or : goal.returns-in_err-ok_or
returns-in_err-ok_or c =
    let at = goal.at.returns-in_err-ok_or c in
    let p = err_from_is_err_and c.from_residual-in_err-ok_or.result c.from_residual-in_err-ok_or.ensures.1 in
    let none = none_left (sym c.in_err-ok_or.was ∙ c.ok_or.ensures.value) in
    rw (p.1, p.2, none.1)
    (matches_refused Unmatched
    (match_none _ _ _ (accepting at.In_ok-map_err) (accepting2 at.In_ok-map_err-2) c.if-first-second.false c.if-first-second-2.false (none_is (sym none.0 ∙ image at.After-first_alike))))

-- both tables have passed
clear : (c : After-first_alike) → Cleared (given c.args.first) (given c.args.second) (length c.args.output.now)
unfolding check_answer
clear c =
    let at = goal.at.After-first_alike c in
    match_clear _ _ _ (sym (passed at.In_ok-map_err).answer.verdict) (sym (passed2 at.In_ok-map_err-2).answer.verdict)

-- the queues have room for the darts
few : (c : After-first_alike) → c.args.first.m ≤ 1020
unfolding map_of
few c = darts_most (clear c).first.bounds

pub slice_bounds-queue-end : goal.slice_bounds-queue-end
slice_bounds-queue-end c = omega (arith, few (goal.at.slice_bounds-queue-end c).After-first_alike)

pub slice_bounds-show-end : goal.slice_bounds-show-end
slice_bounds-show-end c = sym (length-take-le c.args.first.m c.try_start.new.queue (omega (arith, few (goal.at.slice_bounds-show-end c).After-first_alike)))

pub slice_bounds-images-end : goal.slice_bounds-images-end
slice_bounds-images-end c = omega (arith, few (goal.at.slice_bounds-images-end c).After-first_alike)

pub slice_bounds-show-end-2 : goal.slice_bounds-show-end-2
slice_bounds-show-end-2 c = sym (length-take-le c.args.first.m c.first_alike.new.queue (omega (arith, few (goal.at.slice_bounds-show-end-2 c).After-first_alike)))

pub show-requires : goal.show-requires
show-requires c =
    let at = goal.at.show-requires c in
    let both = clear at.After-first_alike in
    images_ready _ both.first _ _ (omega arith) (omega arith) (first_run at.After-try_start).order both.roomy

pub returns : goal.returns
returns c =
    let at = goal.at.returns c in
    let some = some_left Unmatched (sym c.in_ok-ok_or.was ∙ c.ok_or.ensures.value) in
    let is = some_is (sym some ∙ image at.After-first_alike) in
    let there = rw (← is.0) at (c.first_alike.ensures.whole _ some) in
    matches_passed tt
    (match_passed _ _ _ (accepting at.In_ok-map_err) (accepting2 at.In_ok-map_err-2) c.if-first-second.false c.if-first-second-2.false (omega (arith, is)))
    (c.show.ensures
    ∙ ap (λ (l : List ℕ). over l c.args.output.now)
    (images_shown _ (clear at.After-first_alike).first _ _ (given c.args.second) (omega arith) (first_run at.After-try_start).order c.if-first-second-2.false there))
