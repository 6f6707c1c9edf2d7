-- `words::own_signature::own_word` meets its contract: a refusal goes straight back, and an accepted table is held to its signature.
use Rattle.std.proofs.lemmas.Result.{err_from_is_err_and}
use Rattle.labels.specs.Judging.{check_answer}
use Rattle.words.proofs.Usable.{judged_check, judged_backs}
use Rattle.words.proofs.OwnWord.{own_refused, own_told}
use Rattle.words.proofs.own_signature.own_word.Goals as goal

pub invariant_of-map : goal.invariant_of-map
invariant_of-map c = record { accepted = judged_check c.in_ok-judge.ensures; backs = judged_backs c.in_ok-judge.ensures }

pub returns-in_err-judge : goal.returns-in_err-judge
unfolding check_answer
returns-in_err-judge c =
    let p = err_from_is_err_and c.from_residual.result c.from_residual.ensures.1 in
    rw (p.1, p.2) (own_refused _ _ c.in_err-judge.ensures.answer.verdict)

pub returns : goal.returns
unfolding check_answer
returns c = own_told _ c.in_ok-judge.ensures.answer.verdict _ c.is_own.ensures
