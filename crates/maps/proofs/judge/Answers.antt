-- The shape's refusal is the answer, or the entries' answer is.
use Rattle.std.proofs.Common.{refl, sym, ◌∙◌}
use Rattle.std.proofs.lemmas.Result.{err_from_is_err_and}
use Rattle.maps.proofs.Answer.{as_refused, entries_refused, entries_passed}
use Rattle.maps.proofs.judge.Goals as goal

pub returns-in_err-shaped : goal.returns-in_err-shaped
returns-in_err-shaped c = let p = err_from_is_err_and c.from_residual.result c.from_residual.ensures.1 in rw (p.1, p.2) (as_refused _ c.in_err-shaped.ensures refl)

pub returns-then-is_err : goal.returns-then-is_err
returns-then-is_err c = entries_refused _ _ (sym c.is_err.ensures.value ∙ c.if-is_err.true) c.in_ok-shaped.ensures c.judge_entries-judged.ensures

pub returns-else-is_err : goal.returns-else-is_err
returns-else-is_err c = entries_passed _ _ (sym c.is_err.ensures.value ∙ c.if-is_err.false) c.in_ok-shaped.ensures c.judge_entries-judged.ensures
