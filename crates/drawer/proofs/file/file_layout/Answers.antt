-- What `drawer::file::file_layout` answers and leaves. Assumes nothing.
use mathlib.Core.Path.{◌∙◌}
use native.Mathlib.Omega.{arith}
use Rattle.std.proofs.lemmas.Result.{err_from_is_err_and}
use Rattle.drawer.proofs.Calls.{made_layout, filing_map, filing_next, filing_done}
use Rattle.drawer.proofs.file.file_layout.Goals as goal

pub returns-in_err-filed : goal.returns-in_err-filed
returns-in_err-filed c =
    let p = err_from_is_err_and c.from_residual.result c.from_residual.ensures.1 in
    rw (p.1, p.2) (filing_map _ _ _ _ c.in_err-filed.ensures)

pub returns-in_err-judge_next : goal.returns-in_err-judge_next
returns-in_err-judge_next c =
    let p = err_from_is_err_and c.from_residual-in_err-judge_next.result c.from_residual-in_err-judge_next.ensures.1 in
    let made = c.in_ok-filed.ensures in
    rw (p.1, p.2) (filing_next _ _ _ made.0 _ (rw (made.1, made_layout c.args.die _ (omega arith) made.0) at c.in_err-judge_next.ensures))

pub returns : goal.returns
returns c =
    let made = c.in_ok-filed.ensures in
    filing_done _ _ _ made.0 (rw (made.1, made_layout c.args.die _ (omega arith) made.0) at c.in_ok-judge_next.ensures.2) _ (c.copy_from_slice.ensures.after ∙ made.1)
