-- The check's answer decides.
use Rattle.std.proofs.lemmas.Result.{err_from_is_err_and}
use Rattle.drawer.proofs.Inside.{table_passed, table_refused}
use Rattle.drawer.proofs.table.judge_table.Goals as goal

pub returns-in_err-check-clause-reads : goal.returns-in_err-check-clause-reads
returns-in_err-check-clause-reads c =
    let p = err_from_is_err_and c.from_residual.result c.from_residual.ensures.1 in
    rw (p.1, p.2) (table_refused _ _ c.read_header-header.ensures.header _ c.in-Ok.is _ c.filed_table.ensures _ c.check.ensures _ c.in_err-check.was)

pub returns-clause-reads : goal.returns-clause-reads
returns-clause-reads c = table_passed _ _ c.read_header-header.ensures.header _ c.in-Ok.is _ c.filed_table.ensures _ c.check.ensures _ c.in_ok-check.was
