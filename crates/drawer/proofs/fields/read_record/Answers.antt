-- The answer on the word decides.
use Rattle.std.proofs.Common.{◌∙◌, ap}
use Rattle.std.specs.Prelude.{Ok}
use Rattle.std.proofs.lemmas.Result.{err_from_is_err_and}
use Rattle.drawer.proofs.Inside.{record_signed, record_other, record_refused}
use Rattle.drawer.proofs.fields.read_record.Goals as goal

pub returns-in_err-own_word : goal.returns-in_err-own_word
returns-in_err-own_word c =
    let p = err_from_is_err_and c.from_residual.result c.from_residual.ensures.1 in
    rw (p.1, p.2) (record_refused _ _ c.read_header-header.ensures.header _ c.in-Ok.is _ c.filed_table.ensures _ c.own_word.ensures _ c.in_err-own_word.was)

pub returns-then-branch : goal.returns-then-branch
returns-then-branch c = record_signed _ _ c.read_header-header.ensures.header _ c.in-Ok.is _ c.filed_table.ensures _ c.own_word.ensures (c.in_ok-own_word.was ∙ ap Ok c.if-branch.true)

pub returns-else-branch : goal.returns-else-branch
returns-else-branch c = record_other _ _ c.read_header-header.ensures.header _ c.in-Ok.is _ c.filed_table.ensures _ c.own_word.ensures (c.in_ok-own_word.was ∙ ap Ok c.if-branch.false)
