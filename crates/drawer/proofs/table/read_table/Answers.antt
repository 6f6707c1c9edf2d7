-- Bytes that are no record, or a list that is too short, are not read; else the table of a layout is put in front.
use Rattle.std.proofs.Common.{◌∙◌, arith}
use Rattle.drawer.proofs.Answers.{unread_long, unread_room, read_layout, read_fault}
use Rattle.drawer.proofs.table.read_table.Goals as goal
use Rattle.drawer.proofs.table.read_table.Goals.{in-Ok, in_default}

pub returns-in_err-filed : goal.returns-in_err-filed
returns-in_err-filed c = rw c.from_residual.ensures (unread_long _ _ c.in_err-filed.ensures)

pub returns-then-table-lt1020 : goal.returns-then-table-lt1020
returns-then-table-lt1020 c = unread_room _ _ (omega arith)

pub returns : goal.returns
returns c =
    elim c.match-reading.branch [
      | in-Ok w ↦
          read_layout _ _ _ c.in_ok-filed.ensures.1 c.in_ok-filed.ensures.0 (omega arith) _ c.die_of.ensures _ _ _
          w.in-Ok.ensures.reads w.reading-is (w.table-is ∙ w.read_word.ensures)
      | in_default w ↦
          read_fault _ _ _ c.in_ok-filed.ensures.1 c.in_ok-filed.ensures.0 (omega arith) _ c.die_of.ensures _ _ _
          c.judge_table-reading.ensures.reads w.reading-is (λ l. w.in_default.not-Ok l) w.table-is
    ]
