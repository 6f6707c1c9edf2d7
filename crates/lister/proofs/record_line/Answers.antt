-- A fault has its line, and a layout that of its table.
use Rattle.std.proofs.Common.{sym, ◌∙◌, arith}
use Rattle.std.proofs.lemmas.List.{length-take-le}
use Rattle.lister.proofs.Listed.{entry_some, fault_listed, small, takes, map_listed}
use Rattle.lister.proofs.record_line.Goals as goal

pub unwrap-die-requires : goal.unwrap-die-requires
unwrap-die-requires c = entry_some c.args.bytes.now _ (omega arith) (omega arith) _ c.read_table.ensures.answer

pub overflow_mul-numbers : goal.overflow_mul-numbers
overflow_mul-numbers c =
    let answer = rw c.unwrap-die.ensures at c.read_table.ensures.answer in
    let fits = small c.args.bytes.now _ (omega arith) (omega arith) _ answer _ c.in-Ok.is _ c.read_table.ensures.written in
    omega (arith, fits)

pub slice_bounds-numbers-end : goal.slice_bounds-numbers-end
slice_bounds-numbers-end c =
    let answer = rw c.unwrap-die.ensures at c.read_table.ensures.answer in
    let fits = small c.args.bytes.now _ (omega arith) (omega arith) _ answer _ c.in-Ok.is _ c.read_table.ensures.written in
    omega (arith, fits)

pub slice_bounds-numbers-end-in-Ok : goal.slice_bounds-numbers-end-in-Ok
slice_bounds-numbers-end-in-Ok c =
    let answer = rw c.unwrap-die.ensures at c.read_table.ensures.answer in
    let fits = small c.args.bytes.now _ (omega arith) (omega arith) _ answer _ c.in-Ok.is _ c.read_table.ensures.written in
    sym (length-take-le _ _ (omega (arith, fits)))

pub table_line-requires : goal.table_line-requires
table_line-requires c =
    let answer = rw c.unwrap-die.ensures at c.read_table.ensures.answer in
    takes c.args.bytes.now _ (omega arith) (omega arith) _ answer _ c.in-Ok.is _ c.read_table.ensures.written

pub returns-in-Ok : goal.returns-in-Ok
returns-in-Ok c =
    let answer = rw c.unwrap-die.ensures at c.read_table.ensures.answer in
    c.table_line.ensures
    ∙ map_listed c.args.bytes.now _ (omega arith) (omega arith) _ answer _ c.in-Ok.is _ c.read_table.ensures.written _

pub returns-in-Err : goal.returns-in-Err
returns-in-Err c =
    let answer = rw c.unwrap-die.ensures at c.read_table.ensures.answer in
    c.fault_line.ensures ∙ fault_listed c.args.bytes.now _ (omega arith) (omega arith) _ answer _ _ c.in-Err.is
