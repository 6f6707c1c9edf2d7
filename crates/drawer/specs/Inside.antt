-- For the functions inside: no public contract cites this file.
--     header_of r                the fields of the record r, or the first fault up to the filling
-- Assumes nothing.
use Rattle.std.specs.Prelude.{ℕ, cond, Result, Ok, Err, List, eqb, leb}
use Rattle.maps.specs.Verdict.{accepts}
use Rattle.maps.specs.Rules.{judge_dimension, judge_size}
use Rattle.drawer.specs.Record.{filed_in, zero_byte_in, filling_in, all_zero}
use Rattle.drawer.specs.declared.fields.Layout.{Layout}
use Rattle.drawer.specs.declared.fields.RecordFault.{RecordFault}
use Rattle.drawer.specs.declared.fields.RecordFault.TheVariants.{Dimension, Size, NoDie, ZeroByte, Filling}

-- the fields up to the filling, by the types of `src/`, or the first fault in `read_table`'s order
unfoldable pub header_of : List ℕ → Result Layout RecordFault
header_of r =
    let f = filed_in r in
    let l = f.layout in
    cond (accepts (judge_dimension l))
    (cond (accepts (judge_size l))
    (cond (leb 1 f.die)
    (cond (eqb (zero_byte_in r) 0)
    (cond (all_zero (filling_in r))
    (Ok (record { die = f.die; n = l.n; m = l.m }))
    (Err Filling))
    (Err ZeroByte))
    (Err NoDie))
    (Err Size))
    (Err Dimension)
