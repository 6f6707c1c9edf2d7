-- A refusal goes straight back, and an accepted map's word is written.
use Rattle.std.proofs.Common.{arith, sym}
use Rattle.std.proofs.lemmas.Result.{err_from_is_err_and}
use Rattle.drawer.proofs.Writing.{made_refused, made_accepted, made_passed, signed_bounds, signed_fits, signed_shaped}
use Rattle.drawer.proofs.write.make_record.Goals as goal

pub returns-in_err-signature : goal.returns-in_err-signature
returns-in_err-signature c =
    let p = err_from_is_err_and c.from_residual.result c.from_residual.ensures.1 in
    rw (p.1, p.2) (made_refused _ _ (omega arith) c.signature.ensures _ c.in_err-signature.was)

pub overflow_mul-word : goal.overflow_mul-word
overflow_mul-word c = let b = signed_bounds _ _ (omega arith) c.signature.ensures _ c.in_ok-signature.was in omega (arith, b.table_most)

pub slice_bounds-word-end : goal.slice_bounds-word-end
slice_bounds-word-end c = signed_fits _ _ (omega arith) c.signature.ensures _ c.in_ok-signature.was

pub slice_bounds-record_of-end : goal.slice_bounds-record_of-end
slice_bounds-record_of-end c = let s = signed_shaped _ _ (omega arith) c.signature.ensures _ c.in_ok-signature.was in sym s.long

pub record_of-requires : goal.record_of-requires
record_of-requires c = signed_shaped _ _ (omega arith) c.signature.ensures _ c.in_ok-signature.was

pub returns : goal.returns
returns c = (
  made_accepted _ _ (omega arith) c.signature.ensures _ c.in_ok-signature.was,
  made_passed _ _ (omega arith) c.signature.ensures _ c.in_ok-signature.was _ _ c.record_of.ensures,
)
