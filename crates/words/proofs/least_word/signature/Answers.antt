use Rattle.std.proofs.Common.{ℕ, ◌++◌, ◌*◌, ◌≤◌, List, length, drop, sym, ap, ◌∙◌, arith}
use lib.Seq.{length-take-le}
use Rattle.std.proofs.lemmas.Result.{err_from_is_err_and}
use Rattle.maps.proofs.Answer.{ok_accepts}
use Rattle.words.proofs.Usable.{judged_clear, judged_check, judged_backs}
use Rattle.words.proofs.Sign.{signed_refused, signed_run, signing_room}
use Rattle.words.proofs.least_word.signature.Goals as goal

pub invariant_of-map : goal.invariant_of-map
invariant_of-map c = record { accepted = judged_check c.in_ok-judge.ensures; backs = judged_backs c.in_ok-judge.ensures }

pub returns-in_err-judge : goal.returns-in_err-judge
returns-in_err-judge c =
    let p = err_from_is_err_and c.from_residual.result c.from_residual.ensures.1 in
    rw (p.1, p.2) (signed_refused _ c.args.output.now _ c.in_err-judge.ensures.answer.verdict)

pub overflow_mul-size : goal.overflow_mul-size
overflow_mul-size c = omega (arith, (judged_clear c.in_ok-judge.ensures).1.bounds.table_most)

pub slice_bounds-copy_from_slice-end : goal.slice_bounds-copy_from_slice-end
slice_bounds-copy_from_slice-end c = signing_room _ c.args.output.now (ok_accepts _ c.in_ok-judge.ensures.answer.verdict)

pub slice_bounds-copy_from_slice-end-2 : goal.slice_bounds-copy_from_slice-end-2
slice_bounds-copy_from_slice-end-2 c = sym (length-take-le _ c.args.output.now (signing_room _ c.args.output.now (ok_accepts _ c.in_ok-judge.ensures.answer.verdict)))

pub shared_ref_as_front-copy_from_slice : goal.shared_ref_as_front-copy_from_slice
shared_ref_as_front-copy_from_slice c = omega (arith, (judged_clear c.in_ok-judge.ensures).1.bounds.table_most)

pub slice_bounds-copy_from_slice-end-3 : goal.slice_bounds-copy_from_slice-end-3
slice_bounds-copy_from_slice-end-3 c =
    let few : c.args.table.n * c.args.table.m ≤ length c.run-found.new.self.word = omega (arith, (judged_clear c.in_ok-judge.ensures).1.bounds.table_most, c.run-found.ensures.long) in
    sym (length-take-le _ c.run-found.new.self.word few)

pub copy_from_slice-requires : goal.copy_from_slice-requires
copy_from_slice-requires c =
    let few : c.args.table.n * c.args.table.m ≤ length c.run-found.new.self.word = omega (arith, (judged_clear c.in_ok-judge.ensures).1.bounds.table_most, c.run-found.ensures.long) in
    length-take-le _ c.args.output.now (signing_room _ c.args.output.now (ok_accepts _ c.in_ok-judge.ensures.answer.verdict)) ∙ sym (length-take-le _ c.run-found.new.self.word few)

pub returns : goal.returns
returns c =
    let accepting = ok_accepts _ c.in_ok-judge.ensures.answer.verdict in
    signed_run _ c.args.output.now accepting c.run-found.ensures (ap (λ (l : List ℕ). l ++ drop (c.args.table.n * c.args.table.m) c.args.output.now) c.copy_from_slice.ensures.after)
