-- Past the tests, a dart is bad where its value is used.
use Rattle.std.proofs.Common.{arith, sym, ◌∙◌}
use Rattle.std.proofs.lemmas.Bool.Decides.{nat_tests}
use Rattle.maps.proofs.Least.{nth_one_more, passed_start, passed_turn, search_hit}
use Rattle.matches.specs.Judge.{bad_image}
use Rattle.matches.proofs.Inside.{users_start, users_given, bad_read}
use Rattle.matches.proofs.first_bad.Goals as goal

pub loop-index-init : goal.loop-index-init
loop-index-init c = record { users = users_start c.args.list.now; so_far = passed_start _ }

pub returns-then-e-eq0 : goal.returns-then-e-eq0
unfolding bad_image
returns-then-e-eq0 c =
    let value = c.from-e.ensures ∙ sym (nth_one_more c.args.list.now c.loop-index.index) in
    let read = bad_read c.loop-index.invariant.users _ c.from-e.result value c.requires in
    search_hit _ c.loop-index.invariant.so_far (omega arith) (omega arith) (read ∙ grind (arith, nat_tests))

pub loop-index-preserved : goal.loop-index-preserved
loop-index-preserved c =
    let value = c.from-e.ensures ∙ sym (nth_one_more c.args.list.now c.loop-index.index) in
    let read = bad_read c.loop-index.invariant.users _ c.from-e.result value c.requires in
    record {
      users = users_given c.loop-index.invariant.users c.from-e.result value (omega arith) (omega arith);
      so_far = passed_turn _ c.loop-index.invariant.so_far (read ∙ grind (arith, nat_tests));
    }
