-- The first table, the second, n and m, and then the list.
use Rattle.std.proofs.Common.{◌≡◌, ap, ◌∙◌, rules}
use Rattle.std.proofs.lemmas.Result.{err_from_is_err_and}
use Rattle.maps.specs.Verdict.{accepted, of_second}
use Rattle.maps.specs.Shown.{given, verdict_of}
use Rattle.labels.specs.Judging.{check_answer}
use Rattle.matches.specs.Shown.{list_verdict_of}
use Rattle.matches.proofs.Shown.{second_accepted}
use Rattle.matches.proofs.Inside.{checked, answer_first, answer_second, answer_unlike, answer_alike}
use Rattle.matches.proofs.judge_list.Goals as goal

pub returns-in_err-map_err : goal.returns-in_err-map_err
returns-in_err-map_err c =
    let shown : list_verdict_of c.map_err.result ≡ check_answer (given c.args.first) = search rules in
    let exit = err_from_is_err_and c.from_residual.result c.from_residual.ensures.1 in
    rw (exit.1, exit.2) (answer_first _ _ _ _ (rw c.in_err-map_err.was at shown))

pub returns-in_err-map_err-2 : goal.returns-in_err-map_err-2
returns-in_err-map_err-2 c =
    let first : accepted ≡ check_answer (given c.args.first) = search rules in
    let shown : list_verdict_of c.map_err-2.result ≡ of_second (verdict_of c.check-2.result) = search (rules, second_accepted) in
    let exit = err_from_is_err_and c.from_residual-in_err-map_err-2.result c.from_residual-in_err-map_err-2.ensures.1 in
    rw (exit.1, exit.2) (answer_second _ _ _ first _ ((rw c.in_err-map_err-2.was at shown) ∙ ap of_second c.check-2.ensures))

pub returns-then-first-second : goal.returns-then-first-second
returns-then-first-second c =
    let first : accepted ≡ check_answer (given c.args.first) = search rules in
    let second : accepted ≡ check_answer (given c.args.second) = search rules in
    answer_unlike (given c.args.first) (given c.args.second) _ first second c.then-first-second.either

pub invariant_of-pair : goal.invariant_of-pair
invariant_of-pair c =
    let first : accepted ≡ check_answer (given c.args.first) = search rules in
    let second : accepted ≡ check_answer (given c.args.second) = search rules in
    record {
      first_shaped = checked _ first;
      second_shaped = checked _ second;
      same_dim = c.if-first-second.false;
      same_darts = c.if-first-second-2.false;
    }

pub returns : goal.returns
returns c =
    let first : accepted ≡ check_answer (given c.args.first) = search rules in
    let second : accepted ≡ check_answer (given c.args.second) = search rules in
    c.judge.ensures ∙ answer_alike (given c.args.first) (given c.args.second) _ first second c.if-first-second.false c.if-first-second-2.false
