-- Each rule's wrong entry is the answer, or the next rule is judged.
use Rattle.std.proofs.Common.{[], ◌∷◌, refl, arith}
use Rattle.maps.specs.Rules.{clash_rule, reverse_rule, compose_rule, over_rule, rules, judge_entries}
use Rattle.maps.specs.Given.{map_of}
use Rattle.maps.proofs.Least.{none_is}
use Rattle.maps.proofs.Rules.{over_none, done, past, rules_some, rules_none}
use Rattle.maps.proofs.shape.InShape.judge_entries.Goals as goal

pub returns-in-Some : goal.returns-in-Some
unfolding judge_entries rules
returns-in-Some c = rules_some done over_rule (clash_rule ∷ reverse_rule ∷ compose_rule ∷ []) (omega arith) c.in-Some.ensures

pub sew_back-requires : goal.sew_back-requires
unfolding map_of
sew_back-requires c = record { within = over_none _ c.args.self.shaped.bounds.dim_least (none_is c.in_default.ensures); zeros = c.requires }

pub returns-in-Some-sew_back : goal.returns-in-Some-sew_back
unfolding judge_entries rules
returns-in-Some-sew_back c =
    rules_some (past (none_is c.in_default.ensures) done) clash_rule (reverse_rule ∷ compose_rule ∷ []) (omega arith) c.in-Some-sew_back.ensures.wrong

pub returns-in-Some-wrong_entry : goal.returns-in-Some-wrong_entry
unfolding judge_entries rules
returns-in-Some-wrong_entry c =
    rules_some (past (none_is c.in_default.ensures) (past (none_is c.in_default-sew_back.ensures.wrong) done)) reverse_rule (compose_rule ∷ []) (omega arith)
    c.in-Some-wrong_entry.ensures

pub returns-in-Some-wrong_entry-2 : goal.returns-in-Some-wrong_entry-2
unfolding judge_entries rules
returns-in-Some-wrong_entry-2 c =
    rules_some (past (none_is c.in_default.ensures) (past (none_is c.in_default-sew_back.ensures.wrong) (past (none_is c.in_default-wrong_entry.ensures) done))) compose_rule []
    (omega arith) c.in-Some-wrong_entry-2.ensures

pub returns : goal.returns
unfolding judge_entries rules
returns c = (
  rules_none (past (none_is c.in_default.ensures) (past (none_is c.in_default-sew_back.ensures.wrong) (past (none_is c.in_default-wrong_entry.ensures) (past (none_is c.in_default-wrong_entry-2.ensures) done)))),
  c.in_default-sew_back.ensures.whole refl,
)
