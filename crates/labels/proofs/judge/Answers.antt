use Rattle.std.proofs.Common.{rules}
use Rattle.labels.proofs.Judging.{passed_shaped, passed_within, passed_backs, passed_refused}
use Rattle.labels.proofs.judge.Goals as goal

pub invariant_of-sewn : goal.invariant_of-sewn
invariant_of-sewn c =
    let passed = c.judge.ensures in
    record {
      shaped = passed_shaped _ passed (search rules);
      within = passed_within _ passed (search rules);
      backs = passed_backs _ passed (search rules);
    }

pub returns-in-Some : goal.returns-in-Some
returns-in-Some c = passed_refused _ c.judge.ensures (search rules) c.in-Some.ensures.least c.in-Some.ensures.blank
