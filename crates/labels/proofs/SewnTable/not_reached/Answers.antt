use Rattle.labels.proofs.Inside.{cleared}
use Rattle.labels.proofs.SewnTable.not_reached.Goals as goal

pub returns-clause-blank : goal.returns-clause-blank
returns-clause-blank c =
    rw (c.fill.ensures.after (λ y same. same)) (cleared c.args.self.shaped c.args.self.within c.reach-count.new.labels c.reach-count.array_long c.reach-count.ensures.labels)
