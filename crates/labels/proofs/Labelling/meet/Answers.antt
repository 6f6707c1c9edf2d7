-- 0 and a dart with a label change nothing, and any other gets the next.
use Rattle.std.proofs.Common.{arith}
use Rattle.labels.proofs.Inside.{meets_nothing, meets_old, meets_new}
use Rattle.labels.proofs.Labelling.meet.Goals as goal

pub returns-then-e-eq0 : goal.returns-then-e-eq0
returns-then-e-eq0 c = meets_nothing c.requires c.if-e-eq0.true

pub returns-then-labels-at-ne0 : goal.returns-then-labels-at-ne0
returns-then-labels-at-ne0 c = meets_old c.requires (omega arith) (rw c.from-at.ensures at c.if-labels-at-ne0.true)

pub returns : goal.returns
returns c = rw c.from-at.ensures (meets_new c.requires (omega arith) (rw c.from-at.ensures at c.if-labels-at-ne0.false))
