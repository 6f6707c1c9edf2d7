use Rattle.std.proofs.Common.{sym, ap, ◌∙◌}
use Rattle.maps.specs.Least.{found_at}
use Rattle.labels.proofs.Inside.{all_labelled, unreached}
use Rattle.labels.proofs.SewnTable.unlabelled.Goals as goal

pub returns-then-count-self : goal.returns-then-count-self
unfolding found_at
returns-then-count-self c = ap found_at (sym (all_labelled c.args.self.shaped c.args.self.within (sym c.requires.count ∙ c.if-count-self.true)))

pub returns : goal.returns
returns c = c.not_labelled.ensures ∙ ap found_at (unreached c.args.self.shaped _ c.told-labels c.requires.labels)
