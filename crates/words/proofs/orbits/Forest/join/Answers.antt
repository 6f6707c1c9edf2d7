-- `words::orbits::Forest::join` meets its contract: of the two tops the greater goes under the lesser.
use Rattle.words.specs.Forest.{hang}
use Rattle.words.proofs.Forest.{descends_hang, second_under, first_under, none_under}
use Rattle.words.proofs.orbits.Forest.join.Goals as goal

pub invariant_of-self : goal.invariant_of-self
unfolding hang
invariant_of-self c =
    record { lower = descends_hang c.args.self.now.up _ _ c.args.self.now.lower c.top-second.ensures.placed.low c.if-first-second.true }

pub invariant_of-self-then-second-first : goal.invariant_of-self-then-second-first
unfolding hang
invariant_of-self-then-second-first c =
    record { lower = descends_hang c.args.self.now.up _ _ c.args.self.now.lower c.top-first.ensures.placed.low c.if-second-first.true }

pub returns-then-first-second : goal.returns-then-first-second
returns-then-first-second c = second_under _ _ _ _ _ c.top-first.ensures.found c.top-second.ensures.found c.if-first-second.true

pub returns-then-second-first : goal.returns-then-second-first
returns-then-second-first c = first_under _ _ _ _ _ c.top-first.ensures.found c.top-second.ensures.found c.if-second-first.true

pub returns-else-second-first : goal.returns-else-second-first
returns-else-second-first c = none_under _ _ _ _ _ c.top-first.ensures.found c.top-second.ensures.found c.if-first-second.false c.if-second-first.false
