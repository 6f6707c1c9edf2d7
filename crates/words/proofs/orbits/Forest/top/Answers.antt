-- `words::orbits::Forest::top` meets its contract: a dart and the one over it have one top.
use Rattle.std.proofs.Common.{◌≡◌, refl, sym, ◌∙◌, arith}
use Rattle.words.specs.Forest.{Placed, top_of}
use Rattle.words.proofs.Forest.{climbed, over_read, top_of_top}
use Rattle.words.proofs.orbits.Forest.top.Goals as goal

pub loop-above-init : goal.loop-above-init
loop-above-init c = record { placed = c.requires; over = c.from-above.ensures ∙ over_read _ _ c.requires; one_top = refl }

-- the dart over another is in its tree
up : (c : goal.After-from-above-in-loop-above) → Placed c.loop-above.above × (top_of c.args.self.now.up c.loop-above.above ≡ top_of c.args.self.now.up c.loop-above.top)
up c = let y = c.loop-above.invariant in climbed _ _ _ c.args.self.now.lower y.placed y.over c.loop-above-test.true

pub loop-above-smaller : goal.loop-above-smaller
loop-above-smaller c =
    let p = (up c).0 in omega (arith, c.from-above-in-loop-above.ensures ∙ over_read _ _ p, c.args.self.now.lower _ p.low)

pub loop-above-preserved : goal.loop-above-preserved
loop-above-preserved c =
    let u = up c in
    record { placed = u.0; over = c.from-above-in-loop-above.ensures ∙ over_read _ _ u.0; one_top = u.1 ∙ c.loop-above.invariant.one_top }

pub returns : goal.returns
returns c =
    let y = c.loop-above.invariant in
    let own = top_of_top _ _ (sym y.over ∙ c.loop-above-test.false) in
    record { found = sym own ∙ y.one_top; placed = y.placed }
