-- The dart is the least: every lower one is kept.
use Rattle.std.proofs.Common.{sym, ◌∙◌}
use Rattle.maps.proofs.Least.{search_hit}
use Rattle.matches.specs.Inside.{not_kept}
use Rattle.matches.proofs.Images.first_not_kept.Goals as goal

pub returns-then-not_kept : goal.returns-then-not_kept
unfolding not_kept
returns-then-not_kept c =
    search_hit _ c.loop-d.invariant c.loop-d.auto.d c.loop-d-test.true (sym c.not_kept.ensures ∙ c.if-not_kept.true)
