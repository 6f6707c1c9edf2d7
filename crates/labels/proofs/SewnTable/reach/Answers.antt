-- Darts are served in the order labelled, until all are.
use Rattle.std.proofs.Common.{ℕ, sym}
use Rattle.std.proofs.lemmas.List.{length-replicate}
use Rattle.labels.proofs.Inside.{holds_length, holds_own, first_dart, meets_first, running_start, running_queue, running_dart, running_turn, running_done}
use Rattle.labels.proofs.SewnTable.reach.Goals as goal

pub meet-labelling-requires : goal.meet-labelling-requires
meet-labelling-requires c = rw c.requires (meets_first _ (length-replicate {A = ℕ} 1020 0))

pub loop-k-init : goal.loop-k-init
loop-k-init c = running_start _ c.args.self.within 1 (first_dart c.args.self.shaped) c.meet-labelling.ensures

pub serve-labelling-requires : goal.serve-labelling-requires
serve-labelling-requires c =
    let within = c.args.self.within in
    let first = first_dart c.args.self.shaped in
    let running = c.loop-k.invariant in
    record { dart = running_dart _ within 1 first running c.loop-k-test.true; good = running_queue _ within 1 first running; holds = holds_own running.holds }

pub loop-k-preserved : goal.loop-k-preserved
loop-k-preserved c = running_turn _ c.args.self.within 1 (first_dart c.args.self.shaped) c.loop-k.invariant c.loop-k-test.true c.serve-labelling.ensures

pub returns-clause-labels : goal.returns-clause-labels
returns-clause-labels c = (running_done _ c.args.self.within 1 (first_dart c.args.self.shaped) c.loop-k.invariant c.loop-k-test.false).label

pub returns-clause-count : goal.returns-clause-count
returns-clause-count c = sym (holds_length (running_done _ c.args.self.within 1 (first_dart c.args.self.shaped) c.loop-k.invariant c.loop-k-test.false))
