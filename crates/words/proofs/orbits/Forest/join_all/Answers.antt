-- `words::orbits::Forest::join_all` meets its contract: what stands at each place of the queues is joined, place by place.
use Rattle.std.proofs.Common.{◌≡◌, ◌<◌, suc, length, sym, ◌∙◌, add-one, arith}
use Rattle.std.proofs.lemmas.List.{length_push}
use Rattle.std.proofs.lemmas.Slice.Zip.{zip_turn}
use Rattle.maps.specs.Least.{nth}
use Rattle.maps.proofs.Least.{nth-suc}
use Rattle.words.proofs.Forest.{joined_all_zero, joined_all_suc}
use Rattle.words.proofs.orbits.Forest.join_all.Goals as goal
use Rattle.words.proofs.orbits.Forest.join_all.Goals.{In-Some}

pub loop-d-init : goal.loop-d-init
loop-d-init c = sym (joined_all_zero _ _ _)

-- the pair of a turn stands at the next place of the queues
pair : (c : In-Some) →
    let k = length c.loop-d.yielded in
    (k < length c.args.queue.now) × (c.in-Some.d.now ≡ nth c.args.queue.now (suc k)) × (c.in-Some.e.now ≡ nth c.args.lead.now (suc k))
pair c =
    let t = zip_turn c.args.queue.now c.args.lead.now c.loop-d.yielded c.into_iter-d-iterator.result _ c.next.new.self _ (cc) (cc) c.loop-d.yielded_by _ c.in-Some.is c.next.ensures.steps in
    (t.0, t.2 0 ∙ sym (nth-suc _ _), t.3 0 ∙ sym (nth-suc _ _))

pub join-requires-clause-first : goal.join-requires-clause-first
join-requires-clause-first c =
    let p = pair (goal.at.join-requires-clause-first c).In-Some in
    rw (c.from.ensures ∙ p.1) (c.requires.first (suc _) (omega arith) (omega (arith, p.0)))

pub join-requires-clause-second : goal.join-requires-clause-second
join-requires-clause-second c =
    let p = pair (goal.at.join-requires-clause-second c).In-Some in
    rw (c.from-in-loop-d.ensures ∙ p.2) (c.requires.second (suc _) (omega arith) (omega (arith, p.0)))

pub loop-d-preserved : goal.loop-d-preserved
loop-d-preserved c =
    let p = pair (goal.at.loop-d-preserved c).In-Some in
    c.join.ensures
    ∙ rw (c.from.ensures ∙ p.1, c.from-in-loop-d.ensures ∙ p.2, c.loop-d.invariant) (sym (rw (length_push c.loop-d.yielded (c.in-Some.d, c.in-Some.e), add-one) (joined_all_suc _ _ _ _)))
