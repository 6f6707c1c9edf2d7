-- `words::matching::show` meets its contract: with each place of the queues passed, the dart at that place has its image.
use Rattle.std.proofs.Common.{◌≡◌, ◌≤◌, ◌<◌, suc, length, sym, ◌∙◌, add-one, arith}
use Rattle.std.proofs.lemmas.List.{length_push}
use Rattle.std.proofs.lemmas.Slice.Zip.{zip_turn, zip_end}
use Rattle.maps.specs.Least.{nth}
use Rattle.maps.proofs.Least.{nth-suc}
use Rattle.words.proofs.Images.{showing_start, showing_dart, showing_turn, showing_done}
use Rattle.words.proofs.matching.show.Goals as goal
use Rattle.words.proofs.matching.show.Goals.{In-Some, After-from}

pub loop-dart-init : goal.loop-dart-init
loop-dart-init c = showing_start c.requires

-- the pair of a turn stands at the next place of the queues
pair : (c : In-Some) →
    let k = length c.loop-dart.yielded in
    (k < length c.args.first.now) × (c.in-Some.dart.now ≡ nth c.args.first.now (suc k)) × (c.in-Some.image.now ≡ nth c.args.second.now (suc k))
pair c =
    let t = zip_turn c.args.first.now c.args.second.now c.loop-dart.yielded c.into_iter-dart-iterator.result _ c.next.new.self _ (cc) (cc) c.loop-dart.yielded_by _ c.in-Some.is c.next.ensures.steps in
    (t.0, t.2 0 ∙ sym (nth-suc _ _), t.3 0 ∙ sym (nth-suc _ _))

-- the dart read is one of those that the first queue lists
dart : (c : After-from) → (1 ≤ c.from.result) × (c.from.result ≤ length c.args.first.now)
dart c = let p = pair (goal.at.overflow_sub-output c).In-Some in showing_dart c.requires p.0 _ (c.from.ensures ∙ p.1)

pub overflow_sub-output : goal.overflow_sub-output
overflow_sub-output c = (dart c).0

pub bounds-output-from : goal.bounds-output-from
bounds-output-from c = omega (arith, dart c, c.requires.room)

pub loop-dart-preserved : goal.loop-dart-preserved
loop-dart-preserved c =
    let p = pair (goal.at.loop-dart-preserved c).In-Some in
    rw (length_push c.loop-dart.yielded (c.in-Some.dart, c.in-Some.image), add-one, p.2) (showing_turn c.requires p.0 _ (c.from.ensures ∙ p.1) c.loop-dart.invariant)

pub returns : goal.returns
returns c =
    let all = zip_end c.args.first.now c.args.second.now c.loop-dart.yielded c.into_iter-dart-iterator.result _ c.next.new.self _ (cc) (cc) c.loop-dart.yielded_by c.in-None.is c.next.ensures.steps in
    showing_done c.requires c.loop-dart.invariant (omega (arith, all, c.requires.as_long))
