-- `words::own_signature::is_least` meets its contract: the starts are tried upwards, and none may be less than the word that start 1
-- yields.
use Rattle.std.proofs.Common.{◌≡◌, ℕ, ◌+◌, ◌*◌, ◌<◌, ◌≤◌, true, false, take, inl, inr, refl, sym, ap, ◌∙◌, arith}
use mathlib.Core.Logic.{◌⊎◌}
use lib.Seq.{length-take-le}
use Rattle.std.specs.Ordering.{is_lt, is_eq}
use Rattle.maps.specs.Least.{nth}
use Rattle.maps.specs.Map.{IsDart}
use Rattle.maps.specs.Given.{map_of}
use Rattle.maps.specs.Shown.{given}
use Rattle.maps.proofs.Least.{Passed, passed_start, passed_turn, passed_misses}
use Rattle.maps.proofs.Accepted.{darts_most}
use Rattle.words.specs.Words.{word, same, less, signature}
use Rattle.words.specs.FirstRow.{rank_of}
use Rattle.words.proofs.Order.{less_irreflexive, yields_word, word_yields}
use Rattle.words.proofs.Usable.{usable}
use Rattle.words.proofs.Starts.{greater_not_less, seeks_ready, same_stays}
use Rattle.words.proofs.Tried.{tried_yields, tried_less, tried_firm}
use Rattle.words.proofs.Kin.{kin_none, Alike, tied_alike, alike_joins, kin_joined_front}
use Rattle.words.proofs.FirstRow.{rank_less, passed_by}
use Rattle.words.proofs.OwnWord.{own_yielded, own_less}
use Rattle.words.proofs.own_signature.is_least.Goals as goal
use Rattle.words.proofs.own_signature.is_least.Goals.{In-loop-d, After-rank-first, Then-passed_over, After-try_start, in-Equal, in-Greater}

-- the start of a turn is a dart
dart : (c : In-loop-d) → IsDart (map_of (given c.args.map.table)) c.loop-d.d
unfolding map_of
dart c = (omega arith, omega arith)

pub rank-first-requires : goal.rank-first-requires
rank-first-requires c = (omega arith, (usable c.args.map).taken.bounds.darts_least)

pub loop-d-init : goal.loop-d-init
loop-d-init c =
    record {
      firm = refl;
      kin = rw c.new-forest.ensures (kin_none _);
      none_less = passed_turn _ (passed_start _) (rw c.requires.first (less_irreflexive _));
    }

pub passed_over-requires : goal.passed_over-requires
passed_over-requires c = dart (goal.at.passed_over-requires c).In-loop-d

-- of a start that is passed over, the dart over it was tried, or its rank is greater than that of start 1, and so is its word
skipped : (c : Then-passed_over) →
    Passed (λ e. less (word (map_of (given c.args.map.table)) e) (take (c.args.map.table.n * c.args.map.table.m) c.args.word.now)) (c.loop-d.d + 1)
skipped c = passed_turn _ c.loop-d.invariant.none_less (at (passed_by _ _ _ _ (sym c.passed_over.ensures ∙ c.if-passed_over.true)))
  where
    here : IsDart (map_of (given c.args.map.table)) c.loop-d.d
    here = dart (goal.at.Then-passed_over c).In-loop-d

    at : (0 < nth c.loop-d.forest.up c.loop-d.d) ⊎ (c.rank-first.result < rank_of (map_of (given c.args.map.table)) c.loop-d.d) →
        less (word (map_of (given c.args.map.table)) c.loop-d.d) (take (c.args.map.table.n * c.args.map.table.m) c.args.word.now) ≡ false
    at (inl covered) =
        let kin = c.loop-d.invariant.kin in
        rw (← kin.one_word _ here.0 here.1 covered) (c.loop-d.invariant.none_less _ covered (kin.forest.lower _ here.0))
    at (inr above) =
        let taken = (usable c.args.map).taken in
        let greater = rank_less taken 1 _ (omega arith, taken.bounds.darts_least) here (omega (arith, c.rank-first.ensures)) in
        greater_not_less _ _ (rw c.requires.first at greater)

pub loop-d-preserved-then-passed_over : goal.loop-d-preserved-then-passed_over
loop-d-preserved-then-passed_over c =
    let inv = c.loop-d.invariant in
    record { firm = inv.firm; kin = inv.kin; none_less = skipped (goal.at.loop-d-preserved-then-passed_over c).Then-passed_over }

pub try_start-requires : goal.try_start-requires
try_start-requires c = seeks_ready (dart (goal.at.try_start-requires c).In-loop-d)

pub returns-in-Less : goal.returns-in-Less
returns-in-Less c =
    let here = dart (goal.at.returns-in-Less c).In-loop-d in
    let below = tried_less (usable c.args.map).taken here c.try_start.ensures _ c.loop-d.invariant.firm ∙ ap is_lt c.in-Less.is in
    sym (own_less _ _ _ here below)

-- the queue and the lead have room for the darts
few : (c : In-loop-d) → c.args.map.table.m ≤ 1020
unfolding map_of
few c = darts_most (usable c.args.map).shaped.bounds

pub slice_bounds-queue-end : goal.slice_bounds-queue-end
slice_bounds-queue-end c = omega (arith, few (goal.at.slice_bounds-queue-end c).In-loop-d)

pub slice_bounds-join_all-end : goal.slice_bounds-join_all-end
slice_bounds-join_all-end c = sym (length-take-le _ _ (omega (arith, few (goal.at.slice_bounds-join_all-end c).In-loop-d)))

pub shared_ref_as_front-join_all : goal.shared_ref_as_front-join_all
shared_ref_as_front-join_all c = few (goal.at.shared_ref_as_front-join_all c).In-loop-d

-- a start that is tied has the word of start 1
tied : (c : After-try_start) → is_eq c.try_start.result ≡ true → Alike (map_of (given c.args.map.table)) c.try_start.new.queue c.args.lead.now (map_of (given c.args.map.table)).darts
unfolding map_of
tied c is =
    let M = map_of (given c.args.map.table) in
    let taken = (usable c.args.map).taken in
    let here = dart (goal.at.After-try_start c).In-loop-d in
    let own : word M c.loop-d.d ≡ take (c.args.map.table.n * c.args.map.table.m) c.args.word.now =
    yields_word M _ _ (tried_yields taken here c.try_start.ensures _ c.loop-d.invariant.firm ∙ is) in
    tied_alike taken c.loop-d.d 1 here (omega arith, taken.bounds.darts_least) (own ∙ sym c.requires.first) (c.try_start.ensures.whole (same_stays true _ is) refl) c.requires.order

pub join_all-requires : goal.join_all-requires
unfolding map_of
join_all-requires c =
    alike_joins (usable c.args.map).taken (omega arith) (omega arith) (tied (goal.at.join_all-requires c).After-try_start (ap is_eq c.in-Equal.is))

-- a start that is not less
turned : (c : After-try_start) → is_lt c.try_start.result ≡ false →
    Passed (λ e. less (word (map_of (given c.args.map.table)) e) (take (c.args.map.table.n * c.args.map.table.m) c.args.word.now)) (c.loop-d.d + 1)
turned c not-less =
    passed_turn _ c.loop-d.invariant.none_less
    (tried_less (usable c.args.map).taken (dart (goal.at.After-try_start c).In-loop-d) c.try_start.ensures _ c.loop-d.invariant.firm ∙ not-less)

pub loop-d-preserved : goal.loop-d-preserved
unfolding map_of
loop-d-preserved c =
    let t = (goal.at.loop-d-preserved c).After-try_start in
    let taken = (usable c.args.map).taken in
    let inv = c.loop-d.invariant in
    record {
      firm = tried_firm taken (dart (goal.at.loop-d-preserved c).In-loop-d) c.try_start.ensures _ inv.firm;
      kin = elim c.match-try_start.branch [
        | in-Equal w ↦ rw (w.forest-is, w.join_all.ensures) (kin_joined_front taken inv.kin (tied t (ap is_eq w.in-Equal.is)) (omega arith) (few (goal.at.loop-d-preserved c).In-loop-d))
        | in-Greater w ↦ rw w.forest-is inv.kin
      ];
      none_less = turned t (elim c.match-try_start.branch [ in-Equal w ↦ ap is_lt w.in-Equal.is | in-Greater w ↦ ap is_lt w.in-Greater.is ]);
    }

-- no start is less, so the word of start 1 is the least
won : (c : After-rank-first) (d : ℕ) → Passed (λ e. less (word (map_of (given c.args.map.table)) e) (take (c.args.map.table.n * c.args.map.table.m) c.args.word.now)) d → c.args.map.table.m < d →
    true ≡ same (take (c.args.map.table.n * c.args.map.table.m) c.args.word.now) (signature (map_of (given c.args.map.table)))
unfolding map_of
won c d none past =
    sym (own_yielded _ _ (passed_misses _ none past) 1 (omega arith, (usable c.args.map).taken.bounds.darts_least) (word_yields _ _ 1 c.requires.first))

pub returns : goal.returns
returns c = won (goal.at.returns c).After-rank-first _ c.loop-d.invariant.none_less (omega arith)

pub overflow_add-d-end : goal.overflow_add-d-end
overflow_add-d-end c = omega (arith, darts_most (usable c.args.map).shaped.bounds)
