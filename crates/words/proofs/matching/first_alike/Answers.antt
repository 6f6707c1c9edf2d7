-- `words::matching::first_alike` meets its contract: the starts are tried upwards, until one yields the word held.
use Rattle.std.proofs.Common.{◌≡◌, ◌+◌, ◌*◌, true, take, refl, sym, ◌∙◌, arith}
use Rattle.maps.specs.Map.{IsDart}
use Rattle.maps.specs.Given.{map_of}
use Rattle.maps.specs.Shown.{given}
use Rattle.maps.proofs.Accepted.{darts_most}
use Rattle.maps.proofs.Least.{Passed, passed_turn, search_hit, search_over}
use Rattle.words.specs.Words.{yields}
use Rattle.words.proofs.Usable.{usable}
use Rattle.words.proofs.Starts.{seeks_ready, same_stays}
use Rattle.words.proofs.Tried.{tried_yields, tried_firm}
use Rattle.words.proofs.matching.first_alike.Goals as goal
use Rattle.words.proofs.matching.first_alike.Goals.{In-loop-d, After-is_eq, Else-is_eq}

-- the start of a turn is a dart
dart : (c : In-loop-d) → IsDart (map_of (given c.args.map.table)) c.loop-d.d
unfolding map_of
dart c = (omega arith, omega arith)

pub try_start-requires : goal.try_start-requires
try_start-requires c = seeks_ready (dart (goal.at.try_start-requires c).In-loop-d)

-- whether the start yields the word held
yielded : (c : After-is_eq) → yields (map_of (given c.args.map.table)) (take (c.args.map.table.n * c.args.map.table.m) c.args.word.now) c.loop-d.d ≡ c.is_eq.result
yielded c =
    tried_yields (usable c.args.map).taken (dart (goal.at.After-is_eq c).In-loop-d) c.try_start.ensures _ c.loop-d.invariant.firm ∙ sym c.is_eq.ensures

pub returns-then-is_eq : goal.returns-then-is_eq
returns-then-is_eq c =
    let e = (goal.at.returns-then-is_eq c).After-is_eq in
    let inv = c.loop-d.invariant in
    let tied = c.try_start.ensures.whole (same_stays true _ (sym c.is_eq.ensures ∙ c.if-is_eq.true)) refl in
    record {
      found = search_hit _ inv.so_far (omega arith) (omega arith) (yielded e ∙ c.if-is_eq.true);
      whole = λ d is. let same : c.loop-d.d ≡ d = cc in rw (← same) tied;
    }

-- no start so far has yielded the word held
missed : (c : Else-is_eq) → Passed (yields (map_of (given c.args.map.table)) (take (c.args.map.table.n * c.args.map.table.m) c.args.word.now)) (c.loop-d.d + 1)
missed c = passed_turn _ c.loop-d.invariant.so_far (yielded (goal.at.Else-is_eq c).After-is_eq ∙ c.if-is_eq.false)

pub loop-d-preserved : goal.loop-d-preserved
loop-d-preserved c =
    let dart = dart (goal.at.loop-d-preserved c).In-loop-d in
    record {
      firm = tried_firm (usable c.args.map).taken dart c.try_start.ensures _ c.loop-d.invariant.firm;
      so_far = missed (goal.at.loop-d-preserved c).Else-is_eq;
    }

pub returns : goal.returns
returns c = record { found = search_over _ c.loop-d.invariant.so_far (omega arith); whole = λ d is. cc }

pub overflow_add-d-end : goal.overflow_add-d-end
overflow_add-d-end c = omega (arith, darts_most (usable c.args.map).shaped.bounds)
