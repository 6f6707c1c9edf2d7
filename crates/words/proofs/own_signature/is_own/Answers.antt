-- `words::own_signature::is_own` meets its contract: start 1 must yield the table, and no start be less.
use native.Mathlib.Nat.{le_refl}
use Rattle.std.proofs.Common.{◌≡◌, ◌*◌, true, false, take, refl, sym, ap, ◌∙◌, arith}
use Rattle.std.specs.declared.cmp.Ordering.{Ordering}
use Rattle.std.specs.declared.cmp.Ordering.TheVariants.{Less, Equal, Greater}
use Rattle.std.specs.Ordering.{is_eq, is_ne}
use Rattle.maps.specs.Map.{IsDart}
use Rattle.maps.specs.Given.{map_of}
use Rattle.maps.specs.Shown.{given}
use Rattle.words.specs.Words.{yields}
use Rattle.words.proofs.Order.{yields_word}
use Rattle.words.proofs.Sign.{over_front}
use Rattle.words.proofs.Usable.{usable}
use Rattle.words.proofs.Starts.{seeks_ready, same_stays}
use Rattle.words.proofs.Tried.{tried_yields, tried_firm}
use Rattle.words.proofs.OwnWord.{own_first}
use Rattle.words.proofs.own_signature.is_own.Goals as goal
use Rattle.words.proofs.own_signature.is_own.Goals.{After-hold, After-try_start-first}

pub hold-requires : goal.hold-requires
hold-requires c = let s = (usable c.args.map).shaped in omega (arith, s.long, s.bounds.table_most)

-- dart 1 is a dart
one : (c : After-hold) → IsDart (map_of (given c.args.map.table)) 1
one c = (le_refl 1, (usable c.args.map).taken.bounds.darts_least)

pub try_start-first-requires : goal.try_start-first-requires
try_start-first-requires c = seeks_ready (one (goal.at.try_start-first-requires c).After-hold)

-- the word held is the table
held : (c : After-hold) → take (c.args.map.table.n * c.args.map.table.m) c.hold.new.word ≡ c.args.map.table.numbers.now
held c = rw c.hold.ensures (over_front _ _ _ (usable c.args.map).shaped.long)

-- whether start 1 yields it
yielded : (c : After-try_start-first) → yields (map_of (given c.args.map.table)) c.args.map.table.numbers.now 1 ≡ is_eq c.try_start-first.result
yielded c =
    let h = (goal.at.After-try_start-first c).After-hold in
    rw (held h) at (tried_yields (usable c.args.map).taken (one h) c.try_start-first.ensures _ refl)

differs : (s : Ordering) (b : _) → b ≡ is_ne s → b ≡ true → is_eq s ≡ false
differs Less b is e = refl
differs Equal b is e = cc
differs Greater b is e = refl

agrees : (s : Ordering) (b : _) → b ≡ is_ne s → b ≡ false → is_eq s ≡ true
agrees Less b is e = cc
agrees Equal b is e = refl
agrees Greater b is e = cc

pub returns-then-is_ne : goal.returns-then-is_ne
returns-then-is_ne c =
    sym (own_first _ (usable c.args.map).taken (yielded (goal.at.returns-then-is_ne c).After-try_start-first ∙ differs _ _ c.is_ne.ensures c.if-is_ne.true))

pub is_least-requires : goal.is_least-requires
is_least-requires c =
    let t = (goal.at.is_least-requires c).After-try_start-first in
    let h = (goal.at.is_least-requires c).After-hold in
    let tied = agrees _ _ c.is_ne.ensures c.if-is_ne.false in
    let taken = (usable c.args.map).taken in
    record {
      order = c.try_start-first.ensures.whole (same_stays true _ tied) refl;
      first = yields_word _ _ 1 (yielded t ∙ tied) ∙ sym (ap (take _) (tried_firm taken (one h) c.try_start-first.ensures _ refl) ∙ held h);
    }

pub returns : goal.returns
returns c =
    let h = (goal.at.returns c).After-hold in
    let still = tried_firm (usable c.args.map).taken (one h) c.try_start-first.ensures _ refl in
    c.is_least.ensures ∙ rw (still, held h) refl
