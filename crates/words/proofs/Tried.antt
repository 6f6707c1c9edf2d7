-- A start is tried, as the match and the own signature do.
--     tried_yields       it comes out the same exactly when it yields that word
--     tried_less         and less exactly when its word is
--     tried_firm         the word is held still
--     Spelt, spelt       and a map's own start against numbers above all labels
-- Assumes nothing.
use Prim.Native.Nat.{ℕ, ◌*◌}
use mathlib.Core.Path.{◌≡◌, refl, ap, ◌∙◌}
use mathlib.Core.Bool.{true, false}
use mathlib.Core.List.{List}
use native.Mathlib.Nat.{le_refl}
use lib.ListN.{take, replicate}
use Rattle.std.specs.declared.cmp.Ordering.{Ordering}
use Rattle.std.specs.declared.cmp.Ordering.TheVariants.{Less}
use Rattle.std.specs.Ordering.{is_lt, is_eq}
use Rattle.maps.specs.Map.{IsDart}
use Rattle.maps.specs.Accepted.{Accepted}
use Rattle.maps.specs.Given.{Given, map_of}
use Rattle.labels.specs.Queue.{labelling}
use Rattle.words.specs.Sign.{over}
use Rattle.words.proofs.Words.{length_word}
use Rattle.words.proofs.Sign.{take-replicate, over_front}
use Rattle.words.specs.Words.{word, less, lesser, yields}
use Rattle.words.specs.Inside.{side_of, leaves_at, Tried}
use Rattle.words.proofs.Racing.{tried_whole}
use Rattle.words.proofs.Starts.{same-yields, less_told, less_side, lesser_less, word_below}

module _ {g : Given} {d : ℕ} {held queue' held' : List ℕ} {side : Ordering} (a : Accepted (map_of g)) (dart : IsDart (map_of g) d) (t : Tried g d g.m true held queue' held' side) (held₀ : List ℕ) (firm : held ≡ held₀) where
  came : side ≡ side_of (word (map_of g) d) (take (g.n * g.m) held₀)
  came = (tried_whole a dart t).outcome ∙ ap (λ (h : List ℕ). side_of (word (map_of g) d) (take (g.n * g.m) h)) firm

  pub tried_yields : yields (map_of g) (take (g.n * g.m) held₀) d ≡ is_eq side
  tried_yields = same-yields (map_of g) (take (g.n * g.m) held₀) d side (is_eq side) came refl

  pub tried_less : less (word (map_of g) d) (take (g.n * g.m) held₀) ≡ is_lt side
  tried_less = less_told (word (map_of g) d) (take (g.n * g.m) held₀) side (is_lt side) came refl

  pub tried_firm : held' ≡ held₀
  tried_firm = (tried_whole a dart t).best ∙ firm

-- a map's run from dart 1 leaves its word, and its darts in the order labelled
pub record Spelt (g : Given) (queue held : List ℕ) : Type 0 where
  pub numbers : take (g.n * g.m) held ≡ word (map_of g) 1
  pub order : take g.m queue ≡ labelling (map_of g) 1

-- where every number held stood above all labels
pub spelt : {g : Given} → Accepted (map_of g) → {queue' held' : List ℕ} {side : Ordering} → Tried g 1 g.m false (replicate 1020 65535) queue' held' side → Spelt g queue' held'
unfolding map_of leaves_at
spelt {g} a {held' = held'} {side = side} t =
    let M = map_of g in
    let size = g.n * g.m in
    let one : IsDart (map_of g) 1 = (le_refl 1, a.bounds.darts_least) in
    let w = tried_whole a one t in
    let above : take {A = ℕ} size (replicate 1020 65535) ≡ replicate size 65535 = take-replicate size 1020 65535 a.bounds.table_most in
    let is-less = rw (← above) at (word_below a 1 one) in
    let best : lesser (take size (replicate 1020 65535)) (word M 1) ≡ word M 1 = lesser_less (word M 1) _ is-less in
    let held : held' ≡ over (word M 1) (replicate 1020 65535) = w.best ∙ ap (λ (w : List ℕ). over w (replicate 1020 65535)) best in
    let side-is : side ≡ Less = w.outcome ∙ less_side (word M 1) _ is-less in
    record {
      numbers = ap (take size) held ∙ over_front (word M 1) (replicate 1020 65535) size (length_word a 1 one);
      order = w.whole (rw side-is refl);
    }
