-- The best word is spelt out, for `spell_out`.
--     spelt_out       some rows of it were not known
--     spelt_already   all were
-- Assumes nothing.
use Prim.Native.Nat.{ℕ, ◌*◌, ◌≤◌, ◌<◌}
use mathlib.Core.Path.{◌≡◌, refl, ap, ◌∙◌}
use mathlib.Core.Bool.{false}
use mathlib.Core.List.{List}
use native.Mathlib.Omega.{arith}
use lib.ListN.{length, take}
use Rattle.std.specs.declared.cmp.Ordering.{Ordering}
use Rattle.std.specs.declared.cmp.Ordering.TheVariants.{Less}
use Rattle.maps.specs.Accepted.{Accepted}
use Rattle.maps.specs.Given.{map_of}
use Rattle.maps.specs.Shown.{given}
use Rattle.words.specs.Words.{word}
use Rattle.words.specs.Sign.{over}
use Rattle.words.specs.Inside.{leaves_at, Tried, Spells, SpeltOut}
use Rattle.words.specs.declared.map.Map.{Map}
use Rattle.words.proofs.Words.{length_word}
use Rattle.words.proofs.Starts.{less_side, lesser_less}
use Rattle.words.proofs.Sign.{over_front}
use Rattle.words.proofs.Racing.{tried_whole}
use Rattle.words.proofs.Known.{known_less, known_whole}
use Rattle.words.proofs.Usable.{usable, map_held}

module _ (map : Map) {held : List ℕ} {s rows : ℕ} (p : Spells (given map.table) held s rows) where
  a : Accepted (map_held map)
  a = (usable map).taken

  -- some rows were not known
  pub spelt_out : length held ≡ 1020 → rows < map.table.m → {queue' held' : List ℕ} {side : Ordering} → Tried (given map.table) s map.table.m false held queue' held' side → SpeltOut (given map.table) s rows queue' held'
  unfolding map_of leaves_at
  spelt_out long_word below {held' = held'} {side = side} t =
      let r = p.ready in
      let size = map.table.n * map.table.m in
      let w = tried_whole a r.dart t in
      let is-less = known_less a rows r.some_rows s r.dart long_word p.partly below in
      let written : held' ≡ over (word (map_held map) s) held = w.best ∙ ap (λ (b : List ℕ). over b held) (lesser_less (word (map_held map) s) (take size held) is-less) in
      let side-is : side ≡ Less = w.outcome ∙ less_side (word (map_held map) s) (take size held) is-less in
      record {
        whole_word = ap (take size) written ∙ over_front (word (map_held map) s) held size (length_word a s r.dart);
        order = λ _. w.whole (rw side-is refl);
      }

  -- all were
  pub spelt_already : map.table.m ≤ rows → (queue : List ℕ) → SpeltOut (given map.table) s rows queue held
  unfolding map_of
  spelt_already all queue =
      let r = p.ready in
      let whole : rows ≡ map.table.m = omega (arith, r.some_rows) in
      record {
        whole_word = known_whole a (word (map_held map) s) (length_word a s r.dart) (rw whole at p.partly);
        order = λ below. absurd (omega arith);
      }
