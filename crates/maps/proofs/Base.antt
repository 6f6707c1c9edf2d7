-- The laws of `specs/Base.antt`: of what the lines of a table show, the base's lines show what is read off.
--     Reads              the places of one line are those of another, read through a function
--     Beside             lines whose places are read through a function, each beside its own
--     shows_beside       they show the verdict whose place is read through it
--     base_shows         the lines of a table, and the base's
-- Assumes nothing.
use Prim.Native.Nat.{ℕ, ◌≤◌, ◌<◌}
use mathlib.Core.Path.{◌≡◌, refl, ap, ◌∙◌}
use mathlib.Core.List.{List, [], ◌∷◌, ◌++◌}
use native.Mathlib.Omega.{arith}
use Rattle.maps.specs.Map.{Map}
use Rattle.maps.specs.Given.{Given, place_of, map_of}
use Rattle.maps.specs.Verdict.{Verdict, accepted, refused}
use Rattle.maps.specs.Lines.{Line, Shows, none, here, on, shape_lines, room_lines, Exceeds, GivenBefore, Unanswered, Parted, entry_line, entry_lines, reach_line, map_lines, table_lines}
use Rattle.maps.specs.Rules.{dart_at}
use Rattle.maps.specs.Base.{dart_line, dart_lines, base_lines, of_entry, base_place, read_off}
use Rattle.maps.specs.declared.Output.{Output}
use Rattle.maps.specs.declared.Output.TheVariants.{Nothing, Word, Images}
use Rattle.maps.proofs.Rules.{dart_at_place_of, place_low, place_below}

-- K holds of what f makes of the places that H holds of: the least of those becomes the least of these
pub record Reads (f : ℕ → ℕ) (H K : ℕ → Type 0) : Type 0 where
  pub to : (p : ℕ) → H p → K (f p)
  pub back : (q : ℕ) → K q → (p : ℕ) × H p
  pub under : (p q : ℕ) → H p → K q → q < f p → (r : ℕ) × H r × (r < p)

pub data Beside (f : ℕ → ℕ → ℕ) : List Line → List Line → Type 1 where
  ends : Beside f [] []
  beside : {l : Line} {K : ℕ → Type 0} {ls ks : List Line} → Reads (f l.number) l.Holds K → Beside f ls ks → Beside f (l ∷ ls) (record { number = l.number; Holds = K } ∷ ks)

pub shows_beside : (f : ℕ → ℕ → ℕ) → f 0 0 ≡ 0 → {ls ks : List Line} {v : Verdict} → Beside f ls ks → Shows ls v → Shows ks (refused v.number (f v.number v.place))
unfolding accepted refused
shows_beside f none-0 ends none = rw none-0 none
shows_beside f none-0 (beside {l = l} {K = K} reads rest) (here {p = p} low h least) =
    here {l = record { number = l.number; Holds = K }} low (reads.to p h)
    (λ q less k. let (r, there, below) = reads.under p q h k less in least r below there)
shows_beside f none-0 (beside reads rest) (on silent s) = on (λ q k. let (p, h) = reads.back q k in silent p h) (shows_beside f none-0 rest s)

-- a line that the wish does not name
same : (H : ℕ → Type 0) → Reads (λ p. p) H H
same H = record { to = λ p h. h; back = λ q k. (q, k); under = λ p q h k less. (q, k, less) }

-- a line on entries, and the base's on their darts
by_dart : (M : Map) (k : ℕ) (Breaks : Map → ℕ → ℕ → Type 0) → Reads (dart_at M.dim) (entry_line M k Breaks).Holds (dart_line M k Breaks).Holds
by_dart M k Breaks = record { to = to; back = λ d h. (place_of M.dim d h.0, there d h); under = under }
  where
    there : (d : ℕ) (h : (dart_line M k Breaks).Holds d) → (entry_line M k Breaks).Holds (place_of M.dim d h.0)
    there d (i, e, b) = (d, i, e, refl, b)

    to : (p : ℕ) → (entry_line M k Breaks).Holds p → (dart_line M k Breaks).Holds (dart_at M.dim p)
    to p (d, i, e, is, b) =
        let at-d : dart_at M.dim p ≡ d = ap (dart_at M.dim) is ∙ dart_at_place_of M.dim d i (omega arith) e.1 e.2 e.0.0 in
        rw at-d (i, e, b)

    under : (p q : ℕ) → (entry_line M k Breaks).Holds p → (dart_line M k Breaks).Holds q → q < dart_at M.dim p → (r : ℕ) × (entry_line M k Breaks).Holds r × (r < p)
    under p q (d, i, e, is, b) (j, f, c) less =
        let low : 1 ≤ p = rw is (place_low M.dim d i e.1) in
        (place_of M.dim q j, (q, j, f, refl, c), place_below M.dim q j p f.0.0 f.2 low less)

-- 5 to 9
map_beside : (M : Map) → Beside (base_place M.dim) (map_lines M) (dart_lines M ++ (reach_line M ∷ []))
unfolding map_lines entry_lines dart_lines base_place of_entry
map_beside M =
    beside (by_dart M 5 Exceeds)
    (beside (by_dart M 6 GivenBefore)
    (beside (by_dart M 7 Unanswered)
    (beside (by_dart M 8 Parted)
    (beside (same _) ends))))

table_beside : (o : Output) (g : Given) → Beside (base_place g.n) (table_lines o g) (base_lines o g)
unfolding table_lines base_lines shape_lines room_lines base_place of_entry map_of
table_beside Nothing g = beside (same _) (beside (same _) (beside (same _) (map_beside (map_of g))))
table_beside (Word room) g = beside (same _) (beside (same _) (beside (same _) (beside (same _) (map_beside (map_of g)))))
table_beside (Images room) g = beside (same _) (beside (same _) (beside (same _) (beside (same _) (map_beside (map_of g)))))

pub base_shows : (o : Output) (g : Given) {v : Verdict} → Shows (table_lines o g) v → Shows (base_lines o g) (read_off g.n v)
unfolding read_off base_place of_entry
base_shows o g s = shows_beside (base_place g.n) refl (table_beside o g) s
