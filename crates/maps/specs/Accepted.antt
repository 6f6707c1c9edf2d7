-- Which maps are accepted: the paper's definitions 1 and 2 in the open form, as plain statements
-- (01, "Numbers that bound the work" and "Accepted maps").
--     InBounds n m   n and m are of a size that the reader takes
--     ToDarts M      every βi leads to a dart or to nothing
--     OpenMap M      000, definition 1, open form
--     Path M d e     a path of sewings leads from d to e (000, definition 2)
--     Connected M    every dart is reached from dart 1
--     Accepted M     in bounds, an open map, and connected
-- That the check accepts exactly these is a theorem of `labels`. Assumes nothing.
use Rattle.std.specs.Prelude.{◌≡◌, ℕ, ◌+◌, ◌*◌, ◌≤◌, ◌<◌}
use Rattle.maps.specs.Map.{Map, IsDart, sew}

-- 01: "Dimension n is 1 to 4. Dart count m is at least 1 and n·m is at most 1,020"
pub record InBounds (n m : ℕ) : Type 0 where
  pub dim_least : 1 ≤ n
  pub dim_most : n ≤ 4
  pub darts_least : 1 ≤ m
  pub table_most : n * m ≤ 1020

-- each βi leads to a dart or to nothing
abbrev pub ToDarts : Map → Type 0
ToDarts M = (i d : ℕ) → sew M i d ≤ M.darts

-- 000, definition 1, open form
pub record OpenMap (M : Map) : Type 0 where
  pub to_darts : ToDarts M
  -- 01: "β1 takes no two darts to one dart" (two unsewn edges are no clash)
  pub one_to_one : (d e : ℕ) → 0 < sew M 1 d → sew M 1 d ≡ sew M 1 e → d ≡ e
  -- 01: "For i from 2 to n: if βi(d) = e and e is not 0, then βi(e) = d" (e may be d itself)
  pub own_reverse : (i d : ℕ) → 2 ≤ i → 0 < sew M i d → sew M i (sew M i d) ≡ d
  -- 01: "For i from 1 to n−2 and j from i+2 to n: if e = βi(βj(d)) is not 0, then βi(βj(e)) = d"
  pub compositions : (i j d e : ℕ) → 1 ≤ i → i + 2 ≤ j → sew M i (sew M j d) ≡ e → 0 < e → sew M i (sew M j e) ≡ d

-- 000, definition 2: a path of sewings, β0 to βn, from d to a dart
pub data Path (M : Map) (d : ℕ) : ℕ → Type 0 where
  here : Path M d d
  on : {e f : ℕ} (i : ℕ) → Path M d e → sew M i e ≡ f → 0 < f → Path M d f

-- 01: "every dart can be reached from dart 1 by β0 to βn"
unfoldable pub Connected : Map → Type 0
Connected M = (d : ℕ) → IsDart M d → Path M 1 d

pub record Accepted (M : Map) : Type 0 where
  pub bounds : InBounds M.dim M.darts
  pub open_map : OpenMap M
  pub connected : Connected M
