-- What a matching is (000, definition 3, open form; 01, "Labels, words, signature").
--     Matching M M' f     the list f of images is a matching of M with M': `nth f d` is the image of d
--     Matched M M'        M has a matching with M'
-- Assumes nothing.
use Rattle.std.specs.Prelude.{◌≡◌, List, ℕ, ◌≤◌, length}
use Rattle.maps.specs.Least.{nth}
use Rattle.maps.specs.Map.{Map, IsDart, sew}

-- "two maps of equal n and m, and a one-to-one f from all darts to all darts with f(0) = 0 and f(βi(d)) = β'i(f(d)) for every d and i"
-- f(0) = 0 is `nth`'s: place 0 of every list holds 0. So an unsewn edge is kept unsewn, and of an accepted map a sewn one sewn.
pub record Matching (M M' : Map) (f : List ℕ) : Type 0 where
  pub same_dim : M.dim ≡ M'.dim
  pub same_darts : M.darts ≡ M'.darts
  pub long : length f ≡ M.darts
  pub to_darts : (d : ℕ) → IsDart M d → IsDart M' (nth f d)
  pub one_to_one : (d e : ℕ) → IsDart M d → IsDart M e → nth f d ≡ nth f e → d ≡ e
  pub onto : (e : ℕ) → IsDart M' e → (d : ℕ) × IsDart M d × (nth f d ≡ e)
  pub keeps : (i d : ℕ) → 1 ≤ i → IsDart M d → nth f (sew M i d) ≡ sew M' i (nth f d)

unfoldable pub Matched : Map → Map → Type 0
Matched M M' = (f : List ℕ) × Matching M M' f
