-- The laws of `specs/Accepted.antt` (000, definition 2).
--     darts_most     there are at most 1,020 darts
--     path_dart      from a dart, a path leads to darts
--     path_joined    a path after a path
--     path_turned    a path of an open map, back
--     all_reached    in an accepted map a path leads from every dart to every dart
-- Assumes nothing.
use Prim.Native.Nat.{ℕ, zero, suc, ◌≤◌, ◌<◌}
use mathlib.Core.Path.{◌≡◌}
use native.Mathlib.Omega.{arith}
use native.Mathlib.Nat.{mul-le-mul_right}
use Rattle.maps.specs.Map.{Map, IsDart, sew}
use Rattle.maps.specs.Accepted.{InBounds, OpenMap, Path, here, on, Connected, Accepted}
use Rattle.maps.proofs.Map.{sewn_dart, back_forth, forth_back}

pub darts_most : {n m : ℕ} → InBounds n m → m ≤ 1020
darts_most {m = m} b = omega (arith, mul-le-mul_right m b.dim_least)

pub path_joined : {M : Map} {c d e : ℕ} → Path M c d → Path M d e → Path M c e
path_joined p here = p
path_joined p (on i q is pos) = on i (path_joined p q) is pos

module _ {M : Map} (o : OpenMap M) where
  pub path_dart : {d e : ℕ} → IsDart M d → Path M d e → IsDart M e
  path_dart h here = h
  path_dart h (on {e = e} i p is pos) = (pos, rw is at (o.to_darts i e))

  -- a sewing leads back: β1 where β0 led there, β0 where β1 did, and from 2 on the same
  sewn_back : 1 ≤ M.dim → (i d e : ℕ) → sew M i d ≡ e → 0 < e → (j : ℕ) × (sew M j e ≡ d)
  sewn_back some_dim zero d e is pos = (1, back_forth M some_dim d e is pos)
  sewn_back some_dim (suc zero) d e is pos = (0, forth_back M some_dim o d e is pos)
  sewn_back some_dim (suc (suc i)) d e is pos = (suc (suc i), rw is at (o.own_reverse (suc (suc i)) d (omega arith) (rw is pos)))

  step_turned : 1 ≤ M.dim → (i d e : ℕ) → sew M i d ≡ e → 0 < e → Path M e d
  step_turned some_dim i d e is pos =
      let back = sewn_back some_dim i d e is pos in
      on back.0 here back.1 (sewn_dart M i d (rw is pos)).0

  pub path_turned : 1 ≤ M.dim → {d e : ℕ} → Path M d e → Path M e d
  path_turned some_dim here = here
  path_turned some_dim (on {e = e} {f = f} i p is pos) = path_joined (step_turned some_dim i e f is pos) (path_turned some_dim p)

-- in an accepted map a path leads from every dart to every dart (000, definition 2)
pub all_reached : {M : Map} → Accepted M → {d e : ℕ} → IsDart M d → IsDart M e → Path M d e
unfolding Connected
all_reached a {d} {e} hd he = path_joined (path_turned a.open_map a.bounds.dim_least (a.connected d hd)) (a.connected e he)
