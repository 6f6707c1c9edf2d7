-- What a map is (000, definition 1, open form; 01, "Numbers that bound the work" and "Accepted maps").
--     Map            a dimension, a count of darts, and what each βi takes each dart to, as written
--     IsDart M d     d is one of the darts 1 to m
--     back M d       β0(d)
--     sew M i d      βi(d) for i from 0 to n: 0 for nothing, and 0 where d is no dart of M
-- All that follows speaks of a map by `sew` alone, never of a table. Assumes nothing.
use Rattle.std.specs.Prelude.{ℕ, ◌≤◌, Bool, cond, ◌&&◌, eqb, leb}
use Rattle.maps.specs.Least.{least}

pub record Map : Type 0 where
  pub dim : ℕ
  pub darts : ℕ
  -- βi(d) as it is written, for i from 1; `sew` is what it means
  pub beta : ℕ → ℕ → ℕ

-- 01: "Darts are 1 to m"
abbrev pub IsDart : Map → ℕ → Type 0
IsDart M d = (1 ≤ d) × (d ≤ M.darts)

unfoldable pub is_dart : Map → ℕ → Bool
is_dart M d = leb 1 d && leb d M.darts

-- 01: "β0(d) is the dart that β1 takes to d, or 0" (the least one, where β1 takes several to d: such a map is refused)
unfoldable pub back : Map → ℕ → ℕ
back M d = least M.darts (λ e. eqb (M.beta 1 e) d)

-- βi(d). 01: "All βi(0) = 0"; no sewing leads out of what is no dart, and none is numbered above n
unfoldable pub sew : Map → ℕ → ℕ → ℕ
sew M i d = cond (is_dart M d && leb i M.dim) (cond (eqb i 0) (back M d) (M.beta i d)) 0
