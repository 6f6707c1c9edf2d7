-- What a caller lends as a map, and the map that it writes down (01, "Numbers that bound the work").
--     Given           n, m and a dart table
--     lent n m t      the same, from its parts
--     place_of        the place of an entry in the table
--     map_of g        the map that g writes down
--     Shaped g        what numbers 1, 2 and 3 leave: in bounds, and a table of the right length
-- Assumes nothing.
use Rattle.std.specs.Prelude.{ℕ, ◌+◌, ◌-◌, ◌*◌, ◌≡◌, List, length}
use Rattle.maps.specs.Least.{nth}
use Rattle.maps.specs.Map.{Map}
use Rattle.maps.specs.Accepted.{InBounds}

pub record Given : Type 0 where
  pub n : ℕ
  pub m : ℕ
  pub table : List ℕ

abbrev pub lent : ℕ → ℕ → List ℕ → Given
lent n m t = record { n = n; m = m; table = t }

-- 01: "βi(d) stands at place (d−1)·n + i, counted from 1"
unfoldable pub place_of : ℕ → ℕ → ℕ → ℕ
place_of n d i = (d - 1) * n + i

-- the map of dimension n with m darts that the dart table writes down
unfoldable pub map_of : Given → Map
map_of g = record { dim = g.n; darts = g.m; beta = λ i d. nth g.table (place_of g.n d i) }

-- what 1, 2 and 3 leave
pub record Shaped (g : Given) : Type 0 where
  pub bounds : InBounds g.n g.m
  pub long : length g.table ≡ g.n * g.m
