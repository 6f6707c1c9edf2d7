-- What `judge` answers and leaves, by the types of `src/`.
--     backs_of M      β0 of every dart
--     JudgedAs        what a judge answers and leaves in the array of β0 that it is lent
-- Assumes nothing.
use Rattle.std.specs.Prelude.{ℕ, ◌≡◌, cond, List, map, replicate, Result}
use Rattle.maps.specs.Least.{up_to}
use Rattle.maps.specs.Map.{Map, back}
use Rattle.maps.specs.Given.{Given, map_of}
use Rattle.maps.specs.Verdict.{Verdict, accepts}
use Rattle.maps.specs.Shown.{verdict_of}
use Rattle.maps.specs.declared.Refusal.{Refusal}

-- β0 of the darts 1 to 1,020: 0 for those that the map has not
unfoldable pub backs_of : Map → List ℕ
backs_of M = map (back M) (up_to 1020)

-- the answer r, with the array of β0 that it leaves, of a judge: β0 where it accepts, and else zeros
pub record JudgedAs (judge : Given → Verdict) (g : Given) (r : Result Unit Refusal) (held : List ℕ) : Type 0 where
  pub verdict : verdict_of r ≡ judge g
  pub backs : held ≡ cond (accepts (judge g)) (backs_of (map_of g)) (replicate 1020 0)
