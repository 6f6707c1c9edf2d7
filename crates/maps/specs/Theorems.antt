-- What a matching is good for, as statements (theorem 7). `proofs/Theorems.antt` proves each.
--     MatchingsCompose, MatchingsTurn     matchings compose, and one of an accepted map turns round
--     AcceptedCarried                     acceptance passes along a matching
-- Assumes nothing.
use Rattle.maps.specs.Map.{Map}
use Rattle.maps.specs.Accepted.{Accepted}
use Rattle.maps.specs.Matching.{Matched}

unfoldable pub MatchingsCompose : Type 0
MatchingsCompose = (M M' M'' : Map) → Matched M M' → Matched M' M'' → Matched M M''

unfoldable pub MatchingsTurn : Type 0
MatchingsTurn = (M M' : Map) → Accepted M → Matched M M' → Matched M' M

unfoldable pub AcceptedCarried : Type 0
AcceptedCarried = (M M' : Map) → Accepted M → Matched M M' → Accepted M'
