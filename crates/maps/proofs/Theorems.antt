-- The theorems of `specs/Theorems.antt`; `Matching` has the laws behind them. Assumes nothing.
use Rattle.maps.specs.Matching.{Matched}
use Rattle.maps.specs.Theorems.{MatchingsCompose, MatchingsTurn, AcceptedCarried}
use Rattle.maps.proofs.Matching.{composed, turned, matching_composed, matching_turned, accepted_carried}

pub matchings_compose : MatchingsCompose
unfolding MatchingsCompose Matched
matchings_compose M M' M'' m n = (composed m.0 n.0, matching_composed m.1 n.1)

pub matchings_turn : MatchingsTurn
unfolding MatchingsTurn Matched
matchings_turn M M' a m = (turned m.0, matching_turned m.1 a.open_map)

pub accepted_is_carried : AcceptedCarried
unfolding AcceptedCarried Matched
accepted_is_carried M M' a m = accepted_carried m.1 a
