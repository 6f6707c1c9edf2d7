-- What the match means, as statements.
--     MatchAccepts     of accepted tables and an output with room: it accepts exactly when a matching exists
--     MatchWrites      what it then writes is a matching, the only one that takes dart 1 to the least dart that any takes it to
--     MatchRefuses     10 exactly when n or m differ or no matching exists
--     MatchShows       its answer is what its lines show
--     MatchSecond      a refusal of the second map is the plain check's, 20 higher, where nothing before refused
--     MatchNumbers     24 is never given
-- Assumes nothing.
use Rattle.std.specs.Prelude.{ℕ, ◌+◌, ◌≤◌, ◌≡◌, List, ◌↔◌, ◌⊎◌, length, take, drop}
use Rattle.maps.specs.Least.{nth}
use Rattle.maps.specs.Matching.{Matching, Matched}
use Rattle.maps.specs.Given.{Given, map_of}
use Rattle.maps.specs.Verdict.{accepted, refused}
use Rattle.maps.specs.Lines.{Shows}
use Rattle.maps.specs.declared.Output.TheVariants.{Images}
use Rattle.labels.specs.Judging.{table_answer, check_answer}
use Rattle.words.specs.Match.{match_answer, match_output, Unlike, match_lines}

-- two tables that the check accepts, and an output with room
pub record Matchable (a b : Given) (room : ℕ) : Type 0 where
  pub first : check_answer a ≡ accepted
  pub second : check_answer b ≡ accepted
  pub roomy : a.m ≤ room

unfoldable pub MatchAccepts : Type 0
MatchAccepts = (a b : Given) (room : ℕ) → Matchable a b room → (match_answer a b room ≡ accepted) ↔ Matched (map_of a) (map_of b)

unfoldable pub MatchWrites : Type 0
MatchWrites =
    (a b : Given) (out : List ℕ) → match_answer a b (length out) ≡ accepted →
    let f = take a.m (match_output a b out) in
    Matching (map_of a) (map_of b) f
    × ((g : List ℕ) → Matching (map_of a) (map_of b) g → nth f 1 ≤ nth g 1)
    × ((g : List ℕ) → Matching (map_of a) (map_of b) g → nth g 1 ≡ nth f 1 → g ≡ f)
    × (drop a.m (match_output a b out) ≡ drop a.m out)

unfoldable pub MatchRefuses : Type 0
MatchRefuses =
    (a b : Given) (room : ℕ) → Matchable a b room
    → (match_answer a b room ≡ refused 10 0) ↔ (Unlike a b ⊎ (¬ Matched (map_of a) (map_of b)))

unfoldable pub MatchShows : Type 1
MatchShows = (a b : Given) (room : ℕ) → Shows (match_lines a b room) (match_answer a b room)

unfoldable pub MatchSecond : Type 0
MatchSecond =
    (a b : Given) (room k p : ℕ) → 1 ≤ k
    → (match_answer a b room ≡ refused (20 + k) p) ↔ (table_answer (Images room) a ≡ accepted) × (check_answer b ≡ refused k p)

unfoldable pub MatchNumbers : Type 0
MatchNumbers = (a b : Given) (room : ℕ) → ¬ ((match_answer a b room).number ≡ 24)
