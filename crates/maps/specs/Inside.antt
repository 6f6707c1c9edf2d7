-- For the functions inside: no public contract cites this file.
--     IsSewing g i       βi is a sewing of the table
--     SpeaksFrom r low   the rule speaks of no sewing below this one
--     Blank              a table that rule 5 has passed, and an array of zeros for β0
--     BackAs             rule 6 judged while β0 is found
--     ShapeJudged        1 to 4 judged, and the table in shape where they pass
--     EntriesJudged      5 to 8 judged, and all of β0 where they pass
--     wrong_sewing       the least sewing of a dart that breaks a rule, or 0
-- Assumes nothing.
use Rattle.std.specs.Prelude.{ℕ, ◌≤◌, ◌<◌, ◌≡◌, false, List, replicate, Option, None, Result, Ok, Err}
use Rattle.maps.specs.Least.{least, found_at}
use Rattle.maps.specs.Map.{Map}
use Rattle.maps.specs.Given.{Given, map_of}
use Rattle.maps.specs.Accepted.{ToDarts}
use Rattle.maps.specs.Verdict.{accepted}
use Rattle.maps.specs.Rules.{Rule, clash_rule, wrong_entry, judge_entries, judge_sewing}
use Rattle.maps.specs.Shown.{given, shown_refusal}
use Rattle.maps.specs.Answer.{backs_of}
use Rattle.maps.specs.declared.Output.{Output}
use Rattle.maps.specs.declared.Table.{Table}
use Rattle.maps.specs.declared.shape.InShape.{InShape}
use Rattle.maps.specs.declared.Refusal.{Refusal}

abbrev pub IsSewing : Given → ℕ → Type 0
IsSewing g i = (1 ≤ i) × (i ≤ g.n)

-- no sewing below the least that a rule speaks of breaks it
pub record SpeaksFrom (r : Rule) (low : ℕ) : Type 0 where
  pub some : 1 ≤ low
  pub below : (M : Map) (d i : ℕ) → 1 ≤ i → i < low → r.broken M d i ≡ false

-- a table that rule 5 has passed, and an array of zeros for β0
pub record Blank (g : Given) (back : List ℕ) : Type 0 where
  pub within : ToDarts (map_of g)
  pub zeros : back ≡ replicate 1020 0

-- rule 6 judged while β0 is found: the least wrong entry, or all of β0
pub record BackAs (M : Map) (r : Option ℕ) (back : List ℕ) : Type 0 where
  pub wrong : r ≡ found_at (wrong_entry M clash_rule)
  pub whole : r ≡ None → back ≡ backs_of M

-- 1 to 4: the refusal is the answer, or the entries' answer is
abbrev pub ShapeJudged : Output → Table → Result InShape Refusal → Type 0
ShapeJudged o t (Ok s) = (given s.table ≡ given t) × (judge_sewing o (given t) ≡ judge_entries (map_of (given t)))
ShapeJudged o t (Err r) = judge_sewing o (given t) ≡ shown_refusal r

-- 5 to 8: the refusal, or all of β0
abbrev pub EntriesJudged : Map → Result Unit Refusal → List ℕ → Type 0
EntriesJudged M (Ok _) back = (judge_entries M ≡ accepted) × (back ≡ backs_of M)
EntriesJudged M (Err r) back = judge_entries M ≡ shown_refusal r

-- the least sewing of d that breaks the rule, or 0
unfoldable pub wrong_sewing : Map → Rule → ℕ → ℕ
wrong_sewing M r d = least M.dim (λ i. r.broken M d i)
