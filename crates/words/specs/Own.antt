-- Whether a dart table is its own signature, for every input (01, "The drawer": "an accepted map equal to its own signature").
--     OwnAnswer     the plain check's number and place, and whether the table is its own signature
--     shown_own     these, of an answer of `src/`
--     own_answer    refused as the plain check refuses, or whether the table is its own signature
-- Assumes nothing.
use Rattle.std.specs.Prelude.{Bool, false, cond, Result, Ok, Err}
use Rattle.maps.specs.Given.{Given, map_of}
use Rattle.maps.specs.Verdict.{Verdict, accepted, accepts}
use Rattle.maps.specs.Shown.{shown_refusal}
use Rattle.maps.specs.declared.Refusal.{Refusal}
use Rattle.labels.specs.Judging.{check_answer}
use Rattle.words.specs.Words.{same, signature}

pub record OwnAnswer : Type 0 where
  pub verdict : Verdict
  pub own : Bool

-- a table that is refused is not
abbrev pub shown_own : Result Bool Refusal → OwnAnswer
shown_own (Ok own) = record { verdict = accepted; own = own }
shown_own (Err r) = record { verdict = shown_refusal r; own = false }

unfoldable pub own_answer : Given → OwnAnswer
own_answer g =
    let v = check_answer g in
    cond (accepts v)
    (record { verdict = v; own = same g.table (signature (map_of g)) })
    (record { verdict = v; own = false })
