-- What the display shows of an answer of `src/` on one table (01, "Numbers the display can show").
--     given t            the definitions' record of what a caller lends
--     shown_refusal r    the number and the place of a refusal
--     verdict_of r       the number and the place of an answer: 0 and 0 where it accepts
-- Assumes nothing.
use Rattle.std.specs.Prelude.{Result, Ok, Err}
use Rattle.maps.specs.Given.{Given, lent}
use Rattle.maps.specs.Verdict.{Verdict, accepted, refused}
use Rattle.maps.specs.declared.Table.{Table}
use Rattle.maps.specs.declared.Refusal.{Refusal}
use Rattle.maps.specs.declared.Refusal.TheVariants.{Dimension, Size, Length, Room, Exceeds, GivenBefore, Unanswered, Parted, NotReached}

-- what a caller lends, as the definitions take it
abbrev pub given : Table → Given
given t = lent t.n t.m t.numbers.now

-- the number and the place of a refusal
abbrev pub shown_refusal : Refusal → Verdict
shown_refusal Dimension = refused 1 0
shown_refusal Size = refused 2 0
shown_refusal Length = refused 3 0
shown_refusal Room = refused 4 0
shown_refusal (Exceeds entry) = refused 5 entry
shown_refusal (GivenBefore entry) = refused 6 entry
shown_refusal (Unanswered entry) = refused 7 entry
shown_refusal (Parted entry) = refused 8 entry
shown_refusal (NotReached dart) = refused 9 dart

-- the number and the place of an answer
abbrev pub verdict_of : Result Unit Refusal → Verdict
verdict_of (Ok _) = accepted
verdict_of (Err r) = shown_refusal r
