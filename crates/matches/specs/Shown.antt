-- What the display shows of an answer of `src/` on a handed-in list (01, "Numbers the display can show", 10 to 12).
--     shown_list_refusal r   the number and the place of a refusal
--     list_verdict_of r      the number and the place of an answer: 0 and 0 where it accepts
-- Assumes nothing.
use Rattle.std.specs.Prelude.{Result, Ok, Err}
use Rattle.maps.specs.Verdict.{Verdict, accepted, refused, of_second}
use Rattle.maps.specs.Shown.{shown_refusal}
use Rattle.matches.specs.declared.ListRefusal.{ListRefusal}
use Rattle.matches.specs.declared.ListRefusal.TheVariants.{First, Second, Unlike, Image, NotKept}

-- the number and the place of a refusal
abbrev pub shown_list_refusal : ListRefusal → Verdict
shown_list_refusal (First r) = shown_refusal r
shown_list_refusal (Second r) = of_second (shown_refusal r)
shown_list_refusal Unlike = refused 10 0
shown_list_refusal (Image dart) = refused 11 dart
shown_list_refusal (NotKept dart) = refused 12 dart

-- the number and the place of an answer
abbrev pub list_verdict_of : Result Unit ListRefusal → Verdict
list_verdict_of (Ok _) = accepted
list_verdict_of (Err r) = shown_list_refusal r
