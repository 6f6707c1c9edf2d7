-- What the conversions of `src/` to what C sees say.
--     Shows            a verdict shows an answer: 0 and 0, or what a refusal shows
--     signed_numbers   the numbers of what C sees, as the definitions' record: of the signature call
--     found_numbers    the same of search
--     filed_numbers    the same of filing
-- Assumes nothing.
use Rattle.std.specs.Prelude.{Result, MatchResult}
use Rattle.maps.specs.Verdict.{Verdict, accepted}
use Rattle.words.specs.Sign.{SignatureAnswer}
use Rattle.drawer.specs.Drawer.{SearchAnswer, FilingAnswer}
use Rattle.reader.specs.Boundary.{ShownAs}
use Rattle.reader.specs.declared.DuftheimVerdict.{DuftheimVerdict}
use Rattle.reader.specs.declared.DuftheimSigned.{DuftheimSigned}
use Rattle.reader.specs.declared.DuftheimFound.{DuftheimFound}
use Rattle.reader.specs.declared.DuftheimFiled.{DuftheimFiled}

-- r shows an answer whose refusals show what `shown` says
abbrev pub Shows : {E : Type 0} → (E → Verdict) → Result Unit E → DuftheimVerdict → Type 0
Shows shown answer r = MatchResult answer (λ _. ShownAs accepted r) (λ refusal. ShownAs (shown refusal) r)

abbrev pub signed_numbers : DuftheimSigned → SignatureAnswer
signed_numbers r = record { number = r.number; place = r.place; start = r.start; symmetries = r.symmetries }

abbrev pub found_numbers : DuftheimFound → SearchAnswer
found_numbers r = record { number = r.number; place = r.place; die = r.die; at = r.«record» }

abbrev pub filed_numbers : DuftheimFiled → FilingAnswer
filed_numbers r = record { number = r.number; place = r.place; count = r.count }
