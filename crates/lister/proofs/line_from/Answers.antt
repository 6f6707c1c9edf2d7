-- A short end, or the record at the front of the bytes.
use Rattle.std.proofs.Common.{ap, ◌∙◌, rules}
use Rattle.lister.proofs.Printing.{printed}
use Rattle.lister.proofs.Listed.{from_short, from_record}
use Rattle.lister.specs.Listing.{line_of}
use Rattle.lister.proofs.line_from.Goals as goal

pub returns-in_default : goal.returns-in_default
returns-in_default c = printed _ _ (search rules) (c.short_line.ensures ∙ from_short _ _ c.in_default.ensures.cases)

pub returns : goal.returns
returns c = printed _ _ (search rules) (c.record_line.ensures ∙ ap (line_of _) c.in-Some.ensures.cases.same ∙ from_record _ _ c.in-Some.ensures.cases.enough)
