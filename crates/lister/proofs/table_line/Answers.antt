-- The signature of an accepted map is not refused, and says start and symmetries.
use Rattle.std.proofs.Common.{◌∙◌}
use Rattle.lister.proofs.Listed.{signed, signed_word, accepted_listed}
use Rattle.lister.proofs.table_line.Goals as goal

pub unwrap-signature-requires : goal.unwrap-signature-requires
unwrap-signature-requires c = signed _ c.requires _ c.signature.ensures.answer

pub returns : goal.returns
returns c =
    let answer = rw c.unwrap-signature.ensures at c.signature.ensures.answer in
    c.accepted_line.ensures ∙ accepted_listed _ _ _ _ (signed_word _ c.requires _ answer)
