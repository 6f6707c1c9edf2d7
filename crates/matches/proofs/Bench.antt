-- Cases A to M hold of the definitions: one test, computed over the whole table. Assumes nothing.
use lib.Dec.{T}
use Rattle.words.proofs.Opened.{opened}
use Rattle.matches.specs.Bench.{case, case_c, case_d, case_e, case_f, signature_e, signature_f, bench, blank, gives, gives_start, signed, signed_word, matched, matched_images, holds, right, every}

-- 01: "Cases A to M are a single table with a single theorem about the definitions"
pub bench-right : T (every bench)
unfolding opened case case_c case_d case_e case_f signature_e signature_f bench blank gives gives_start signed signed_word matched matched_images holds right every
bench-right = tt
