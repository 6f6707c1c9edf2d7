-- The lines of the records in turn, and of what is left, are the whole output of the definitions (`lister`, Listing). That the
-- program asks for them is run: no contract says what was read.
--     handed_over k bytes  the lines for the first k records, each handed over as 2,048 bytes with its number
--     Whole                with what is left behind them, they are the listing
-- Assumes nothing.
use Rattle.std.specs.Prelude.{ℕ, zero, suc, ◌+◌, ◌*◌, ◌<◌, ◌≡◌, List, [], ◌++◌, length, drop}
use Rattle.drawer.specs.Drawer.{record_at}
use Rattle.lister.specs.Listing.{line_from, listing}
use Rattle.layouts.specs.declared.progress.Progress.{Progress}
use Rattle.layouts.specs.Reading.{all_read}

-- each record as it is complete
unfoldable pub handed_over : ℕ → List ℕ → List ℕ
handed_over zero bytes = []
handed_over (suc k) bytes = handed_over k bytes ++ line_from (suc k) (record_at bytes (suc k))

-- at the end of the input: all that was read is counted, and what is left goes to `line_from` as the next record
unfoldable pub Whole : Type 0
Whole =
    (p : Progress) (bytes : List ℕ) → p.bytes < 2048 → all_read p ≡ length bytes →
    handed_over p.records bytes ++ line_from (p.records + 1) (drop (p.records * 2048) bytes) ≡ listing bytes
