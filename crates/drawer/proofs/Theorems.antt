-- The theorems of `specs/Theorems.antt`. Assumes nothing.
use Prim.Native.Nat.{◌+◌}
use mathlib.Core.Path.{◌≡◌, sym, ap, ◌∙◌}
use Rattle.drawer.specs.Record.{good, record_bytes, read_record}
use Rattle.drawer.specs.Drawer.{Drawer, drawer, filed_bytes}
use Rattle.drawer.specs.Theorems.{filed_as, RecordLong, ReadBack, BytesApart, DrawerAccepts, SearchTells, OwnBytes, FilesNext, KeepsOthers, RefusedKeeps, StaysGood, drawer_left, PlainState}
use Rattle.drawer.proofs.Record.{length_record_bytes, record_bytes_below, below_nth, filed_in_record_bytes}
use Rattle.drawer.proofs.Readings.{sound_good, filing_fits, signed_sound}
use Rattle.drawer.proofs.Drawer.{good_check, accepts_each, search_tells, matches_once, search_fifteen, own_bytes_lem}
use Rattle.drawer.proofs.Filings.{answer_accepts, answer_refuses, filed_count, kept_next, kept_before, kept_elsewhere, kept_long, stays_good, refused_bytes}
use Rattle.drawer.proofs.Plain.{left_is, holding_none, held_none}

pub record_long : RecordLong
unfolding RecordLong
record_long die M d a =
    let fits = filing_fits a die d.1 in
    (length_record_bytes (filed_as die M) fits.long fits.small, below_nth (record_bytes_below (filed_as die M) fits))

pub read_back : ReadBack
unfolding ReadBack
read_back die M d a = sound_good (record_bytes (filed_as die M)) (signed_sound a die d.0 d.1) ∙ ap good (filed_in_record_bytes (filed_as die M) (filing_fits a die d.1))

pub bytes_apart : BytesApart
unfolding BytesApart ReadBack
bytes_apart die die' M M' d d' a a' same =
    let readings : good (filed_as die M) ≡ good (filed_as die' M') = sym (read_back die M d a) ∙ ap read_record same ∙ read_back die' M' d' a' in
    cc

pub drawer-accepts : DrawerAccepts
unfolding DrawerAccepts
drawer-accepts D = accepts_each D

pub search_tells_matchings : SearchTells
unfolding SearchTells
search_tells_matchings g D checked fine = (search_tells g D checked fine, matches_once g D checked fine, search_fifteen g D checked fine)

pub search_own_bytes : OwnBytes
unfolding OwnBytes
search_own_bytes g D = own_bytes_lem g D

pub files_next : FilesNext
unfolding FilesNext
files_next die g D is =
    let e = answer_accepts die g D is in
    (filed_count die g D e, kept_next die g D e)

pub keeps_others : KeepsOthers
unfolding KeepsOthers
keeps_others die g D is =
    let e = answer_accepts die g D is in
    (kept_before die g D e, kept_elsewhere die g D e, kept_long die g D e)

pub refused_keeps : RefusedKeeps
unfolding RefusedKeeps
refused_keeps die g D other = refused_bytes die g D (answer_refuses die g D other)

pub drawer_stays_good : StaysGood
unfolding StaysGood
drawer_stays_good die g D fits is = good_check (drawer (D.count + 1) (filed_bytes die g D)) (stays_good die g D (answer_accepts die g D is) fits)

pub plain_state : PlainState
unfolding PlainState
plain_state bytes calls ok = ap (λ (D : Drawer). drawer_left D calls) (sym (holding_none bytes)) ∙ left_is (held_none bytes) calls ok
