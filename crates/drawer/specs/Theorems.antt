-- What records and the drawer's calls mean, as statements. `proofs/Theorems.antt` proves each.
--     filed_as die M    a die and the signature of a map: what filing writes
--     DieNumber         a die number that can be filed: not 0, and of 4 bytes
--     RecordLong        a filed layout has 2,048 bytes
--     ReadBack          they are read back as the filed layout
--     BytesApart        and two filed layouts have different bytes
--     DrawerAccepts     the drawer check says yes exactly when no record is bad
--     found k x         what search answers where it finds record k, of die x
--     SearchTells       11: search finds the record whose layout has a matching with the map, the only one, and 15 where there is none
--     OwnBytes          what search hands back: the bytes of the record that it names, or none
--     FilesNext         an accepted filing writes the next record, and answers the new count
--     KeepsOthers       it alters no other record and no other byte, beyond included
--     RefusedKeeps      a refused one alters none
--     StaysGood         a drawer stays good when a layout is filed
--     drawer_left, plain_left
--                       the drawer, and the plain list, after a run of calls
--     holding           the drawer that holds a plain list: its entries' records in order, and the bytes beyond as they were lent
--     PlainState        12: after any run from an empty drawer the drawer holds the plain list
-- That the answers of the run are the same is `PlainList` of `Plain`.
-- Assumes nothing.
use Rattle.std.specs.Prelude.{ℕ, ◌+◌, ◌*◌, ◌≤◌, ◌<◌, ◌≡◌, ◌↔◌, ◌⊎◌, T, length, drop}
use mathlib.Core.List.{List, [], ◌∷◌, ◌++◌, flat_map}
use Rattle.maps.specs.Least.{nth}
use Rattle.maps.specs.Map.{Map}
use Rattle.maps.specs.Accepted.{Accepted}
use Rattle.maps.specs.Given.{Given, lent, map_of}
use Rattle.maps.specs.Matching.{Matched}
use Rattle.maps.specs.Verdict.{accepted}
use Rattle.labels.specs.Judging.{check_answer}
use Rattle.words.specs.Words.{signature}
use Rattle.drawer.specs.Record.{Filed, good, record_size, record_bytes, read_record}
use Rattle.drawer.specs.Drawer.{Drawer, drawer, most_records, record_at, entry_at, layout_of, SearchAnswer, drawer_answer, search_answer, own_bytes, filing_answer, filed_bytes}
use Rattle.drawer.specs.Lines.{IsRecord, layout_at, Bad}
use Rattle.drawer.specs.Plain.{Call, all_fit, drawer_after, plain_after, room_in}

-- a die, with n, m and the signature of a map
abbrev pub filed_as : ℕ → Map → Filed
filed_as die M = record { die = die; layout = lent M.dim M.darts (signature M) }

-- 16: "die number 0"; 01: "die number (4 bytes)"
abbrev pub DieNumber : ℕ → Type 0
DieNumber die = (1 ≤ die) × (die ≤ 4294967295)

-- 01: "Records of 2,048 bytes": so many numbers, each below 256
unfoldable pub RecordLong : Type 0
RecordLong =
    (die : ℕ) (M : Map) → DieNumber die → Accepted M
    → (length (record_bytes (filed_as die M)) ≡ record_size)
    × ((p : ℕ) → nth (record_bytes (filed_as die M)) p < 256)

unfoldable pub ReadBack : Type 0
ReadBack = (die : ℕ) (M : Map) → DieNumber die → Accepted M → read_record (record_bytes (filed_as die M)) ≡ good (filed_as die M)

unfoldable pub BytesApart : Type 0
BytesApart =
    (die die' : ℕ) (M M' : Map) → DieNumber die → DieNumber die' → Accepted M → Accepted M'
    → record_bytes (filed_as die M) ≡ record_bytes (filed_as die' M')
    → filed_as die M ≡ filed_as die' M'

-- 01: "A drawer check says yes exactly when no record is bad"; 13 is the count's
unfoldable pub DrawerAccepts : Type 0
DrawerAccepts =
    (D : Drawer) → (drawer_answer D ≡ accepted)
    ↔ (D.count ≤ most_records) × (D.count * record_size ≤ length D.bytes) × ((k : ℕ) → IsRecord D k → ¬ Bad D k)

-- number 0, record k and die x
abbrev pub found : ℕ → ℕ → SearchAnswer
found k x = record { number = 0; place = 0; die = x; at = k }

-- the map of g has a matching with that of record k
abbrev pub MatchesRecord : Given → Drawer → ℕ → Type 0
MatchesRecord g D k = IsRecord D k × Matched (map_of g) (map_of (layout_at D k))

-- of a good drawer, and a table that the check accepts
unfoldable pub SearchTells : Type 0
SearchTells =
    (g : Given) (D : Drawer) → check_answer g ≡ accepted → drawer_answer D ≡ accepted
    → ((k x : ℕ) → (search_answer g D ≡ found k x) ↔ MatchesRecord g D k × ((entry_at D.bytes k).die ≡ x))
    × ((j k : ℕ) → MatchesRecord g D j → MatchesRecord g D k → j ≡ k)
    × (((search_answer g D).number ≡ 15) ↔ ((k : ℕ) → ¬ MatchesRecord g D k))

-- 01: "The record's own 2,048 bytes are handed back as that part of the drawer; with a refusal the part is empty"
unfoldable pub OwnBytes : Type 0
OwnBytes =
    (g : Given) (D : Drawer)
    → ((search_answer g D).number ≡ 0 → (own_bytes g D ≡ record_at D.bytes (search_answer g D).at) × (length (own_bytes g D) ≡ record_size))
    × (¬ ((search_answer g D).number ≡ 0) → own_bytes g D ≡ [])

-- place p of the drawer's bytes, counted from 1, lies before or beyond the record after the last
abbrev pub Elsewhere : Drawer → ℕ → Type 0
Elsewhere D p = (p ≤ D.count * record_size) ⊎ ((D.count + 1) * record_size < p)

-- 01: "Filing writes the next record, with the map's signature, answers the new count"
unfoldable pub FilesNext : Type 0
FilesNext =
    (die : ℕ) (g : Given) (D : Drawer) → (filing_answer die g D).number ≡ 0
    → ((filing_answer die g D).count ≡ D.count + 1)
    × (record_at (filed_bytes die g D) (D.count + 1) ≡ record_bytes (record { die = die; layout = layout_of g }))

-- 01: "and alters no other byte, beyond it included"
unfoldable pub KeepsOthers : Type 0
KeepsOthers =
    (die : ℕ) (g : Given) (D : Drawer) → (filing_answer die g D).number ≡ 0
    → ((k : ℕ) → IsRecord D k → record_at (filed_bytes die g D) k ≡ record_at D.bytes k)
    × ((p : ℕ) → Elsewhere D p → nth (filed_bytes die g D) p ≡ nth D.bytes p)
    × (length (filed_bytes die g D) ≡ length D.bytes)

-- 01: "a refused call changes nothing"
unfoldable pub RefusedKeeps : Type 0
RefusedKeeps = (die : ℕ) (g : Given) (D : Drawer) → ¬ ((filing_answer die g D).number ≡ 0) → filed_bytes die g D ≡ D.bytes

-- a die number that 4 bytes hold; that the drawer is good before, filing has judged
unfoldable pub StaysGood : Type 0
StaysGood =
    (die : ℕ) (g : Given) (D : Drawer) → die ≤ 4294967295 → (filing_answer die g D).number ≡ 0
    → drawer_answer (drawer (D.count + 1) (filed_bytes die g D)) ≡ accepted

-- 01: "each lent the count that the last accepted filing answered (0 before any) and the bytes last left"
unfoldable pub drawer_left : Drawer → List Call → Drawer
drawer_left D [] = D
drawer_left D (c ∷ cs) = drawer_left (drawer_after c D) cs

unfoldable pub plain_left : ℕ → List Filed → List Call → List Filed
plain_left room fs [] = fs
plain_left room fs (c ∷ cs) = plain_left room (plain_after room c fs) cs

unfoldable pub holding : List ℕ → List Filed → Drawer
holding bytes fs = drawer (length fs) (flat_map record_bytes fs ++ drop (length fs * record_size) bytes)

unfoldable pub PlainState : Type 0
PlainState =
    (bytes : List ℕ) (calls : List Call) → T (all_fit calls)
    → drawer_left (drawer 0 bytes) calls ≡ holding bytes (plain_left (room_in bytes) [] calls)
