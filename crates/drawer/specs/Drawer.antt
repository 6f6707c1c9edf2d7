-- The drawer and the calls on it, for every input (01, "The drawer", and numbers 13 to 18).
--     Drawer, drawer       bytes, and the count of records that the caller lends with them
--     record_at bytes k    the bytes of record k, counted from 1
--     bad_record bytes k   record k is bad
--     drawer_answer        the drawer check
--     search_answer        search: number, place, die and record
--     own_bytes            the record's own bytes, empty with a refusal
--     filing_answer        filing: number, place and the new count
--     filed_bytes          the drawer's bytes afterwards
-- Assumes nothing.
use Rattle.std.specs.Prelude.{ℕ, ◌+◌, ◌-◌, ◌*◌, Bool, true, false, cond, ◌&&◌, ◌||◌, List, [], ◌∷◌, ◌++◌, eqb, leb, length, take, drop}
use Rattle.maps.specs.Least.{least, some}
use Rattle.maps.specs.Given.{Given, lent, map_of}
use Rattle.maps.specs.Verdict.{Verdict, accepts, unless, at_least, in_order}
use Rattle.labels.specs.Judging.{check_answer}
use Rattle.words.specs.Words.{signature}
use Rattle.drawer.specs.Record.{Filed, Reading, good, bad, record_size, record_bytes, filed_in, same_layout, read_record}

-- 01: "The caller lends the drawer with its record count"
pub record Drawer : Type 0 where
  pub count : ℕ
  pub bytes : List ℕ

abbrev pub drawer : ℕ → List ℕ → Drawer
drawer count bytes = record { count = count; bytes = bytes }

-- 01: "A drawer holds 0 to 1,024 records"
unfoldable pub most_records : ℕ
most_records = 1024

-- 01: "records count from 1"; "Records of 2,048 bytes, no header"
unfoldable pub record_at : List ℕ → ℕ → List ℕ
record_at bytes k = take record_size (drop ((k - 1) * record_size) bytes)

unfoldable pub entry_at : List ℕ → ℕ → Filed
entry_at bytes k = filed_in (record_at bytes k)

unfoldable pub is_bad : Reading → Bool
is_bad (good f) = false
is_bad (bad f) = true

unfoldable pub has_die : ℕ → Filed → Bool
has_die die f = eqb f.die die

unfoldable pub has_layout : Given → Filed → Bool
has_layout l f = same_layout f.layout l

-- 01: "its die number or its layout (n, m and word) stands in an earlier record"
unfoldable pub repeats : List ℕ → ℕ → Bool
repeats bytes k =
    let f = entry_at bytes k in
    some (k - 1) (λ j. has_die f.die (entry_at bytes j) || has_layout f.layout (entry_at bytes j))

unfoldable pub bad_record : List ℕ → ℕ → Bool
bad_record bytes k = is_bad (read_record (record_at bytes k)) || repeats bytes k

-- 13: "record count above 1,024, or its bytes exceed the lent drawer"
unfoldable pub judge_count : Drawer → Verdict
judge_count D = unless (leb D.count most_records && leb (D.count * record_size) (length D.bytes)) 13 0

-- 14: "a bad record", the least
unfoldable pub judge_records : Drawer → Verdict
judge_records D = at_least 14 (least D.count (bad_record D.bytes))

-- 01: "The drawer check gives 13, 14"
unfoldable pub drawer_answer : Drawer → Verdict
drawer_answer D = in_order (judge_count D ∷ judge_records D ∷ [])

-- what the reader looks for: the map's dimension, dart count and signature
unfoldable pub layout_of : Given → Given
layout_of g = lent g.n g.m (signature (map_of g))

-- the least record with the layout, or 0
unfoldable pub record_of : Given → Drawer → ℕ
record_of l D = least D.count (λ k. has_layout l (entry_at D.bytes k))

-- the least record with the die number, or 0
unfoldable pub record_of_die : ℕ → Drawer → ℕ
record_of_die die D = least D.count (λ k. has_die die (entry_at D.bytes k))

pub record SearchAnswer : Type 0 where
  pub number : ℕ
  pub place : ℕ
  pub die : ℕ
  pub at : ℕ

-- 01: "search gives 1..9, 13, 14, 15"
unfoldable pub judge_search : Given → Drawer → Verdict
judge_search g D =
    in_order
    (check_answer g
    ∷ drawer_answer D
    ∷ unless (leb 1 (record_of (layout_of g) D)) 15 0
    ∷ [])

-- 01: "Search answers die number and record number"
unfoldable pub search_answer : Given → Drawer → SearchAnswer
search_answer g D =
    let v = judge_search g D in
    let k = record_of (layout_of g) D in
    cond (accepts v)
    (record { number = 0; place = 0; die = (entry_at D.bytes k).die; at = k })
    (record { number = v.number; place = v.place; die = 0; at = 0 })

-- 01: "The record's own 2,048 bytes are handed back as that part of the drawer; with a refusal the part is empty"
unfoldable pub own_bytes : Given → Drawer → List ℕ
own_bytes g D =
    cond (accepts (judge_search g D))
    (record_at D.bytes (record_of (layout_of g) D))
    []

pub record FilingAnswer : Type 0 where
  pub number : ℕ
  pub place : ℕ
  pub count : ℕ

-- what stands against a die and a layout as the next record
unfoldable pub judge_next : ℕ → Given → Drawer → List Verdict
judge_next die l D =
    drawer_answer D
    -- 16: "die number 0 or already filed", place "0, or the record"
    ∷ unless (leb 1 die) 16 0
    ∷ at_least 16 (record_of_die die D)
    -- 17: "layout already filed"
    ∷ at_least 17 (record_of l D)
    -- 18: "count is 1,024, or the drawer has no room for one record more"
    ∷ unless (leb (D.count + 1) most_records && leb ((D.count + 1) * record_size) (length D.bytes)) 18 0
    ∷ []

-- 01: "filing gives 1..9, 13, 14, 16, 17, 18, in these orders"
unfoldable pub judge_filing : ℕ → Given → Drawer → Verdict
judge_filing die g D = in_order (check_answer g ∷ judge_next die (layout_of g) D)

-- 01: "answers the new count"
unfoldable pub filing_answer : ℕ → Given → Drawer → FilingAnswer
filing_answer die g D =
    let v = judge_filing die g D in
    cond (accepts v)
    (record { number = 0; place = 0; count = D.count + 1 })
    (record { number = v.number; place = v.place; count = 0 })

-- 01: "writes the next record, with the map's signature [..] and alters no other byte, beyond it included"
unfoldable pub filed_bytes : ℕ → Given → Drawer → List ℕ
filed_bytes die g D =
    cond (accepts (judge_filing die g D))
    (take (D.count * record_size) D.bytes
    ++ record_bytes (record { die = die; layout = layout_of g })
    ++ drop ((D.count + 1) * record_size) D.bytes)
    D.bytes
