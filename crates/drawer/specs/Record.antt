-- A record of 2,048 bytes, and what reading it finds (01, "The drawer").
--     Filed           a die number and its layout: n, m and a dart table, in a good drawer a signature
--     record_bytes    the bytes of a filed layout
--     filed_in r      what the bytes r of a record say, read as they stand
--     Fault           why a record is no filed layout, by name
--     Reading         what a reading finds: a filed layout or a named fault
--     read_table r    reading a record that holds any dart table (the lister's)
--     read_record r   reading a record of a drawer, whose table must be its own signature
-- Bytes are numbers below 256. Assumes nothing.
use Rattle.std.specs.Prelude.{ℕ, zero, suc, ◌+◌, ◌-◌, ◌*◌, ◌/◌, ◌%◌, Bool, true, cond, ◌&&◌, eqb, leb, take, drop, replicate}
use mathlib.Core.List.{List, [], ◌∷◌, ◌++◌, flat_map}
use Rattle.maps.specs.Least.{nth}
use Rattle.maps.specs.Given.{Given, lent, map_of}
use Rattle.maps.specs.Verdict.{Verdict, accepts}
use Rattle.maps.specs.Rules.{judge_dimension, judge_size}
use Rattle.labels.specs.Judging.{judge_map}
use Rattle.words.specs.Words.{same, signature}

pub record Filed : Type 0 where
  pub die : ℕ
  pub layout : Given

-- 01: "layout (n, m and word)"
unfoldable pub same_layout : Given → Given → Bool
same_layout a b = eqb a.n b.n && eqb a.m b.m && same a.table b.table

-- 01: "numbers little end first": the number x in k bytes, and the number that bytes say
unfoldable pub to_bytes : ℕ → ℕ → List ℕ
to_bytes zero x = []
to_bytes (suc k) x = (x % 256) ∷ to_bytes k (x / 256)

unfoldable pub from_bytes : List ℕ → ℕ
from_bytes [] = 0
from_bytes (b ∷ bs) = b + 256 * from_bytes bs

-- the first k numbers of 16 bits
unfoldable pub numbers : ℕ → List ℕ → List ℕ
numbers zero bs = []
numbers (suc k) bs = from_bytes (take 2 bs) ∷ numbers k (drop 2 bs)

unfoldable pub record_size : ℕ
record_size = 2048

-- 01: "die number (4 bytes), n (1), a zero byte, m (2), the signature as 16-bit numbers, zeros to the end"
unfoldable pub record_bytes : Filed → List ℕ
record_bytes f =
    let l = f.layout in
    to_bytes 4 f.die ++ to_bytes 1 l.n ++ (0 ∷ []) ++ to_bytes 2 l.m
    ++ flat_map (to_bytes 2) l.table
    ++ replicate (record_size - 8 - 2 * (l.n * l.m)) 0

-- the fields where they stand in a record
unfoldable pub filed_in : List ℕ → Filed
filed_in r =
    let n = nth r 5 in
    let m = from_bytes (take 2 (drop 6 r)) in
    record {
      die = from_bytes (take 4 r);
      layout = lent n m (numbers (n * m) (drop 8 r));
    }

unfoldable pub zero_byte_in : List ℕ → ℕ
zero_byte_in r = nth r 6

-- what follows the word
unfoldable pub filling_in : List ℕ → List ℕ
filling_in r =
    let l = (filed_in r).layout in
    drop (8 + 2 * (l.n * l.m)) r

unfoldable pub all_zero : List ℕ → Bool
all_zero [] = true
all_zero (b ∷ bs) = eqb b 0 && all_zero bs

pub data Fault : Type 0 where
  -- n outside 1..4
  wrong_dimension : Fault
  -- m = 0 or n·m > 1,020
  wrong_size : Fault
  -- the die number is 0
  no_die : Fault
  -- the zero byte isn't zero
  zero_byte : Fault
  -- a byte after the word isn't zero
  filling : Fault
  -- the table is no accepted map: its verdict, 5 to 9
  no_map : Verdict → Fault
  -- the table is an accepted map, and not its own signature
  other_word : Fault

-- 01: "Each reading of a record is either a filed layout or a named fault"
pub data Reading : Type 0 where
  good : Filed → Reading
  bad : Fault → Reading

-- the reading goes on where the test passes
unfoldable pub provided : Bool → Fault → Reading → Reading
provided b f r = cond b r (bad f)

-- n and m first, since all else is where they say; then what is 14 to the lister; then the map
unfoldable pub read_table : List ℕ → Reading
read_table r =
    let f = filed_in r in
    let l = f.layout in
    let v = judge_map (map_of l) in
    provided (accepts (judge_dimension l)) wrong_dimension
    (provided (accepts (judge_size l)) wrong_size
    (provided (leb 1 f.die) no_die
    (provided (eqb (zero_byte_in r) 0) zero_byte
    (provided (all_zero (filling_in r)) filling
    (provided (accepts v) (no_map v)
    (good f))))))

-- 01: "the word isn't an accepted map equal to its own signature"
unfoldable pub as_signed : Reading → Reading
as_signed (good f) = provided (same f.layout.table (signature (map_of f.layout))) other_word (good f)
as_signed (bad f) = bad f

unfoldable pub read_record : List ℕ → Reading
read_record r = as_signed (read_table r)
