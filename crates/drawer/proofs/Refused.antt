-- Faults of a record and refusals of the drawer's calls, computed: each fault by its name, and 13 and 14 in their places. 15 to 18
-- are in `Run`. Assumes nothing.
use Prim.Native.Nat.{ℕ}
use mathlib.Core.Path.{◌≡◌, refl}
use mathlib.Core.Bool.{Bool, true, ◌&&◌}
use mathlib.Core.List.{List, [], ◌∷◌, ◌++◌}
use lib.Dec.{T, eqb}
use lib.ListN.{set, replicate}
use Rattle.maps.specs.Given.{lent}
use Rattle.maps.specs.Verdict.{Verdict}
use Rattle.drawer.specs.Record.{wrong_dimension, wrong_size, no_die, zero_byte, filling, no_map, other_word, Reading, good, bad, record_bytes, read_record}
use Rattle.drawer.specs.Drawer.{drawer, most_records, drawer_answer, filed_bytes}
use Rattle.drawer.proofs.Opened.{opened}

-- the record of a die with a table of dimension n
abbrev filed : ℕ → ℕ → ℕ → List ℕ → List ℕ
filed die n m t = record_bytes (record { die = die; layout = lent n m t })

-- an open chain of two darts as its signature, and its record
abbrev chain : ℕ → List ℕ
chain die = filed die 1 2 (0 ∷ 1 ∷ [])

-- a number for each fault; of one that is a map's, the map's own
abbrev named : Reading → ℕ
named (good f) = 0
named (bad wrong_dimension) = 1
named (bad wrong_size) = 2
named (bad no_die) = 3
named (bad zero_byte) = 4
named (bad filling) = 10
named (bad (no_map v)) = v.number
named (bad other_word) = 11

record Read : Type 0 where
  bytes : List ℕ
  fault : ℕ

abbrev reads : List ℕ → ℕ → Read
reads bytes k = record { bytes = bytes; fault = k }

abbrev readings : List Read
readings =
    reads (chain 7) 0
    ∷ reads (filed 7 0 2 (0 ∷ 1 ∷ [])) 1
    ∷ reads (filed 7 5 1 (0 ∷ 1 ∷ [])) 1
    ∷ reads (filed 7 1 0 []) 2
    ∷ reads (chain 0) 3
    ∷ reads (set (chain 7) 5 1) 4
    ∷ reads (set (chain 7) 12 1) 10
    ∷ reads (set (chain 7) 2047 1) 10
    ∷ reads (filed 7 1 2 (3 ∷ 0 ∷ [])) 5
    ∷ reads (filed 7 1 2 (1 ∷ 1 ∷ [])) 6
    ∷ reads (filed 7 2 2 (0 ∷ 2 ∷ 0 ∷ 0 ∷ [])) 7
    ∷ reads (filed 7 1 2 (1 ∷ 2 ∷ [])) 9
    ∷ reads (filed 7 1 2 (2 ∷ 0 ∷ [])) 11
    ∷ []

abbrev each : List Read → Bool
each [] = true
each (r ∷ rest) = eqb (named (read_record r.bytes)) r.fault && each rest

pub faults_named : T (each readings)
unfolding opened
faults_named = tt

record Checked : Type 0 where
  answer : Verdict
  number : ℕ
  place : ℕ

abbrev is : Verdict → ℕ → ℕ → Checked
is v k p = record { answer = v; number = k; place = p }

-- the die of one record, and the layout of one, stand again in the next
abbrev drawers : List Checked
drawers =
    is (drawer_answer (drawer 0 [])) 0 0
    ∷ is (drawer_answer (drawer 1025 [])) 13 0
    ∷ is (drawer_answer (drawer 1 (replicate 2047 0))) 13 0
    ∷ is (drawer_answer (drawer 1 (replicate 2048 0))) 14 1
    ∷ is (drawer_answer (drawer 2 (chain 7 ++ filed 8 1 1 (1 ∷ [])))) 0 0
    ∷ is (drawer_answer (drawer 2 (chain 7 ++ filed 7 1 1 (1 ∷ [])))) 14 2
    ∷ is (drawer_answer (drawer 2 (chain 7 ++ chain 8))) 14 2
    ∷ is (drawer_answer (drawer 2 (chain 7 ++ set (filed 8 1 1 (1 ∷ [])) 1000 1))) 14 2
    ∷ is (drawer_answer (drawer 1 (chain 7 ++ chain 8))) 0 0
    -- a die number that 4 bytes do not hold, which no caller can hand in, is not kept: so `StaysGood` bounds it
    ∷ is (drawer_answer (drawer 1 (filed_bytes 4294967295 (lent 1 2 (2 ∷ 0 ∷ [])) (drawer 0 (replicate 2048 0))))) 0 0
    ∷ is (drawer_answer (drawer 1 (filed_bytes 4294967296 (lent 1 2 (2 ∷ 0 ∷ [])) (drawer 0 (replicate 2048 0))))) 14 1
    ∷ []

abbrev all : List Checked → Bool
all [] = true
all (c ∷ rest) = eqb c.answer.number c.number && eqb c.answer.place c.place && all rest

pub drawers_judged : T (all drawers)
unfolding opened
drawers_judged = tt

-- a drawer of 1,025 records is too long to compute with: the bound itself
pub most_records_lem : most_records ≡ 1024
unfolding most_records
most_records_lem = refl
