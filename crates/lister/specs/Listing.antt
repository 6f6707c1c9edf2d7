-- What the layout lister prints for its whole input, byte by byte (01, "The layout lister").
--     decimal x          the digits of x
--     spaced ws          words with one space between, and a newline
--     shown_fault k f    the number and place for the fault f of record k
--     accepted_line, refused_line
--                        the two kinds of line of a record
--     line_of k r        the line for record k, whose bytes are r
--     short_end k        what a short end of k bytes prints
--     line_from k bytes  the line for bytes handed in as record k: a record's, or a short end's
--     listing bytes      the whole output
--     shown_reading      the number and place for a reading
--     record_lines       the lines of the display's table for one record, and `RecordShows` what they say
-- Bytes are ASCII. Assumes nothing.
use Rattle.std.specs.Prelude.{ℕ, zero, suc, ◌+◌, ◌*◌, ◌/◌, ◌%◌, ◌<◌, ◌≡◌, false, cond, ◌⊎◌, List, [], ◌∷◌, ◌++◌, eqb, ltb, leb, length, take}
use Rattle.maps.specs.Given.{Given, map_of}
use Rattle.maps.specs.Verdict.{Verdict, accepted, refused}
use Rattle.maps.specs.Lines.{Line, Shows, plain, map_lines}
use Rattle.words.specs.Words.{start, symmetries}
use Rattle.drawer.specs.Record.{Fault, wrong_dimension, wrong_size, no_die, zero_byte, filling, no_map, other_word, Reading, good, bad, record_size, filed_in, zero_byte_in, filling_in, all_zero, read_table}
use Rattle.drawer.specs.Drawer.{record_at}

-- the last `most` digits of x, without zeros in front
unfoldable pub digits : ℕ → ℕ → List ℕ
digits zero x = []
digits (suc most) x =
    let more = digits most (x / 10) ++ ((48 + x % 10) ∷ []) in
    cond (ltb x 10) ((48 + x) ∷ []) more

-- "in decimal": a number has no more digits than it counts, and one more for 0
unfoldable pub decimal : ℕ → List ℕ
decimal x = digits (suc x) x

-- "one space between"; "Every line, the last too, ends with a newline"
unfoldable pub spaced : List (List ℕ) → List ℕ
spaced [] = 10 ∷ []
spaced (w ∷ []) = w ++ (10 ∷ [])
spaced (w ∷ v ∷ ws) = w ++ (32 ∷ []) ++ spaced (v ∷ ws)

-- the words `refused` and `short`
unfoldable pub refused_word : List ℕ
refused_word = 114 ∷ 101 ∷ 102 ∷ 117 ∷ 115 ∷ 101 ∷ 100 ∷ []

unfoldable pub short_word : List ℕ
short_word = 115 ∷ 104 ∷ 111 ∷ 114 ∷ 116 ∷ []

-- "Order: 1, 2, then 14 (die 0, zero byte or filling wrong; place is the record, from 1), then 5 to 9"
-- (`read_table` finds the faults in this order, and never finds `other_word`)
unfoldable pub shown_fault : ℕ → Fault → Verdict
shown_fault k wrong_dimension = refused 1 0
shown_fault k wrong_size = refused 2 0
shown_fault k no_die = refused 14 k
shown_fault k zero_byte = refused 14 k
shown_fault k filling = refused 14 k
shown_fault k (no_map v) = v
shown_fault k other_word = refused 14 k

-- the number and place that the display would show of a reading
unfoldable pub shown_reading : ℕ → Reading → Verdict
shown_reading k (good f) = accepted
shown_reading k (bad f) = shown_fault k f

-- "die, n, m, symmetries, start dart"
unfoldable pub accepted_line : ℕ → Given → List ℕ
accepted_line die l =
    let M = map_of l in
    spaced (decimal die ∷ decimal l.n ∷ decimal l.m ∷ decimal (symmetries M) ∷ decimal (start M) ∷ [])

-- "A refused record prints: die, `refused`, number, place"
unfoldable pub refused_line : ℕ → Verdict → List ℕ
refused_line die v = spaced (decimal die ∷ refused_word ∷ decimal v.number ∷ decimal v.place ∷ [])

unfoldable pub line_for : ℕ → ℕ → Reading → List ℕ
line_for k die (good f) = accepted_line die f.layout
line_for k die (bad f) = refused_line die (shown_fault k f)

unfoldable pub line_of : ℕ → List ℕ → List ℕ
line_of k r = line_for k (filed_in r).die (read_table r)

-- the lines of the first k records
unfoldable pub lines_to : ℕ → List ℕ → List ℕ
lines_to zero bytes = []
lines_to (suc k) bytes = lines_to k bytes ++ line_of (suc k) (record_at bytes (suc k))

-- "A short end of k bytes prints `short k`"
unfoldable pub short_end : ℕ → List ℕ
short_end k = cond (eqb k 0) [] (spaced (short_word ∷ decimal k ∷ []))

-- the line for bytes handed in as record k, of which no more than a record's are read
unfoldable pub line_from : ℕ → List ℕ → List ℕ
line_from k bytes = cond (leb record_size (length bytes)) (line_of k (take record_size bytes)) (short_end (length bytes))

unfoldable pub listing : List ℕ → List ℕ
listing bytes = lines_to (length bytes / record_size) bytes ++ short_end (length bytes % record_size)

-- the lines of the display's table that a record can show, in their order: 1, 2, then 14 at its own number, then 5 to 9
unfoldable pub record_lines : ℕ → List ℕ → List Line
record_lines k r =
    let f = filed_in r in
    let l = f.layout in
    plain 1 ((l.n ≡ 0) ⊎ (4 < l.n))
    ∷ plain 2 ((l.m ≡ 0) ⊎ (1020 < l.n * l.m))
    -- "14 (die 0, zero byte or filling wrong; place is the record, from 1)"
    ∷ record { number = 14; Holds = λ p. (p ≡ k) × ((f.die ≡ 0) ⊎ (¬ (zero_byte_in r ≡ 0)) ⊎ (all_zero (filling_in r) ≡ false)) }
    ∷ map_lines (map_of l)

-- a refused record's number and place are what its lines show
unfoldable pub RecordShows : Type 1
RecordShows = (k : ℕ) (r : List ℕ) → Shows (record_lines k r) (shown_reading k (read_table r))
