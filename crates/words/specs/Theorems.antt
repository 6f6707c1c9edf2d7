-- What the definitions mean: the paper's theorems over accepted maps, as statements. `proofs/Theorems.antt` proves each.
-- Accepted is 000, definitions 1 and 2 (`maps`, Accepted); Matching and Matched are definition 3 (`maps`, Matching); a word is
-- definition 6 and the signature definition 9 (Words).
--     read_as M w        the word w read as a dart table of M's dimension and dart count
--     Covers, SameWords, SharedWord, SameSignature
--                        what two maps may have in common
--     LabelsMatch        4: the labelling is a matching of the map with its word, read as a dart table
--     WordsCarried       5: a matching carries labels along, so words agree
--     WordsMatch         6: equal words give a matching, the one that keeps labels, and no other takes d to d'
--     Theorem1, Theorem2, Definition9
--                        000
--     SignatureTells     8, demand 3: equal dimension, dart count and signature exactly when a matching exists
--     SignatureRead      9, demand 2: a signature read as a dart table is accepted, and is its own signature
--     StartLeast         the start, and bounds of the symmetries
--     SignatureShows     10: the numbers of the signature call are what its lines show
-- Assumes nothing.
use Rattle.std.specs.Prelude.{ℕ, ◌≤◌, ◌≡◌, false, List, map, ◌↔◌}
use Rattle.maps.specs.Least.{nth, up_to}
use Rattle.maps.specs.Map.{Map, IsDart}
use Rattle.maps.specs.Accepted.{Accepted}
use Rattle.maps.specs.Matching.{Matching, Matched}
use Rattle.maps.specs.Given.{Given, lent, map_of}
use Rattle.maps.specs.Verdict.{accepted, refused}
use Rattle.maps.specs.Lines.{Shows, table_lines}
use Rattle.maps.specs.declared.Output.TheVariants.{Word}
use Rattle.labels.specs.Queue.{label_in, labelling}
use Rattle.labels.specs.Judging.{check_answer}
use Rattle.words.specs.Words.{word, less, signature, start, symmetries, by_labels}
use Rattle.words.specs.Sign.{signature_answer}

-- "A signature, read again as a dart table"
abbrev pub read_as : Map → List ℕ → Map
read_as M w = map_of (lent M.dim M.darts w)

-- M' has every word of M
abbrev pub Covers : Map → Map → Type 0
Covers M M' = (d : ℕ) → IsDart M d → (e : ℕ) × IsDart M' e × (word M d ≡ word M' e)

-- 000, definition 7: the same set of words
abbrev pub SameWords : Map → Map → Type 0
SameWords M M' = Covers M M' × Covers M' M

-- a word of one is a word of the other
abbrev pub SharedWord : Map → Map → Type 0
SharedWord M M' = (d d' : ℕ) × IsDart M d × IsDart M' d' × (word M d ≡ word M' d')

-- dimension, dart count and signature are equal
abbrev pub SameSignature : Map → Map → Type 0
SameSignature M M' = (M.dim ≡ M'.dim) × (M.darts ≡ M'.darts) × (signature M ≡ signature M')

-- the labels of the darts 1 to m from d
unfoldable pub labels_from : Map → ℕ → List ℕ
labels_from M d = map (label_in (labelling M d)) (up_to M.darts)

unfoldable pub LabelsMatch : Type 0
LabelsMatch = (M : Map) → Accepted M → (d : ℕ) → IsDart M d → Matching M (read_as M (word M d)) (labels_from M d)

unfoldable pub WordsCarried : Type 0
WordsCarried = (M M' : Map) (f : List ℕ) → Accepted M → Matching M M' f → (d : ℕ) → IsDart M d → word M d ≡ word M' (nth f d)

unfoldable pub WordsMatch : Type 0
WordsMatch =
    (M M' : Map) → Accepted M → Accepted M' → M.dim ≡ M'.dim
    → (d d' : ℕ) → IsDart M d → IsDart M' d' → word M d ≡ word M' d'
    → Matching M M' (by_labels M d M' d')
    × (nth (by_labels M d M' d') d ≡ d')
    × ((g : List ℕ) → Matching M M' g → nth g d ≡ d' → g ≡ by_labels M d M' d')

-- 000, theorem 1: "isomorphic iff there exist d and d' such that" their words are equal
unfoldable pub Theorem1 : Type 0
Theorem1 = (M M' : Map) → Accepted M → Accepted M' → M.dim ≡ M'.dim → Matched M M' ↔ SharedWord M M'

-- 000, theorem 2: "isomorphic if and only if SS(M) = SS(M')"
unfoldable pub Theorem2 : Type 0
Theorem2 = (M M' : Map) → Accepted M → Accepted M' → M.dim ≡ M'.dim → Matched M M' ↔ SameWords M M'

-- 000, definition 9: the signature is the least of the words
unfoldable pub Definition9 : Type 0
Definition9 =
    (M : Map) → Accepted M
    → ((d : ℕ) × IsDart M d × (word M d ≡ signature M))
    × ((d : ℕ) → IsDart M d → less (word M d) (signature M) ≡ false)

-- demand 3: equal dimension, dart count and signature exactly when a matching exists
unfoldable pub SignatureTells : Type 0
SignatureTells = (M M' : Map) → Accepted M → Accepted M' → SameSignature M M' ↔ Matched M M'

-- demand 2: a signature read as a dart table is accepted, its length and all, and is its own signature, from start 1
unfoldable pub SignatureRead : Type 0
SignatureRead =
    (M : Map) → Accepted M
    → (check_answer (lent M.dim M.darts (signature M)) ≡ accepted)
    × Accepted (read_as M (signature M))
    × (signature (read_as M (signature M)) ≡ signature M)
    × (start (read_as M (signature M)) ≡ 1)

-- the start is the least dart whose word is the signature, and the symmetries are at least 1 and at most m
unfoldable pub StartLeast : Type 0
StartLeast =
    (M : Map) → Accepted M
    → IsDart M (start M)
    × (word M (start M) ≡ signature M)
    × ((d : ℕ) → IsDart M d → word M d ≡ signature M → start M ≤ d)
    × (1 ≤ symmetries M)
    × (symmetries M ≤ M.darts)

unfoldable pub SignatureShows : Type 1
SignatureShows = (g : Given) (room : ℕ) → Shows (table_lines (Word room) g) (refused (signature_answer g room).number (signature_answer g room).place)
