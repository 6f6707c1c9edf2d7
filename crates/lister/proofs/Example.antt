-- The lister's example of document 01: for case F as die 501 the whole output is `501 2 7 1 7`; and each kind of line, computed.
-- Assumes nothing.
use mathlib.Core.Path.{◌≡◌, refl}
use mathlib.Core.List.{List, [], ◌∷◌, ◌++◌}
use lib.ListN.{set, replicate}
use Prim.Native.Nat.{ℕ}
use Rattle.maps.specs.Given.{lent}
use Rattle.drawer.specs.Record.{Filed, record_bytes}
use Rattle.drawer.proofs.Opened.{opened}
use Rattle.lister.specs.Listing.{digits, decimal, spaced, refused_word, short_word, shown_fault, accepted_line, refused_line, line_for, line_of, lines_to, short_end, listing}

-- case F as die 501
abbrev pub die501 : Filed
die501 =
    record {
      die = 501;
      layout = lent 2 7 (2 ∷ 0 ∷ 3 ∷ 0 ∷ 4 ∷ 5 ∷ 1 ∷ 0 ∷ 6 ∷ 3 ∷ 7 ∷ 0 ∷ 5 ∷ 0 ∷ []);
    }

pub listing_501 : listing (record_bytes die501) ≡ 53 ∷ 48 ∷ 49 ∷ 32 ∷ 50 ∷ 32 ∷ 55 ∷ 32 ∷ 49 ∷ 32 ∷ 55 ∷ 10 ∷ []
unfolding opened digits decimal spaced refused_word short_word shown_fault accepted_line refused_line line_for line_of lines_to short_end listing
listing_501 = refl

-- `refused` and `short` as bytes, between spaces
abbrev refuses : List ℕ
refuses = 32 ∷ 114 ∷ 101 ∷ 102 ∷ 117 ∷ 115 ∷ 101 ∷ 100 ∷ 32 ∷ []

-- the line of record k, a die with a table of dimension n, one byte of whose record may be another
abbrev line_filed : ℕ → ℕ → ℕ → ℕ → List ℕ → List ℕ
line_filed k die n m t = line_of k (record_bytes (record { die = die; layout = lent n m t }))

abbrev line_changed : ℕ → ℕ → List ℕ
line_changed k place = line_of k (set (record_bytes (record { die = 9; layout = lent 1 1 (1 ∷ []) })) place 3)

-- each kind of line: 1, 2, 14 for the die, the zero byte and the filling at record 12, then 5 to 9, and a table that is no signature
abbrev lines : List (List ℕ)
lines =
    line_filed 12 9 0 1 []
    ∷ line_filed 12 9 1 0 []
    ∷ line_filed 12 0 1 1 (1 ∷ [])
    ∷ line_changed 12 5
    ∷ line_changed 12 2047
    ∷ line_filed 12 9 1 2 (3 ∷ 0 ∷ [])
    ∷ line_filed 12 9 1 2 (1 ∷ 1 ∷ [])
    ∷ line_filed 12 9 2 2 (0 ∷ 2 ∷ 0 ∷ 0 ∷ [])
    ∷ line_filed 12 9 3 3 (0 ∷ 0 ∷ 2 ∷ 3 ∷ 0 ∷ 1 ∷ 0 ∷ 0 ∷ 0 ∷ [])
    ∷ line_filed 12 9 1 2 (1 ∷ 2 ∷ [])
    ∷ line_filed 12 10 1 2 (2 ∷ 0 ∷ [])
    ∷ []

abbrev printed : List (List ℕ)
printed =
    (57 ∷ refuses ++ (49 ∷ 32 ∷ 48 ∷ 10 ∷ []))
    ∷ (57 ∷ refuses ++ (50 ∷ 32 ∷ 48 ∷ 10 ∷ []))
    ∷ (48 ∷ refuses ++ (49 ∷ 52 ∷ 32 ∷ 49 ∷ 50 ∷ 10 ∷ []))
    ∷ (57 ∷ refuses ++ (49 ∷ 52 ∷ 32 ∷ 49 ∷ 50 ∷ 10 ∷ []))
    ∷ (57 ∷ refuses ++ (49 ∷ 52 ∷ 32 ∷ 49 ∷ 50 ∷ 10 ∷ []))
    ∷ (57 ∷ refuses ++ (53 ∷ 32 ∷ 49 ∷ 10 ∷ []))
    ∷ (57 ∷ refuses ++ (54 ∷ 32 ∷ 50 ∷ 10 ∷ []))
    ∷ (57 ∷ refuses ++ (55 ∷ 32 ∷ 50 ∷ 10 ∷ []))
    ∷ (57 ∷ refuses ++ (56 ∷ 32 ∷ 51 ∷ 10 ∷ []))
    ∷ (57 ∷ refuses ++ (57 ∷ 32 ∷ 50 ∷ 10 ∷ []))
    ∷ (49 ∷ 48 ∷ 32 ∷ 49 ∷ 32 ∷ 50 ∷ 32 ∷ 49 ∷ 32 ∷ 50 ∷ 10 ∷ [])
    ∷ []

pub lines_printed : lines ≡ printed
unfolding opened digits decimal spaced refused_word short_word shown_fault accepted_line refused_line line_for line_of
lines_printed = refl

-- `short 10` for ten bytes, and nothing for none
pub short_printed : (listing (replicate 10 0) ≡ 115 ∷ 104 ∷ 111 ∷ 114 ∷ 116 ∷ 32 ∷ 49 ∷ 48 ∷ 10 ∷ []) × (listing [] ≡ [])
unfolding opened digits decimal spaced refused_word short_word shown_fault accepted_line refused_line line_for line_of lines_to short_end listing
short_printed = (refl, refl)
