-- A short life of a drawer with room for two records, computed: the answers of the drawer, and those of the plain list.
-- That they agree over every run is `PlainList`. Assumes nothing.
use mathlib.Core.Path.{◌≡◌, refl}
use mathlib.Core.List.{List, [], ◌∷◌, map}
use Prim.Native.Nat.{ℕ}
use lib.ListN.{length, replicate}
use Rattle.drawer.specs.Plain.{Call, checks, searches, fetches, files, Answer, checked, searched, fetched, filed, drawer_run, plain_run, room_in}
use Rattle.maps.specs.Given.{lent}
use Rattle.drawer.specs.Drawer.{drawer}
use Rattle.drawer.proofs.Opened.{opened}

-- an answer's numbers; of bytes handed back, how many
abbrev pub shown : Answer → List ℕ
shown (checked v) = v.number ∷ v.place ∷ []
shown (searched a) = a.number ∷ a.place ∷ a.die ∷ a.at ∷ []
shown (fetched part) = length part ∷ []
shown (filed a) = a.number ∷ a.place ∷ a.count ∷ []

-- two records and four bytes more, none of them zero
abbrev pub bytes : List ℕ
bytes = replicate 4100 7

abbrev pub calls : List Call
calls =
    checks
    ∷ searches (lent 1 2 (2 ∷ 0 ∷ []))
    ∷ files 0 (lent 1 2 (2 ∷ 0 ∷ []))
    ∷ files 501 (lent 1 2 (2 ∷ 0 ∷ []))
    ∷ searches (lent 1 2 (0 ∷ 1 ∷ []))
    ∷ fetches (lent 1 2 (0 ∷ 1 ∷ []))
    ∷ files 501 (lent 1 1 (1 ∷ []))
    ∷ files 502 (lent 1 2 (0 ∷ 1 ∷ []))
    ∷ files 502 (lent 1 1 (1 ∷ []))
    ∷ checks
    ∷ searches (lent 1 1 (1 ∷ []))
    ∷ files 503 (lent 1 1 (0 ∷ []))
    ∷ searches (lent 1 1 (0 ∷ []))
    ∷ searches (lent 1 1 (9 ∷ []))
    ∷ []

abbrev pub answers : List (List ℕ)
answers =
    (0 ∷ 0 ∷ [])
    ∷ (15 ∷ 0 ∷ 0 ∷ 0 ∷ [])
    ∷ (16 ∷ 0 ∷ 0 ∷ [])
    ∷ (0 ∷ 0 ∷ 1 ∷ [])
    ∷ (0 ∷ 0 ∷ 501 ∷ 1 ∷ [])
    ∷ (2048 ∷ [])
    ∷ (16 ∷ 1 ∷ 0 ∷ [])
    ∷ (17 ∷ 1 ∷ 0 ∷ [])
    ∷ (0 ∷ 0 ∷ 2 ∷ [])
    ∷ (0 ∷ 0 ∷ [])
    ∷ (0 ∷ 0 ∷ 502 ∷ 2 ∷ [])
    ∷ (18 ∷ 0 ∷ 0 ∷ [])
    ∷ (15 ∷ 0 ∷ 0 ∷ 0 ∷ [])
    ∷ (5 ∷ 1 ∷ 0 ∷ 0 ∷ [])
    ∷ []

pub run_answers : map shown (drawer_run (drawer 0 bytes) calls) ≡ answers
unfolding opened
run_answers = refl

pub run_plain : drawer_run (drawer 0 bytes) calls ≡ plain_run (room_in bytes) [] calls
unfolding opened
run_plain = refl
