-- What `src/` keeps while it labels, tied to the labelling (01: "labels, queue [..] live in its own fixed arrays"). For the
-- functions inside: no public contract cites this file.
--     DartsOnce M q                  q holds darts of M alone, and none of them twice
--     Labels labels q                the array has the label of each dart in q
--     Holds labels queue given q     the arrays hold the queue q, and the label of each dart
--     Meets                          a dart may be met
--     Serves                         a dart may be served
--     IsRow g d row                  a dart's row of the table
--     not_labelled labels            the least dart that has no label, or 0
-- Assumes nothing.
use Rattle.std.specs.Prelude.{ℕ, ◌+◌, ◌-◌, ◌≤◌, ◌<◌, ◌≡◌, List, eqb, length, get_or, take}
use Rattle.maps.specs.Least.{nth, least}
use Rattle.maps.specs.Map.{Map, IsDart, sew}
use Rattle.maps.specs.Given.{Given, map_of}
use Rattle.labels.specs.Queue.{label_in}

-- every place of q holds a dart, and no dart stands at two places
pub record DartsOnce (M : Map) (q : List ℕ) : Type 0 where
  pub of_darts : (k : ℕ) → 1 ≤ k → k ≤ length q → IsDart M (nth q k)
  pub once : (k : ℕ) → 1 ≤ k → k ≤ length q → label_in q (nth q k) ≡ k

-- a dart's label stands at index d - 1, and 0 where it has none
abbrev pub Labels : List ℕ → List ℕ → Type 0
Labels labels q = (d : ℕ) → 1 ≤ d → d ≤ 1020 → get_or labels (d - 1) 0 ≡ label_in q d

-- the darts labelled so far are the first numbers of the queue's array
pub record Holds (labels queue : List ℕ) (given : ℕ) (q : List ℕ) : Type 0 where
  pub long_labels : length labels ≡ 1020
  pub long_queue : length queue ≡ 1020
  pub few : given ≤ 1020
  pub so_far : take given queue ≡ q
  pub label : Labels labels q

-- the dart e, or 0, may be met: the arrays hold a queue, and have room for e where it is new
pub record Meets (labels queue : List ℕ) (given e : ℕ) : Type 0 where
  pub holds : Holds labels queue given (take given queue)
  pub none : label_in (take given queue) 0 ≡ 0
  pub within : e ≤ 1020
  pub room : 1 ≤ e → label_in (take given queue) e ≡ 0 → given < 1020

-- dart d may be served: it is one of the map, and the arrays hold a queue
pub record Serves (g : Given) (d : ℕ) (labels queue : List ℕ) (given : ℕ) : Type 0 where
  pub dart : IsDart (map_of g) d
  pub good : DartsOnce (map_of g) (take given queue)
  pub holds : Holds labels queue given (take given queue)

-- β1, .. βn of d
pub record IsRow (g : Given) (d : ℕ) (row : List ℕ) : Type 0 where
  pub long : length row ≡ g.n
  pub sews : (i : ℕ) → i < g.n → get_or row i 0 ≡ sew (map_of g) (i + 1) d

-- the least dart at which 0 stands, or 0
unfoldable pub not_labelled : List ℕ → ℕ
not_labelled labels = least (length labels) (λ d. eqb (get_or labels (d - 1) 0) 0)
