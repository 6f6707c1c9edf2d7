-- What `src/` keeps while a start is tried against the word held, tied to words (01: "A start is given up at the first number
-- that exceeds the best word so far"). For the functions inside: no public contract cites this file.
--     side_of w b                 how the word w comes out against the word b
--     side_after, leaves_at       the same, one number further, and whether the start is then left
--     Met                         what meeting a dart leaves, and its label
--     Weighs, Weighed             a number may be judged, and what judging it leaves in the array of the word held
--     front M d rows              the first rows of the word from d
--     Ready                       a start may be tried, as far as these rows
--     Outcome                     how a start's rows come out against those held, and what is held then
--     Forgets                     the labels given can be forgotten
--     Raced, Tried                what running a start leaves, before and after its labels are forgotten
--     started_at                  the start kept, by how the last start came out
--     Settles, Settled            the lead and the trees kept, by how it came out
--     Known                       of a word the first rows are held
--     Spells, SpeltOut            it may be spelt out, and is
--     Signs                       all starts are tried, and the least word is found
--     Leads                       all starts may be tried against the word that start 1 yields
--     Sought                      the least start that yields the word held is found
--     Images, images_of           the images of a matching may be written, and which they are
-- Assumes nothing.
use Rattle.std.specs.Prelude.{ℕ, ◌*◌, ◌≤◌, ◌<◌, ◌≡◌, Bool, true, false, cond, not, ◌&&◌, List, map, length, get_or, set, take, Option, Some}
use Rattle.std.specs.declared.cmp.Ordering.{Ordering}
use Rattle.std.specs.declared.cmp.Ordering.TheVariants.{Less, Equal, Greater}
use Rattle.std.specs.Ordering.{is_lt, is_eq, nat_cmp, ordering_then}
use Rattle.maps.specs.Least.{nth, up_to, least, found_at}
use Rattle.maps.specs.Map.{Map, IsDart}
use Rattle.maps.specs.Given.{Given, map_of}
use Rattle.labels.specs.Queue.{label_in, visit, labelling}
use Rattle.labels.specs.Inside.{DartsOnce, Holds}
use Rattle.words.specs.Words.{word, same, less, lesser, signature, yields, start, symmetries}
use Rattle.words.specs.Sign.{over}
use Rattle.words.specs.Forest.{joined_all, JoinsAll}
use Rattle.words.specs.declared.engine.Labelling.{Labelling}
use Rattle.words.specs.declared.engine.Course.{Course}
use Rattle.words.specs.declared.found.Signature.{Signature}

-- how the word w comes out against the word b
unfoldable pub side_of : List ℕ → List ℕ → Ordering
side_of w b = cond (less w b) Less (cond (same w b) Equal Greater)

-- a start meets the number x where the word held has y: what is decided stays so
unfoldable pub side_after : Ordering → ℕ → ℕ → Ordering
side_after side x y = ordering_then side (nat_cmp x y)

-- a start is left where it is greater, and against a firm word where it is less
unfoldable pub leaves_at : Bool → Ordering → Bool
leaves_at firm Less = firm
leaves_at firm Equal = false
leaves_at firm Greater = true

-- the dart e is met: the arrays hold the queue with it, and its label is at hand
pub record Met (q : List ℕ) (e : ℕ) (labels queue : List ℕ) (r : Labelling) : Type 0 where
  pub holds : Holds labels queue r.given (visit q e)
  pub number : r.label ≡ label_in (visit q e) e

-- the number x may be judged at place p: against a firm word, a start that is less was left
pub record Weighs (p x : ℕ) (side : Ordering) (firm : Bool) : Type 0 where
  pub place : p < 1020
  pub fits : x ≤ 1020
  pub on : leaves_at firm side ≡ false

-- the number x is judged at place p: where the start is less and the word not firm, the array takes it
pub record Weighed (before after : List ℕ) (p x : ℕ) (side : Ordering) (firm : Bool) (r : Ordering) : Type 0 where
  pub is_side_after : r ≡ side_after side x (get_or before p 0)
  pub written : after ≡ cond (is_lt r && not firm) (set before p x) before

-- the first rows of the word from d
unfoldable pub front : Map → ℕ → ℕ → List ℕ
front M d rows = take (rows * M.dim) (word M d)

-- so many rows of a start may be tried, while no dart has a label (`Blank`, and the clause `blank` of `race`)
pub record Ready (g : Given) (d rows : ℕ) : Type 0 where
  pub dart : IsDart (map_of g) d
  pub some_rows : rows ≤ g.m

-- how the first rows of the start d come out against as many of `held`, which then hold the lesser, unless they are firm
pub record Outcome (g : Given) (d rows : ℕ) (firm : Bool) (held held' : List ℕ) (side : Ordering) : Type 0 where
  pub outcome : side ≡ side_of (front (map_of g) d rows) (take (rows * g.n) held)
  pub best : held' ≡ cond firm held (over (lesser (take (rows * g.n) held) (front (map_of g) d rows)) held)

-- the start d has run: the arrays hold the queue of what was labelled, all of it where all rows were judged
pub record Raced (g : Given) (d rows : ℕ) (firm : Bool) (held labels' queue' held' : List ℕ) (r : Course) : Type 0 where
  pub came : Outcome g d rows firm held held' r.side
  pub good : DartsOnce (map_of g) (take r.given queue')
  pub holds : Holds labels' queue' r.given (take r.given queue')
  pub whole : leaves_at firm r.side ≡ false → rows ≡ g.m → take r.given queue' ≡ labelling (map_of g) d

-- the labels of a queue can be forgotten: each of its darts has a place in the array
pub record Forgets (labels queue : List ℕ) (given : ℕ) : Type 0 where
  pub holds : Holds labels queue given (take given queue)
  pub inside : (k : ℕ) → 1 ≤ k → k ≤ given → (1 ≤ nth (take given queue) k) × (nth (take given queue) k ≤ 1020)

-- the start's labels are forgotten
pub record Tried (g : Given) (d rows : ℕ) (firm : Bool) (held queue' held' : List ℕ) (side : Ordering) : Type 0 where
  pub came : Outcome g d rows firm held held' side
  pub whole : leaves_at firm side ≡ false → rows ≡ g.m → take g.m queue' ≡ labelling (map_of g) d

-- the start kept: a lesser word starts anew
unfoldable pub started_at : Ordering → ℕ → ℕ → ℕ
started_at Less d kept = d
started_at Equal d kept = kept
started_at Greater d kept = kept

-- a start that has come out may be settled: where it is tied, its queue is joined with the lead
pub record Settles (side : Ordering) (m : ℕ) (queue lead : List ℕ) : Type 0 where
  pub few : m ≤ 1020
  pub joins : is_eq side ≡ true → JoinsAll (take m queue) (take m lead)

-- the start of a lesser word leads, and one that is tied joins the trees of what has one label
pub record Settled (side : Ordering) (m d kept : ℕ) (queue lead up lead' up' : List ℕ) (r : ℕ) : Type 0 where
  pub started : r ≡ started_at side d kept
  pub leads : lead' ≡ cond (is_lt side) (over (take m queue) lead) lead
  pub trees : up' ≡ cond (is_eq side) (joined_all m (take m queue) (take m lead) up) up

-- of the word b the first rows are held, and where they are not all, a number above all labels stands behind them
pub record Known (M : Map) (rows : ℕ) (b held : List ℕ) : Type 0 where
  pub spelt : take (rows * M.dim) held ≡ take (rows * M.dim) b
  pub unknown : rows < M.darts → get_or held (rows * M.dim) 0 ≡ 65535

-- the word of the start s may be spelt out, of which so many rows are known
pub record Spells (g : Given) (held : List ℕ) (s rows : ℕ) : Type 0 where
  pub ready : Ready g s rows
  pub partly : Known (map_of g) rows (word (map_of g) s) held

-- it is whole, and where it was not, the queue is its start's
pub record SpeltOut (g : Given) (s rows : ℕ) (queue' held' : List ℕ) : Type 0 where
  pub whole_word : take (g.n * g.m) held' ≡ word (map_of g) s
  pub order : rows < g.m → take g.m queue' ≡ labelling (map_of g) s

-- all starts are tried: the least word is found
pub record Signs (g : Given) (held : List ℕ) (r : Signature) : Type 0 where
  pub long : length held ≡ 1020
  pub is_least_word : take (g.n * g.m) held ≡ signature (map_of g)
  pub first : r.start ≡ start (map_of g)
  pub alike : r.symmetries ≡ symmetries (map_of g)

-- the word held is start 1's, and the lead is its queue
pub record Leads (g : Given) (lead held : List ℕ) : Type 0 where
  pub order : take g.m lead ≡ labelling (map_of g) 1
  pub first : word (map_of g) 1 ≡ take (g.n * g.m) held

-- the least start that yields the word held, and the queue of its labelling
pub record Sought (g : Given) (held : List ℕ) (r : Option ℕ) (queue' : List ℕ) : Type 0 where
  pub found : r ≡ found_at (least g.m (yields (map_of g) (take (g.n * g.m) held)))
  pub whole : (d : ℕ) → r ≡ Some d → take g.m queue' ≡ labelling (map_of g) d

-- the images of darts may be written: the first queue lists the darts 1 to its length
pub record Images (first second output : List ℕ) : Type 0 where
  pub as_long : length second ≡ length first
  pub room : length first ≤ length output
  pub dart_there : (k : ℕ) → 1 ≤ k → k ≤ length first → (1 ≤ nth first k) × (nth first k ≤ length first)
  pub label_of : (k : ℕ) → 1 ≤ k → k ≤ length first → label_in first (nth first k) ≡ k
  pub label_low : (d : ℕ) → 1 ≤ d → d ≤ length first → (1 ≤ label_in first d) × (label_in first d ≤ length first)

-- the image of each dart: what stands in the second queue where it stands in the first
unfoldable pub images_of : List ℕ → List ℕ → List ℕ
images_of first second = map (λ d. nth second (label_in first d)) (up_to (length first))
