-- What the labelling and the check mean, as statements. `proofs/Theorems.antt` proves each.
--     QueueDarts         1: a queue holds darts of the map alone, none twice, and is closed under every sewing once all are served
--     LabelledReached    2: a dart has a label exactly when a path of sewings leads there (000, definition 2)
--     AllLabelled        3: of an accepted map each label from 1 to m is that of exactly one dart (000, proposition 1)
--     CheckAccepts       10: the check accepts exactly the tables of accepted maps
--     TableShows         10: the answer of a call on one table is what its lines show
--     CheckShows         10: the same for the plain check
--     CheckNumbers       the plain check never gives 4, and no number above 9
--     BaseReadOff        02, wish 1: of every answer on one table the one that 01 alone asks for can be read off
-- Assumes nothing.
use Rattle.std.specs.Prelude.{ℕ, ◌*◌, ◌≤◌, ◌<◌, ◌≡◌, ◌↔◌, length}
use Rattle.maps.specs.Least.{nth}
use Rattle.maps.specs.Map.{Map, IsDart, sew}
use Rattle.maps.specs.Accepted.{ToDarts, Path, Accepted}
use Rattle.maps.specs.Given.{Given, map_of}
use Rattle.maps.specs.Verdict.{accepted}
use Rattle.maps.specs.Lines.{Shows, table_lines, check_lines}
use Rattle.maps.specs.Base.{base_lines, read_off}
use Rattle.maps.specs.declared.Output.{Output}
use Rattle.labels.specs.Queue.{label_in, labelling}
use Rattle.labels.specs.Judging.{table_answer, check_answer}

unfoldable pub QueueDarts : Type 0
QueueDarts =
    (M : Map) → ToDarts M → (d : ℕ) → IsDart M d
    → ((k : ℕ) → 1 ≤ k → k ≤ length (labelling M d) → IsDart M (nth (labelling M d) k) × (label_in (labelling M d) (nth (labelling M d) k) ≡ k))
    × ((i e : ℕ) → 0 < label_in (labelling M d) e → 0 < sew M i e → 0 < label_in (labelling M d) (sew M i e))

unfoldable pub LabelledReached : Type 0
LabelledReached = (M : Map) → ToDarts M → (d : ℕ) → IsDart M d → (e : ℕ) → (0 < label_in (labelling M d) e) ↔ Path M d e

unfoldable pub AllLabelled : Type 0
AllLabelled =
    (M : Map) → Accepted M → (d : ℕ) → IsDart M d
    → (length (labelling M d) ≡ M.darts)
    × (label_in (labelling M d) 0 ≡ 0)
    × ((e : ℕ) → IsDart M e → (1 ≤ label_in (labelling M d) e) × (label_in (labelling M d) e ≤ M.darts) × (nth (labelling M d) (label_in (labelling M d) e) ≡ e))
    × ((k : ℕ) → 1 ≤ k → k ≤ M.darts → IsDart M (nth (labelling M d) k) × (label_in (labelling M d) (nth (labelling M d) k) ≡ k))

unfoldable pub CheckAccepts : Type 0
CheckAccepts = (g : Given) → (check_answer g ≡ accepted) ↔ (length g.table ≡ g.n * g.m) × Accepted (map_of g)

unfoldable pub TableShows : Type 1
TableShows = (o : Output) (g : Given) → Shows (table_lines o g) (table_answer o g)

unfoldable pub CheckShows : Type 1
CheckShows = (g : Given) → Shows (check_lines g) (check_answer g)

unfoldable pub CheckNumbers : Type 0
CheckNumbers = (g : Given) → ((check_answer g).number ≤ 9) × (¬ ((check_answer g).number ≡ 4))

-- the dart of the entry shown is the dart that 01 shows, and all else is as it was
unfoldable pub BaseReadOff : Type 1
BaseReadOff = (o : Output) (g : Given) → Shows (base_lines o g) (read_off g.n (table_answer o g))
