-- The labelling from a dart, as its queue: the darts in the order labelled (000, definition 5 and algorithm 1; 01, "Labels,
-- words, signature").
--     further k          one more, for a place that is there
--     label_in q d       the label of d: its place in the queue q, counted from 1, or 0 where it does not stand there
--     visit q d          q, with d at its end where d is a dart that has no label yet
--     visits q ds        the same for one dart after the other
--     tried M q d k      q once d has tried β0, β1, .. βk, and each unlabelled dart met has the next label
--     serve M q d        q once d is served: it has tried β0, β1, .. βn
--     served M d k       the queue of the labelling from d once its first k darts are served
--     labelling M d      the queue once all are served
-- Assumes nothing.
use Rattle.std.specs.Prelude.{ℕ, zero, suc, ◌+◌, cond, ◌||◌, List, [], ◌∷◌, ◌++◌, map, eqb, ltb}
use Rattle.maps.specs.Least.{nth, up_to}
use Rattle.maps.specs.Map.{Map, sew}

-- one more, for a place that is there
unfoldable pub further : ℕ → ℕ
further k = cond (eqb k 0) 0 (k + 1)

-- the place of d in the queue, counted from 1, or 0. 01: "0 has label 0": no queue of a labelling holds 0
unfoldable pub label_in : List ℕ → ℕ → ℕ
label_in [] d = 0
label_in (e ∷ q) d = cond (eqb e d) 1 (further (label_in q d))

-- 01: "each unlabelled dart met gets the next label"
unfoldable pub visit : List ℕ → ℕ → List ℕ
visit q d = cond (eqb d 0 || ltb 0 (label_in q d)) q (q ++ (d ∷ []))

-- the darts of a list are met one after the other
unfoldable pub visits : List ℕ → List ℕ → List ℕ
visits q [] = q
visits q (d ∷ ds) = visits (visit q d) ds

unfoldable pub tried : Map → List ℕ → ℕ → ℕ → List ℕ
tried M q d k = visits q (map (λ i. sew M i d) (0 ∷ up_to k))

-- 01: "a served dart tries β0, β1, .. βn"
unfoldable pub serve : Map → List ℕ → ℕ → List ℕ
serve M q d = tried M q d M.dim

-- 01: "d gets 1. Darts are served in the order labelled"; past the queue's end stands 0, whose sewings meet no dart
unfoldable pub served : Map → ℕ → ℕ → List ℕ
served M d zero = d ∷ []
served M d (suc k) =
    let q = served M d k in
    serve M q (nth q (suc k))

-- there are m darts to serve at most
unfoldable pub labelling : Map → ℕ → List ℕ
labelling M d = served M d M.darts
