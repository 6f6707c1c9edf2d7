-- Words and the signature (000, definitions 6 and 9; 01, "Labels, words, signature").
--     word M d          the word of the labelling from d
--     less v w          v comes before w in lexicographic order
--     signature M       the least word over all starts
--     start M           the least start dart that yields it
--     symmetries M      how many starts yield it
--     by_labels         the darts of a second map that have the same labels
-- Assumes nothing.
use Rattle.std.specs.Prelude.{ℕ, zero, suc, Bool, true, false, cond, ◌&&◌, ◌||◌, eqb, ltb}
use mathlib.Core.List.{List, [], ◌∷◌, map, flat_map}
use Rattle.maps.specs.Least.{nth, up_to, least, count}
use Rattle.maps.specs.Map.{Map, sew}
use Rattle.labels.specs.Queue.{label_in, labelling}

-- the labels of β1 .. βn of one dart, by the queue q
unfoldable pub row : Map → List ℕ → ℕ → List ℕ
row M q d = map (λ i. label_in q (sew M i d)) (up_to M.dim)

-- 01: "the number at place (k−1)·n + i is the label of βi of the dart labelled k"
unfoldable pub word_of : Map → List ℕ → List ℕ
word_of M q = flat_map (row M q) q

unfoldable pub word : Map → ℕ → List ℕ
word M d = word_of M (labelling M d)

-- two lists of numbers are the same
unfoldable pub same : List ℕ → List ℕ → Bool
same [] [] = true
same [] (y ∷ ys) = false
same (x ∷ xs) [] = false
same (x ∷ xs) (y ∷ ys) = eqb x y && same xs ys

-- lexicographic order: at the first number in which they differ, the first list has the lesser; or it ends before the second
unfoldable pub less : List ℕ → List ℕ → Bool
less [] [] = false
less [] (y ∷ ys) = true
less (x ∷ xs) [] = false
less (x ∷ xs) (y ∷ ys) = ltb x y || eqb x y && less xs ys

unfoldable pub lesser : List ℕ → List ℕ → List ℕ
lesser v w = cond (less w v) w v

-- the least word over dart 1 and the starts up to k
unfoldable pub least_word : Map → ℕ → List ℕ
least_word M zero = word M 1
least_word M (suc k) = lesser (least_word M k) (word M (suc k))

-- 000, definition 9; 01: "the least word in lexicographic order over all m starts"
unfoldable pub signature : Map → List ℕ
signature M = least_word M M.darts

-- the start d yields the word w
unfoldable pub yields : Map → List ℕ → ℕ → Bool
yields M w d = same (word M d) w

-- 01: "the least start dart that yields the word"
unfoldable pub start : Map → ℕ
start M =
    let w = signature M in
    least M.darts (yields M w)

-- 01: "how many starts yield it"
unfoldable pub symmetries : Map → ℕ
symmetries M =
    let w = signature M in
    count M.darts (yields M w)

-- for each dart 1 to m of M the dart of M' that has from d' the label that it has from d
unfoldable pub by_labels : Map → ℕ → Map → ℕ → List ℕ
by_labels M d M' d' = map (λ e. nth (labelling M' d') (label_in (labelling M d) e)) (up_to M.darts)
