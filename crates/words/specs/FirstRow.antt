-- The first row of a start's word, as far as it can be read off the sewings of the start itself. For the functions inside: no
-- public contract cites this file.
--     first_label d back next    the label of β1(d) in the labelling from d
--     rank_of M d                twice that, and one more where d is 2-sewn: a start of a lesser rank has a lesser word
--     LeastRank M r              r is the least rank of all starts
--     passes_over M up r d       d need not be tried: a dart is over it, which has its word, or its rank is above r
-- Assumes nothing.
use Rattle.std.specs.Prelude.{ℕ, ◌+◌, ◌*◌, ◌≤◌, ◌≡◌, Bool, cond, ◌||◌, List, eqb, ltb}
use Rattle.maps.specs.Least.{nth}
use Rattle.maps.specs.Map.{Map, IsDart, sew}

-- the label of β1(d), which is met after d and β0(d)
unfoldable pub first_label : ℕ → ℕ → ℕ → ℕ
first_label d back next = cond (eqb next 0) 0 (cond (eqb next d) 1 (cond (eqb back 0 || eqb back next) 2 3))

-- the first number of the word from d, and where there is a β2, whether the second is 0
unfoldable pub rank_of : Map → ℕ → ℕ
rank_of M d = 2 * first_label d (sew M 0 d) (sew M 1 d) + cond (eqb (sew M 2 d) 0) 0 1

-- no start has a lesser rank, and one has this
pub record LeastRank (M : Map) (r : ℕ) : Type 0 where
  pub start : ℕ
  pub dart : IsDart M start
  pub reached : rank_of M start ≡ r
  pub none_less : (d : ℕ) → IsDart M d → r ≤ rank_of M d

-- a start need not be tried where a dart is over it in the trees, or where its rank is above r
unfoldable pub passes_over : Map → List ℕ → ℕ → ℕ → Bool
passes_over M up r d = ltb 0 (nth up d) || ltb r (rank_of M d)
