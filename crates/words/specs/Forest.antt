-- What `src/` keeps of the darts that are known to have one word: a forest, in which `up` has at place d the dart over d, a lesser
-- one, or 0 over the top of a tree. For the functions inside: no public contract cites this file.
--     top_of up d                the top of d's tree
--     joined up d e              the trees of d and e made one
--     joined_all k queue lead    the same for what stands at each of the first k places of two queues
--     Descends up                what is over a dart is less than it, or none
--     Placed d                   a number that has its place in the arrays
--     JoinsAll queue lead        what stands at each place of two queues may be joined
-- Assumes nothing.
use Rattle.std.specs.Prelude.{ℕ, zero, suc, ◌-◌, ◌≤◌, ◌<◌, ◌≡◌, cond, List, eqb, ltb, length, set}
use Rattle.maps.specs.Least.{nth}

-- the dart that is k steps over d, or the top where that comes before
unfoldable pub climb : ℕ → List ℕ → ℕ → ℕ
climb zero up d = d
climb (suc k) up d = cond (eqb (nth up d) 0) d (climb k up (nth up d))

-- the top of d's tree: each step leads to a lesser dart, so d steps are enough
unfoldable pub top_of : List ℕ → ℕ → ℕ
top_of up d = climb d up d

-- the top t goes under r
unfoldable pub hang : List ℕ → ℕ → ℕ → List ℕ
hang up t r = set up (t - 1) r

-- of two tops the greater goes under the lesser
unfoldable pub under : List ℕ → ℕ → ℕ → List ℕ
under up a b = cond (ltb a b) (hang up b a) (cond (ltb b a) (hang up a b) up)

unfoldable pub joined : List ℕ → ℕ → ℕ → List ℕ
joined up d e = under up (top_of up d) (top_of up e)

-- what stands at the first k places of the queues is joined, place by place
unfoldable pub joined_all : ℕ → List ℕ → List ℕ → List ℕ → List ℕ
joined_all zero queue lead up = up
joined_all (suc k) queue lead up = joined (joined_all k queue lead up) (nth queue (suc k)) (nth lead (suc k))

-- what is over a dart is less than it, or none
abbrev pub Descends : List ℕ → Type 0
Descends up = (d : ℕ) → 1 ≤ d → nth up d < d

-- a number that has its place in the arrays
pub record Placed (d : ℕ) : Type 0 where
  pub low : 1 ≤ d
  pub high : d ≤ 1020

-- what stands at each place of two queues may be joined
pub record JoinsAll (queue lead : List ℕ) : Type 0 where
  pub as_long : length lead ≡ length queue
  pub first : (k : ℕ) → 1 ≤ k → k ≤ length queue → Placed (nth queue k)
  pub second : (k : ℕ) → 1 ≤ k → k ≤ length queue → Placed (nth lead k)
