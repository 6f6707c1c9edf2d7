-- A matching carries words along (theorem 5; 000, theorem 1, forward).
--     row_carried      the row of f(e) by f of the queue is the row of e by the queue
--     word_carried     word M d ≡ word M' (f d)
-- Assumes nothing.
use Prim.Native.Nat.{ℕ}
use mathlib.Core.Path.{◌≡◌, refl, sym, ap, ap₂, fun_ext, ◌∙◌}
use mathlib.Core.List.{List, [], ◌∷◌, ◌++◌, map, flat_map}
use Rattle.maps.specs.Least.{nth, up_to}
use Rattle.maps.specs.Map.{Map, IsDart, sew}
use Rattle.maps.specs.Accepted.{Accepted}
use Rattle.maps.specs.Matching.{Matching}
use Rattle.maps.proofs.Matching.{kept_all}
use Rattle.labels.specs.Queue.{label_in, labelling}
use Rattle.labels.proofs.Carried.{Within, label_in_carried, labelling_within, labelling_carried}
use Rattle.words.specs.Words.{row, word_of, word}

module _ {M M' : Map} {f : List ℕ} (m : Matching M M' f) (a : Accepted M) where
  -- the labels of β'1 .. β'n of f(e) are those of β1 .. βn of e
  pub row_carried : {q : List ℕ} → Within M.darts q → (e : ℕ) → row M' (map (nth f) q) (nth f e) ≡ row M q e
  unfolding row
  row_carried {q} w e = ap₂ (λ (label : ℕ → ℕ) (n : ℕ). map label (up_to n)) (fun_ext each) (sym m.same_dim)
    where
      each : (i : ℕ) → label_in (map (nth f) q) (sew M' i (nth f e)) ≡ label_in q (sew M i e)
      each i =
          ap (label_in (map (nth f) q)) (sym (kept_all m a.open_map a.bounds.dim_least i e))
          ∙ label_in_carried m w (sew M i e) (a.open_map.to_darts i e)

  rows_carried : {q : List ℕ} → Within M.darts q → (r : List ℕ) → flat_map (row M' (map (nth f) q)) (map (nth f) r) ≡ flat_map (row M q) r
  unfolding flat_map
  rows_carried w [] = refl
  rows_carried w (e ∷ r) = ap₂ (λ (x y : List ℕ). x ++ y) (row_carried w e) (rows_carried w r)

  -- 5; 000, theorem 1, forward: the word from f(d) is the word from d
  pub word_carried : (d : ℕ) → IsDart M d → word M d ≡ word M' (nth f d)
  unfolding word word_of
  word_carried d h =
      let o = a.open_map in
      let some_dim = a.bounds.dim_least in
      sym
      (ap (word_of M') (labelling_carried m o some_dim d h.1)
      ∙ rows_carried (labelling_within o d h.1) (labelling M d))
