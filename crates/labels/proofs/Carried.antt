-- A matching carries labels along (000, theorem 1, claim 1): the labelling from f(d) is f of the labelling from d.
--     Within m q           the list q holds numbers up to m alone
--     label_in_carried     f(d) has the label in f of the queue that d has in the queue
--     visit_carried, visits_carried, serve_carried, served_carried, labelling_carried
--                          each step of the labelling from f(d) is f of that step of the labelling from d
--     labels_carried       so f(e) has from f(d) the label that e has from d
--     matching_by_one      two matchings of an accepted map that agree at one dart are the same
-- Assumes nothing.
use Prim.Native.Nat.{ℕ, zero, suc, ◌≤◌}
use mathlib.Core.Path.{◌≡◌, refl, sym, ap, ◌∙◌}
use mathlib.Core.Bool.{Bool, true, false, cond, ◌||◌}
use mathlib.Core.List.{List, [], ◌∷◌, ◌++◌, map}
use native.Mathlib.Omega.{arith}
use borrow.Author.Tests.{eq-eqb, ne_eqb, eqb-true, eqb-false}
use lib.Dec.{eqb, ltb}
use Rattle.maps.specs.Least.{nth, up_to}
use Rattle.maps.specs.Map.{Map, IsDart, sew}
use Rattle.maps.specs.Accepted.{OpenMap, Accepted}
use Rattle.maps.specs.Matching.{Matching}
use Rattle.maps.proofs.Least.{nth-zero, map_append, Tested, passes, fails, tested}
use Rattle.maps.proofs.Matching.{image_same, kept_all, composed, nth_composed, images_only}
use Rattle.labels.specs.Queue.{label_in, visit, visits, tried, serve, served, labelling}
use Rattle.labels.proofs.Reached.{labelling_numbers}

-- each number of the list is at most m
pub data Within (m : ℕ) : List ℕ → Type 0 where
  none : Within m []
  more : {d : ℕ} {q : List ℕ} → d ≤ m → Within m q → Within m (d ∷ q)

within_snoc : {m : ℕ} {q : List ℕ} {d : ℕ} → Within m q → d ≤ m → Within m (q ++ (d ∷ []))
within_snoc none h = more h none
within_snoc (more k w) h = more k (within_snoc w h)

within_map : {m : ℕ} (g : ℕ → ℕ) → ((i : ℕ) → g i ≤ m) → (xs : List ℕ) → Within m (map g xs)
within_map g h [] = none
within_map g h (x ∷ xs) = more (h x) (within_map g h xs)

within_visit : {m : ℕ} {q : List ℕ} {d : ℕ} → Within m q → d ≤ m → Within m (visit q d)
unfolding visit
within_visit {m} {q} {d} w h = at (eqb d 0 || ltb 0 (label_in q d))
  where
    at : (b : Bool) → Within m (cond b q (q ++ (d ∷ [])))
    at true = w
    at false = within_snoc w h

within_visits : {m : ℕ} {q ds : List ℕ} → Within m q → Within m ds → Within m (visits q ds)
unfolding visits
within_visits w none = w
within_visits {q = q} w (more {d = d} h v) = within_visits {q = visit q d} (within_visit w h) v

module _ {M M' : Map} {f : List ℕ} (m : Matching M M' f) where
  eqb_carried : (d e : ℕ) → d ≤ M.darts → e ≤ M.darts → eqb (nth f d) (nth f e) ≡ eqb d e
  eqb_carried d e hd he = at (tested (eqb d e))
    where
      at : Tested (eqb d e) → eqb (nth f d) (nth f e) ≡ eqb d e
      at (passes t) = eq-eqb (nth f d) (nth f e) (ap (nth f) (eqb-true d e t)) ∙ sym t
      at (fails t) = ne_eqb (nth f d) (nth f e) (λ same. eqb-false d e t (image_same m d e hd he same)) ∙ sym t

  eqb_zero_carried : (d : ℕ) → d ≤ M.darts → eqb (nth f d) 0 ≡ eqb d 0
  eqb_zero_carried d h = rw (nth-zero f) at (eqb_carried d 0 h (omega arith))

  pub label_in_carried : {q : List ℕ} → Within M.darts q → (d : ℕ) → d ≤ M.darts → label_in (map (nth f) q) (nth f d) ≡ label_in q d
  unfolding label_in
  label_in_carried none d h = refl
  label_in_carried (more {d = e} k w) d h = rw (eqb_carried e d k h, label_in_carried w d h)

  pub visit_carried : {q : List ℕ} → Within M.darts q → (d : ℕ) → d ≤ M.darts → visit (map (nth f) q) (nth f d) ≡ map (nth f) (visit q d)
  unfolding visit
  visit_carried {q} w d h = rw (eqb_zero_carried d h, label_in_carried w d h) (at (eqb d 0 || ltb 0 (label_in q d)))
    where
      at : (b : Bool) → cond b (map (nth f) q) (map (nth f) q ++ (nth f d ∷ [])) ≡ map (nth f) (cond b q (q ++ (d ∷ [])))
      at true = refl
      at false = sym (map_append (nth f) q (d ∷ []))

  pub visits_carried : {q ds : List ℕ} → Within M.darts q → Within M.darts ds → visits (map (nth f) q) (map (nth f) ds) ≡ map (nth f) (visits q ds)
  unfolding visits
  visits_carried w none = refl
  visits_carried {q = q} w (more {d = d} {q = ds} h v) =
      ap (λ (l : List ℕ). visits l (map (nth f) ds)) (visit_carried w d h) ∙ visits_carried {q = visit q d} (within_visit w h) v

module _ {M : Map} (o : OpenMap M) where
  tries_within : (d : ℕ) (is : List ℕ) → Within M.darts (map (λ i. sew M i d) is)
  tries_within d is = within_map (λ i. sew M i d) (λ i. o.to_darts i d) is

  served_within : (d : ℕ) → d ≤ M.darts → (k : ℕ) → Within M.darts (served M d k)
  unfolding served serve tried
  served_within d h zero = more h none
  served_within d h (suc k) = within_visits (served_within d h k) (tries_within (nth (served M d k) (suc k)) (0 ∷ up_to M.dim))

  pub labelling_within : (d : ℕ) → d ≤ M.darts → Within M.darts (labelling M d)
  unfolding labelling
  labelling_within d h = served_within d h M.darts

module _ {M M' : Map} {f : List ℕ} (m : Matching M M' f) (o : OpenMap M) (some_dim : 1 ≤ M.dim) where
  -- what f(d) tries is f of what d tries
  tries_carried : (d : ℕ) (is : List ℕ) → map (λ i. sew M' i (nth f d)) is ≡ map (nth f) (map (λ i. sew M i d) is)
  tries_carried d [] = refl
  tries_carried d (i ∷ is) = rw (kept_all m o some_dim i d, tries_carried d is)

  pub serve_carried : {q : List ℕ} → Within M.darts q → (d : ℕ) → serve M' (map (nth f) q) (nth f d) ≡ map (nth f) (serve M q d)
  unfolding serve tried
  serve_carried {q} w d =
      ap (λ (n : ℕ). visits (map (nth f) q) (map (λ i. sew M' i (nth f d)) (0 ∷ up_to n))) (sym m.same_dim)
      ∙ ap (visits (map (nth f) q)) (tries_carried d (0 ∷ up_to M.dim))
      ∙ visits_carried m w (tries_within o d (0 ∷ up_to M.dim))

  pub served_carried : (d : ℕ) → d ≤ M.darts → (k : ℕ) → served M' (nth f d) k ≡ map (nth f) (served M d k)
  unfolding served composed
  served_carried d h zero = refl
  served_carried d h (suc k) =
      let q = served M d k in
      rw (served_carried d h k, nth_composed q f (suc k)) (serve_carried (served_within o d h k) (nth q (suc k)))

  -- 000, theorem 1, claim 2: the labelling from f(d) is f of the labelling from d
  pub labelling_carried : (d : ℕ) → d ≤ M.darts → labelling M' (nth f d) ≡ map (nth f) (labelling M d)
  unfolding labelling
  labelling_carried d h = ap (served M' (nth f d)) (sym m.same_darts) ∙ served_carried d h M.darts

  -- 000, theorem 1, claim 1: f(e) has from f(d) the label that e has from d
  pub labels_carried : (d e : ℕ) → d ≤ M.darts → e ≤ M.darts → label_in (labelling M' (nth f d)) (nth f e) ≡ label_in (labelling M d) e
  labels_carried d e hd he = rw (labelling_carried d hd) (label_in_carried m (labelling_within o d hd) e he)

-- two matchings of an accepted map that agree at one dart are the same
pub matching_by_one : {M M' : Map} {f g : List ℕ} → Accepted M → Matching M M' f → Matching M M' g →
    (d : ℕ) → IsDart M d → nth f d ≡ nth g d → f ≡ g
unfolding composed
matching_by_one {M} {M'} {f} {g} a m n d h same = images_only m n each
  where
    q : List ℕ
    q = labelling M d

    o : OpenMap M
    o = a.open_map

    some_dim : 1 ≤ M.dim
    some_dim = a.bounds.dim_least

    queues : map (nth f) q ≡ map (nth g) q
    queues = sym (labelling_carried m o some_dim d h.1) ∙ ap (labelling M') same ∙ labelling_carried n o some_dim d h.1

    -- e stands in the queue, at the place of its label
    each : (e : ℕ) → IsDart M e → nth f e ≡ nth g e
    each e there =
        let k = label_in q e in
        let at-e = (labelling_numbers a d h).at_label e there in
        ap (nth f) (sym at-e) ∙ sym (nth_composed q f k) ∙ ap (λ (r : List ℕ). nth r k) queues ∙ nth_composed q g k ∙ ap (nth g) at-e
