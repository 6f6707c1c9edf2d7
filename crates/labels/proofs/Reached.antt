-- The labelling reaches what paths reach (000, definition 2 and proposition 1; 01, "Accepted maps").
--     labelled_reached, reached_labelled     a dart has a label from d exactly when a path of sewings leads there from d
--     accepted_path                          in an accepted map a path leads from every dart to every dart
--     accepted_all                           so every dart has a label, from every start
--     Numbering M q                          q lists the darts of M: each label from 1 to m is that of exactly one dart
--     labelling_numbers                      000, proposition 1: a labelling of an accepted map does
-- Assumes nothing.
use Prim.Native.Nat.{ℕ, zero, suc, ◌≤◌, ◌<◌}
use mathlib.Core.Path.{◌≡◌, refl}
use mathlib.Core.List.{List, [], ◌∷◌}
use native.Mathlib.Omega.{arith}
use native.Mathlib.Nat.{le_antisymm}
use borrow.Author.Tests.{eqb-true, eqb-false}
use lib.Dec.{eqb}
use lib.ListN.{length}
use Rattle.maps.specs.Least.{nth}
use Rattle.maps.specs.Map.{Map, IsDart, sew}
use Rattle.maps.specs.Accepted.{ToDarts, Path, here, on, Accepted}
use Rattle.maps.proofs.Least.{Tested, passes, fails, tested}
use Rattle.maps.proofs.Map.{sewn_dart}
use Rattle.maps.proofs.Accepted.{all_reached}
use Rattle.labels.specs.Queue.{label_in, visit, tried, serve, served, labelling}
use Rattle.labels.proofs.Pigeonhole.{pigeonhole}
use Rattle.labels.proofs.Queue.{label_in_le, nth-label_in, place_labelled, label_in_apart, label_in_snoc_other}
use Rattle.labels.proofs.Queue.{Visited, nothing, old, new, visited, tried_zero, tried_suc, serve_tried, served_zero, served_suc}
use Rattle.labels.proofs.Queue.{labelling_served, labelling_start, labelling_closed, queue_short, labelling_queue}
use Rattle.labels.specs.Inside.{DartsOnce}

-- every dart that has a label is a P
abbrev Labelled : (ℕ → Type 0) → List ℕ → Type 0
Labelled P q = (e : ℕ) → 0 < label_in q e → P e

module _ (P : ℕ → Type 0) where
  visit_each : (q : List ℕ) (d : ℕ) → Labelled P q → (0 < d → P d) → Labelled P (visit q d)
  visit_each q d all p e pos = at (visited q d) (tested (eqb e d))
    where
      at : Visited q d → Tested (eqb e d) → P e
      at (nothing z v) t = all e (rw v at pos)
      at (old has v) t = all e (rw v at pos)
      at (new h none v) (passes is) = rw (eqb-true e d is) (p h)
      at (new h none v) (fails ne) = all e (rw (v, label_in_snoc_other q e d (eqb-false e d ne)) at pos)

  tried_each : (M : Map) (q : List ℕ) (d k : ℕ) → Labelled P q → ((i : ℕ) → 0 < sew M i d → P (sew M i d)) → Labelled P (tried M q d k)
  tried_each M q d zero all p = rw tried_zero (visit_each q (sew M 0 d) all (p 0))
  tried_each M q d (suc k) all p = rw tried_suc (visit_each (tried M q d k) (sew M (suc k) d) (tried_each M q d k all p) (p (suc k)))

  start_each : (d : ℕ) → P d → Labelled P (d ∷ [])
  start_each d p e pos = at (tested (eqb e d))
    where
      at : Tested (eqb e d) → P e
      at (passes is) = rw (eqb-true e d is) p
      at (fails ne) = absurd (omega (arith, label_in_snoc_other [] e d (eqb-false e d ne), label_in_le [] e))

  module _ (M : Map) (step : (i e : ℕ) → P e → 0 < sew M i e → P (sew M i e)) where
    serve_each : (q : List ℕ) (k : ℕ) → Labelled P q → Labelled P (serve M q (nth q k))
    serve_each q k all = rw serve_tried (tried_each M q (nth q k) M.dim all sewn)
      where
        sewn : (i : ℕ) → 0 < sew M i (nth q k) → P (sew M i (nth q k))
        sewn i pos = step i (nth q k) (all (nth q k) (place_labelled q k (sewn_dart M i (nth q k) pos).0)) pos

    -- what holds of the start, and goes along every sewing, holds of each dart that gets a label
    served_each : (d : ℕ) → P d → (k : ℕ) → Labelled P (served M d k)
    served_each d start zero = rw served_zero (start_each d start)
    served_each d start (suc k) = rw served_suc (serve_each (served M d k) (suc k) (served_each d start k))

-- 000, definition 2, forward: a labelled dart is reached
pub labelled_reached : (M : Map) (d e : ℕ) → 0 < label_in (labelling M d) e → Path M d e
labelled_reached M d e pos = served_each (Path M d) M (λ i f p h. on i p refl h) d here M.darts e (rw labelling_served at pos)

-- and backward: a dart that is reached has a label
pub reached_labelled : (M : Map) (to_darts : ToDarts M) (d : ℕ) → IsDart M d → (e : ℕ) → Path M d e → 0 < label_in (labelling M d) e
reached_labelled M to_darts d dart e here = let one = labelling_start M d in omega arith
reached_labelled M to_darts d dart f (on {e = e} i p is pos) =
    rw is at (labelling_closed M to_darts d dart i e (reached_labelled M to_darts d dart e p) (rw is pos))

-- q lists the darts of M: each label from 1 to m is that of exactly one dart
pub record Numbering (M : Map) (q : List ℕ) : Type 0 where
  pub long : length q ≡ M.darts
  pub dart_there : (k : ℕ) → 1 ≤ k → k ≤ M.darts → IsDart M (nth q k)
  pub label_of : (k : ℕ) → 1 ≤ k → k ≤ M.darts → label_in q (nth q k) ≡ k
  pub label_low : (e : ℕ) → IsDart M e → 1 ≤ label_in q e
  pub label_high : (e : ℕ) → label_in q e ≤ M.darts
  pub at_label : (e : ℕ) → IsDart M e → nth q (label_in q e) ≡ e

-- a queue that gives every dart a label lists them
pub queue_numbers : {M : Map} {q : List ℕ} → DartsOnce M q → ((e : ℕ) → IsDart M e → 0 < label_in q e) → Numbering M q
queue_numbers {M} {q} u all =
    record {
      long = whole;
      dart_there = λ k low high. u.of_darts k low (rw whole high);
      label_of = λ k low high. u.once k low (rw whole high);
      label_low = all;
      label_high = λ e. rw whole at (label_in_le q e);
      at_label = λ e dart. nth-label_in q e (all e dart);
    }
  where
    -- no two darts have one label, so there are as many labels as darts
    whole : length q ≡ M.darts
    whole =
        le_antisymm (queue_short u)
        (pigeonhole (label_in q) M.darts (length q)
        (record {
          within = λ e low high. (all e (low, high), label_in_le q e);
          apart = λ d e ld hd le he same. label_in_apart q d e (all d (ld, hd)) same;
        }))

module _ {M : Map} (a : Accepted M) (d : ℕ) (dart : IsDart M d) where
  -- in an accepted map a path leads from every dart to every dart
  pub accepted_path : (e : ℕ) → IsDart M e → Path M d e
  accepted_path e there = all_reached a dart there

  -- every dart has a label
  pub accepted_all : (e : ℕ) → IsDart M e → 0 < label_in (labelling M d) e
  accepted_all e there = reached_labelled M a.open_map.to_darts d dart e (accepted_path e there)

  -- 000, proposition 1
  pub labelling_numbers : Numbering M (labelling M d)
  labelling_numbers = queue_numbers (labelling_queue M a.open_map.to_darts d dart) accepted_all
