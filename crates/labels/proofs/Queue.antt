-- The laws of `specs/Queue.antt`: labels, and the queue while darts are visited and served.
--     label_in_le, nth-label_in                  a label is a place, and the dart placed there
--     nth_labelled, label_in_none, none_label_in  a label is 0 exactly when the dart placed nowhere
--     label_in-append_.., label_in_snoc_..       labels when darts are put at the end
--     Grown q q'                                 q' is q with more at its end: labels and places stay (`grown_..`)
--     Visited q d                                what a visit does, as a sum to take apart
--     tried_..                                   a serving under way: β0 to βk have been tried
--     serve_labels                               once d is served, what is sewn to it has a label
--     served_still, served_labelling             past the queue's end nothing changes: there the labelling is done
--     .._queue                                   q holds darts of M alone, and none twice (`DartsOnce`): what keeps it
--     queue_short, queue_room                    it is no longer than there are darts
--     served_ahead, served_next                  a dart is labelled before its turn to be served
--     labelling_closed                           what is sewn to a labelled dart has a label
-- Assumes nothing.
use Prim.Native.Nat.{ℕ, zero, suc, ◌+◌, ◌≤◌, ◌<◌}
use mathlib.Core.Path.{◌≡◌, refl, sym, ap, ◌∙◌}
use mathlib.Core.Bool.{cond, ◌||◌}
use mathlib.Core.List.{List, [], ◌∷◌, ◌++◌, map, append_assoc, append-nil}
use mathlib.Core.Logic.{◌⊎◌, inl, inr, ⊎_elim}
use native.Mathlib.Omega.{arith}
use native.Mathlib.Nat.{le-suc_iff, le_trans, eq-zero-or-pos}
use native.Mathlib.Numerals.{add-one}
use borrow.Author.Tests.{lt-ltb, ltb-true, ltb-false, eq-eqb, ne_eqb, eqb-true, eqb-false}
use lib.Dec.{eqb, ltb}
use lib.ListN.{length, length-append}
use Rattle.maps.specs.Least.{nth, up_to}
use Rattle.maps.specs.Map.{Map, IsDart, sew}
use Rattle.maps.specs.Accepted.{ToDarts}
use Rattle.maps.proofs.Least.{Tested, passes, fails, tested, nth_past, nth-append, nth_snoc_at, nth-zero, map_append}
use Rattle.maps.proofs.Map.{sew_zero, sewn_low}
use Rattle.labels.specs.Inside.{DartsOnce}
use Rattle.labels.specs.Queue.{further, label_in, visit, visits, tried, serve, served, labelling}
use Rattle.labels.proofs.Pigeonhole.{pigeonhole}

-- where d placed in a queue that starts with e
data Placed (e : ℕ) (q : List ℕ) (d : ℕ) : Type 0 where
  first : e ≡ d → label_in (e ∷ q) d ≡ 1 → Placed e q d
  later : (e ≡ d → ⊥) → 0 < label_in q d → label_in (e ∷ q) d ≡ label_in q d + 1 → Placed e q d
  nowhere : (e ≡ d → ⊥) → label_in q d ≡ 0 → label_in (e ∷ q) d ≡ 0 → Placed e q d

module _ (e : ℕ) (q : List ℕ) (d : ℕ) where
  label_in_first : e ≡ d → label_in (e ∷ q) d ≡ 1
  unfolding label_in
  label_in_first is = simp (eq-eqb e d is)

  label_in_later : (e ≡ d → ⊥) → 0 < label_in q d → label_in (e ∷ q) d ≡ label_in q d + 1
  unfolding label_in further
  label_in_later ne pos = simp (ne_eqb e d ne, ne_eqb (label_in q d) 0 (λ z. omega arith))

  label_in_nowhere : (e ≡ d → ⊥) → label_in q d ≡ 0 → label_in (e ∷ q) d ≡ 0
  unfolding label_in further
  label_in_nowhere ne none = simp (ne_eqb e d ne, none)

  placed : Placed e q d
  placed = at (tested (eqb e d)) (eq-zero-or-pos (label_in q d))
    where
      at : Tested (eqb e d) → (label_in q d ≡ 0) ⊎ (0 < label_in q d) → Placed e q d
      at (passes h) s = let is = eqb-true e d h in first is (label_in_first is)
      at (fails h) (inl none) = let ne = eqb-false e d h in nowhere ne none (label_in_nowhere ne none)
      at (fails h) (inr pos) = let ne = eqb-false e d h in later ne pos (label_in_later ne pos)

pub label_in_nil : (d : ℕ) → label_in [] d ≡ 0
unfolding label_in
label_in_nil d = refl

-- a label is one of the places
pub label_in_le : (q : List ℕ) (d : ℕ) → label_in q d ≤ length q
label_in_le [] d = rw label_in_nil (omega arith)
label_in_le (e ∷ q) d = at (placed e q d) (label_in_le q d)
  where
    at : Placed e q d → label_in q d ≤ length q → label_in (e ∷ q) d ≤ suc (length q)
    at (first is l) h = omega arith
    at (later ne pos l) h = omega arith
    at (nowhere ne none l) h = omega arith

nth-cons : (e : ℕ) (q : List ℕ) (k : ℕ) → 0 < k → nth (e ∷ q) (k + 1) ≡ nth q k
unfolding nth
nth-cons e q zero h = absurd (omega arith)
nth-cons e q (suc k) h = rw add-one

pub nth_one : (e : ℕ) (q : List ℕ) → nth (e ∷ q) 1 ≡ e
unfolding nth
nth_one e q = refl

-- d placed at the place that is its label
pub nth-label_in : (q : List ℕ) (d : ℕ) → 0 < label_in q d → nth q (label_in q d) ≡ d
nth-label_in [] d h = let z = label_in_nil d in absurd (omega arith)
nth-label_in (e ∷ q) d h = at (placed e q d) (nth-label_in q d)
  where
    at : Placed e q d → (0 < label_in q d → nth q (label_in q d) ≡ d) → nth (e ∷ q) (label_in (e ∷ q) d) ≡ d
    at (first is l) r = rw l (nth_one e q ∙ is)
    at (later ne pos l) r = rw l (nth-cons e q (label_in q d) pos ∙ r pos)
    at (nowhere ne none l) r = absurd (omega arith)

-- no two darts have one label
pub label_in_apart : (q : List ℕ) (d e : ℕ) → 0 < label_in q d → label_in q d ≡ label_in q e → d ≡ e
label_in_apart q d e pos same = sym (nth-label_in q d pos) ∙ ap (nth q) same ∙ nth-label_in q e (rw same at pos)

label_in-cons : (e : ℕ) (q : List ℕ) (d : ℕ) → 0 < label_in q d → 0 < label_in (e ∷ q) d
label_in-cons e q d pos = at (placed e q d)
  where
    at : Placed e q d → 0 < label_in (e ∷ q) d
    at (first is l) = omega arith
    at (later ne h l) = omega arith
    at (nowhere ne none l) = absurd (omega arith)

pub nth-cons-suc : (e : ℕ) (q : List ℕ) (k : ℕ) → nth (e ∷ q) (suc (suc k)) ≡ nth q (suc k)
unfolding nth
nth-cons-suc e q k = refl

-- what placed at a place has a label
pub nth_labelled : (q : List ℕ) (k : ℕ) → 1 ≤ k → k ≤ length q → 0 < label_in q (nth q k)
nth_labelled [] k low high = absurd (omega arith)
nth_labelled (e ∷ q) zero low high = absurd (omega arith)
nth_labelled (e ∷ q) (suc zero) low high = let l = label_in_first e q (nth (e ∷ q) 1) (sym (nth_one e q)) in omega arith
nth_labelled (e ∷ q) (suc (suc k)) low high = rw nth-cons-suc (label_in-cons e q (nth q (suc k)) (nth_labelled q (suc k) (omega arith) (omega arith)))

-- what is not 0 at a place has a label
pub place_labelled : (q : List ℕ) (k : ℕ) → 0 < nth q k → 0 < label_in q (nth q k)
place_labelled q zero pos = absurd (omega (arith, nth-zero q))
place_labelled q (suc k) pos = at (tested (ltb (length q) (suc k)))
  where
    at : Tested (ltb (length q) (suc k)) → 0 < label_in q (nth q (suc k))
    at (passes past) = absurd (omega (arith, nth_past q (suc k) (ltb-true (length q) (suc k) past)))
    at (fails there) = nth_labelled q (suc k) (omega arith) (ltb-false (length q) (suc k) there)

-- a dart with label 0 placed at no place
pub label_in_none : (q : List ℕ) (d : ℕ) → label_in q d ≡ 0 → (k : ℕ) → 1 ≤ k → k ≤ length q → nth q k ≡ d → ⊥
label_in_none q d none k low high is =
    let h : 0 < label_in q d = rw is at (nth_labelled q k low high) in
    omega arith

-- a dart that placed at no place has label 0
pub none_label_in : (q : List ℕ) (d : ℕ) → ((k : ℕ) → 1 ≤ k → k ≤ length q → nth q k ≡ d → ⊥) → label_in q d ≡ 0
none_label_in q d never = at (eq-zero-or-pos (label_in q d))
  where
    at : (label_in q d ≡ 0) ⊎ (0 < label_in q d) → label_in q d ≡ 0
    at (inl none) = none
    at (inr pos) = absurd (never (label_in q d) pos (label_in_le q d) (nth-label_in q d pos))

-- a label stays when darts are put at the end
pub label_in-append_kept : (q r : List ℕ) (d : ℕ) → 0 < label_in q d → label_in (q ++ r) d ≡ label_in q d
label_in-append_kept [] r d h = let z = label_in_nil d in absurd (omega arith)
label_in-append_kept (e ∷ q) r d h = at (placed e q d) (label_in-append_kept q r d)
  where
    at : Placed e q d → (0 < label_in q d → label_in (q ++ r) d ≡ label_in q d) → label_in (e ∷ (q ++ r)) d ≡ label_in (e ∷ q) d
    at (first is l) rec = label_in_first e (q ++ r) d is ∙ sym l
    at (later ne pos l) rec =
        let same : label_in (q ++ r) d ≡ label_in q d = rec pos in
        let l' : label_in (e ∷ (q ++ r)) d ≡ label_in (q ++ r) d + 1 = label_in_later e (q ++ r) d ne (omega arith) in
        omega arith
    at (nowhere ne none l) rec = absurd (omega arith)

-- a dart that has no label in q has in q ++ r the label that it has in r, counted on
pub label_in-append_new : (q r : List ℕ) (d : ℕ) → label_in q d ≡ 0 → 0 < label_in r d → label_in (q ++ r) d ≡ length q + label_in r d
label_in-append_new [] r d none pos = omega arith
label_in-append_new (e ∷ q) r d none pos = at (placed e q d) (label_in-append_new q r d)
  where
    at : Placed e q d → (label_in q d ≡ 0 → 0 < label_in r d → label_in (q ++ r) d ≡ length q + label_in r d) → label_in (e ∷ (q ++ r)) d ≡ suc (length q) + label_in r d
    at (first is l) rec = absurd (omega arith)
    at (later ne h l) rec = absurd (omega arith)
    at (nowhere ne h l) rec =
        let same : label_in (q ++ r) d ≡ length q + label_in r d = rec h pos in
        let l' : label_in (e ∷ (q ++ r)) d ≡ label_in (q ++ r) d + 1 = label_in_later e (q ++ r) d ne (omega arith) in
        omega arith

pub label_in-append_none : (q r : List ℕ) (d : ℕ) → label_in q d ≡ 0 → label_in r d ≡ 0 → label_in (q ++ r) d ≡ 0
label_in-append_none [] r d none h = h
label_in-append_none (e ∷ q) r d none h = at (placed e q d) (label_in-append_none q r d)
  where
    at : Placed e q d → (label_in q d ≡ 0 → label_in r d ≡ 0 → label_in (q ++ r) d ≡ 0) → label_in (e ∷ (q ++ r)) d ≡ 0
    at (first is l) rec = absurd (omega arith)
    at (later ne pos l) rec = absurd (omega arith)
    at (nowhere ne z l) rec = label_in_nowhere e (q ++ r) d ne (rec z h)

pub label_in_alone : (d : ℕ) → label_in (d ∷ []) d ≡ 1
label_in_alone d = label_in_first d [] d refl

-- a new dart at the end gets the next label
pub label_in_snoc_new : (q : List ℕ) (d : ℕ) → label_in q d ≡ 0 → label_in (q ++ (d ∷ [])) d ≡ length q + 1
label_in_snoc_new q d none =
    let one = label_in_alone d in
    label_in-append_new q (d ∷ []) d none (omega arith) ∙ ap (λ (k : ℕ). length q + k) one

-- another dart's label is not changed by it
pub label_in_snoc_other : (q : List ℕ) (d e : ℕ) → (d ≡ e → ⊥) → label_in (q ++ (e ∷ [])) d ≡ label_in q d
label_in_snoc_other q d e ne = at (eq-zero-or-pos (label_in q d))
  where
    at : (label_in q d ≡ 0) ⊎ (0 < label_in q d) → label_in (q ++ (e ∷ [])) d ≡ label_in q d
    at (inl none) = label_in-append_none q (e ∷ []) d none (label_in_nowhere e [] d (λ z. ne (sym z)) (label_in_nil d)) ∙ sym none
    at (inr pos) = label_in-append_kept q (e ∷ []) d pos

-- q' is q with more at its end
pub record Grown (q q' : List ℕ) : Type 0 where
  pub more : List ℕ
  pub is : q' ≡ q ++ more

pub grown_same : {q q' : List ℕ} → q' ≡ q → Grown q q'
grown_same {q} e = record { more = []; is = e ∙ sym (append-nil q) }

pub grown_trans : {a b c : List ℕ} → Grown a b → Grown b c → Grown a c
grown_trans {a} g h = record { more = g.more ++ h.more; is = h.is ∙ ap (λ (l : List ℕ). l ++ h.more) g.is ∙ append_assoc a g.more h.more }

module _ {q q' : List ℕ} (g : Grown q q') where
  pub grown_length : length q ≤ length q'
  grown_length = let e = ap length g.is ∙ length-append q g.more in omega arith

  -- a label once given stays
  pub grown_label : (e : ℕ) → 0 < label_in q e → label_in q' e ≡ label_in q e
  grown_label e pos = rw g.is (label_in-append_kept q g.more e pos)

  pub grown_labelled : (e : ℕ) → 0 < label_in q e → 0 < label_in q' e
  grown_labelled e pos = let same = grown_label e pos in omega arith

  -- a place that is filled stays
  pub grown_nth : (k : ℕ) → k ≤ length q → nth q' k ≡ nth q k
  grown_nth k h = rw g.is (nth-append q g.more k h)

-- what a visit does
pub data Visited (q : List ℕ) (d : ℕ) : Type 0 where
  nothing : d ≡ 0 → visit q d ≡ q → Visited q d
  old : 0 < label_in q d → visit q d ≡ q → Visited q d
  new : 0 < d → label_in q d ≡ 0 → visit q d ≡ q ++ (d ∷ []) → Visited q d

module _ (q : List ℕ) (d : ℕ) where
  pub visit_nothing : d ≡ 0 → visit q d ≡ q
  unfolding visit
  visit_nothing e = simp (eq-eqb d 0 e)

  pub visit_old : 0 < label_in q d → visit q d ≡ q
  unfolding visit
  visit_old pos = at (tested (eqb d 0))
    where
      at : Tested (eqb d 0) → cond (eqb d 0 || ltb 0 (label_in q d)) q (q ++ (d ∷ [])) ≡ q
      at (passes e) = simp e
      at (fails e) = simp (e, lt-ltb 0 (label_in q d) pos)

  pub visit_new : 0 < d → label_in q d ≡ 0 → visit q d ≡ q ++ (d ∷ [])
  unfolding visit
  visit_new pos none = simp (ne_eqb d 0 (λ z. omega arith), none)

  pub visited : Visited q d
  visited = at (eq-zero-or-pos d) (eq-zero-or-pos (label_in q d))
    where
      at : (d ≡ 0) ⊎ (0 < d) → (label_in q d ≡ 0) ⊎ (0 < label_in q d) → Visited q d
      at (inl z) s = nothing z (visit_nothing z)
      at (inr pos) (inr has) = old has (visit_old has)
      at (inr pos) (inl none) = new pos none (visit_new pos none)

  pub visit_grown : Grown q (visit q d)
  visit_grown = at visited
    where
      at : Visited q d → Grown q (visit q d)
      at (nothing z v) = grown_same v
      at (old has v) = grown_same v
      at (new pos none v) = record { more = d ∷ []; is = v }

  -- a dart visited has a label
  pub visit_labels : 0 < d → 0 < label_in (visit q d) d
  visit_labels pos = at visited
    where
      at : Visited q d → 0 < label_in (visit q d) d
      at (nothing z v) = absurd (omega arith)
      at (old has v) = rw v has
      at (new p none v) = rw v (let l = label_in_snoc_new q d none in omega arith)

  -- a label once given stays
  pub visit_kept : (e : ℕ) → 0 < label_in q e → label_in (visit q d) e ≡ label_in q e
  visit_kept e = grown_label visit_grown e

-- darts met one after the other are met in two runs
pub visits-append : (q xs ys : List ℕ) → visits q (xs ++ ys) ≡ visits (visits q xs) ys
unfolding visits
visits-append q [] ys = refl
visits-append q (x ∷ xs) ys = visits-append (visit q x) xs ys

pub visits_grown : (q ds : List ℕ) → Grown q (visits q ds)
unfolding visits
visits_grown q [] = grown_same refl
visits_grown q (d ∷ ds) = grown_trans (visit_grown q d) (visits_grown (visit q d) ds)

pub visits_kept : (q ds : List ℕ) (e : ℕ) → 0 < label_in q e → label_in (visits q ds) e ≡ label_in q e
visits_kept q ds e = grown_label (visits_grown q ds) e

module _ (M : Map) (q : List ℕ) (d : ℕ) where
  pub tried_zero : tried M q d 0 ≡ visit q (sew M 0 d)
  unfolding tried visits up_to
  tried_zero = refl

  pub tried_suc : (k : ℕ) → tried M q d (suc k) ≡ visit (tried M q d k) (sew M (suc k) d)
  unfolding tried visits up_to
  tried_suc k = rw (map_append (λ i. sew M i d) (0 ∷ up_to k) (suc k ∷ [])) (visits-append q (map (λ i. sew M i d) (0 ∷ up_to k)) (sew M (suc k) d ∷ []))

  -- what is tried later only adds to the queue
  pub tried_grown : (i k : ℕ) → i ≤ k → Grown (tried M q d i) (tried M q d k)
  tried_grown i zero h = grown_same (ap (tried M q d) (let z : i ≡ 0 = omega arith in sym z))
  tried_grown i (suc k) h =
      ⊎_elim
      (λ below. grown_trans (tried_grown i k below) (rw (tried_suc k) (visit_grown _ _)))
      (λ same. grown_same (ap (tried M q d) (sym same)))
      (le-suc_iff.0 h)

  -- each dart tried has a label
  pub tried_labels : (k i : ℕ) → i ≤ k → 0 < sew M i d → 0 < label_in (tried M q d k) (sew M i d)
  tried_labels k i h pos = grown_labelled (tried_grown i k h) (sew M i d) (at i pos)
    where
      at : (i : ℕ) → 0 < sew M i d → 0 < label_in (tried M q d i) (sew M i d)
      at zero pos = rw tried_zero (visit_labels q (sew M 0 d) pos)
      at (suc i) pos = rw (tried_suc i) (visit_labels (tried M q d i) (sew M (suc i) d) pos)

  pub serve_tried : serve M q d ≡ tried M q d M.dim
  unfolding serve
  serve_tried = refl

  pub serve_grown : Grown q (serve M q d)
  unfolding serve tried
  serve_grown = visits_grown q (map (λ i. sew M i d) (0 ∷ up_to M.dim))

  -- once d is served, what is sewn to it has a label
  pub serve_labels : (i : ℕ) → 0 < sew M i d → 0 < label_in (serve M q d) (sew M i d)
  serve_labels i pos = rw serve_tried (tried_labels M.dim i (sewn_low M i d pos) pos)

module _ (M : Map) (q : List ℕ) where
  -- 0 has nothing to try
  tried_nothing : (k : ℕ) → tried M q 0 k ≡ q
  tried_nothing zero = tried_zero M q 0 ∙ visit_nothing q (sew M 0 0) (sew_zero M 0 0)
  tried_nothing (suc k) = tried_suc M q 0 k ∙ visit_nothing (tried M q 0 k) (sew M (suc k) 0) (sew_zero M (suc k) 0) ∙ tried_nothing k

  pub serve_nothing : serve M q 0 ≡ q
  serve_nothing = serve_tried M q 0 ∙ tried_nothing M.dim

module _ (M : Map) (d : ℕ) where
  pub served_zero : served M d 0 ≡ d ∷ []
  unfolding served
  served_zero = refl

  pub served_suc : (k : ℕ) → served M d (suc k) ≡ serve M (served M d k) (nth (served M d k) (suc k))
  unfolding served
  served_suc k = refl

  pub served_grown : (k j : ℕ) → k ≤ j → Grown (served M d k) (served M d j)
  served_grown k zero h = let z : k ≡ 0 = omega arith in rw z (grown_same refl)
  served_grown k (suc j) h =
      ⊎_elim
      (λ le. grown_trans (served_grown k j le) (rw served_suc (serve_grown M (served M d j) (nth (served M d j) (suc j)))))
      (λ e. rw e (grown_same refl))
      (le-suc_iff.0 h)

  -- a label once given stays
  pub served_kept : (k j e : ℕ) → k ≤ j → 0 < label_in (served M d k) e → label_in (served M d j) e ≡ label_in (served M d k) e
  served_kept k j e h = grown_label (served_grown k j h) e

  -- past the queue's end nothing changes
  pub served_still : (k : ℕ) → length (served M d k) ≤ k → served M d (suc k) ≡ served M d k
  served_still k h =
      let none : nth (served M d k) (suc k) ≡ 0 = nth_past (served M d k) (suc k) (omega arith) in
      rw (served_suc, none) (serve_nothing M (served M d k))

  pub served_done : (k j : ℕ) → length (served M d k) ≤ k → k ≤ j → served M d j ≡ served M d k
  served_done k zero past h = let z : k ≡ 0 = omega arith in rw z
  served_done k (suc j) past h =
      ⊎_elim
      (λ le.
      let same : served M d j ≡ served M d k = served_done k j past le in
      served_still j (rw same (le_trans past le)) ∙ same)
      (λ e. rw e)
      (le-suc_iff.0 h)

  pub labelling_served : labelling M d ≡ served M d M.darts
  unfolding labelling
  labelling_served = refl

  -- the labelling is there as soon as all of the queue is served
  pub served_labelling : (k : ℕ) → k ≤ M.darts → length (served M d k) ≤ k → served M d k ≡ labelling M d
  served_labelling k h past = sym (served_done k M.darts past h) ∙ sym labelling_served

  pub labelling_grown : (k : ℕ) → k ≤ M.darts → Grown (served M d k) (labelling M d)
  labelling_grown k h = rw labelling_served (served_grown k M.darts h)

  -- the start has label 1
  pub labelling_start : label_in (labelling M d) d ≡ 1
  labelling_start =
      let one : label_in (served M d 0) d ≡ 1 = rw served_zero (label_in_alone d) in
      grown_label (labelling_grown 0 (omega arith)) d (omega arith) ∙ one

  pub labelling_first : nth (labelling M d) 1 ≡ d
  labelling_first = rw labelling_start at (nth-label_in (labelling M d) d (let one = labelling_start in omega arith))

module _ {M : Map} {q : List ℕ} (u : DartsOnce M q) where
  -- what has a label is a dart
  pub queue_dart : (e : ℕ) → 0 < label_in q e → IsDart M e
  queue_dart e pos = rw (nth-label_in q e pos) at (u.of_darts (label_in q e) pos (label_in_le q e))

  -- 01: "0 has label 0"
  pub queue_zero : label_in q 0 ≡ 0
  queue_zero = ⊎_elim (λ z. z) (λ pos. absurd (let h : 1 ≤ 0 = (queue_dart 0 pos).0 in omega arith)) (eq-zero-or-pos (label_in q 0))

  -- a queue is no longer than there are darts
  pub queue_short : length q ≤ M.darts
  queue_short =
      pigeonhole (nth q) (length q) M.darts
      (record { within = u.of_darts; apart = λ j k lj hj lk hk same. sym (u.once j lj hj) ∙ ap (label_in q) same ∙ u.once k lk hk })

  -- a new dart at the end
  pub queue_snoc : (e : ℕ) → IsDart M e → label_in q e ≡ 0 → DartsOnce M (q ++ (e ∷ []))
  queue_snoc e dart none = record { of_darts = λ k low high. at k (place k high) low; once = λ k low high. at_once k (place k high) low }
    where
      place : (k : ℕ) → k ≤ length (q ++ (e ∷ [])) → (k ≤ length q) ⊎ (k ≡ suc (length q))
      place k high = le-suc_iff.0 (rw (length-append, add-one) at high)

      at : (k : ℕ) → (k ≤ length q) ⊎ (k ≡ suc (length q)) → 1 ≤ k → IsDart M (nth (q ++ (e ∷ [])) k)
      at k (inl h) low = rw (nth-append q (e ∷ []) k h) (u.of_darts k low h)
      at k (inr z) low = rw (z, nth_snoc_at q e (length q) refl) dart

      at_once : (k : ℕ) → (k ≤ length q) ⊎ (k ≡ suc (length q)) → 1 ≤ k → label_in (q ++ (e ∷ [])) (nth (q ++ (e ∷ [])) k) ≡ k
      at_once k (inl h) low =
          rw (nth-append q (e ∷ []) k h) (label_in-append_kept q (e ∷ []) (nth q k) (nth_labelled q k low h) ∙ u.once k low h)
      at_once k (inr z) low = rw (z, nth_snoc_at q e (length q) refl) (label_in_snoc_new q e none ∙ add-one (length q))

-- while a dart has no label, the queue is shorter than that
pub queue_room : {M : Map} {q : List ℕ} → DartsOnce M q → (e : ℕ) → IsDart M e → label_in q e ≡ 0 → length q < M.darts
queue_room {M} {q} u e dart none = rw (length-append, add-one) at (queue_short (queue_snoc u e dart none))

empty_queue : (M : Map) → DartsOnce M []
empty_queue M = record { of_darts = λ k low high. absurd (omega arith); once = λ k low high. absurd (omega arith) }

pub start_queue : (M : Map) (d : ℕ) → IsDart M d → DartsOnce M (d ∷ [])
start_queue M d dart = queue_snoc (empty_queue M) d dart (label_in_nil d)

pub visit_queue : {M : Map} {q : List ℕ} → DartsOnce M q → (d : ℕ) → d ≤ M.darts → DartsOnce M (visit q d)
visit_queue {M} {q} u d high = at (visited q d)
  where
    at : Visited q d → DartsOnce M (visit q d)
    at (nothing z v) = rw v u
    at (old has v) = rw v u
    at (new pos none v) = rw v (queue_snoc u d (pos, high) none)

module _ (M : Map) (to_darts : ToDarts M) where
  pub tried_queue : {q : List ℕ} → DartsOnce M q → (d k : ℕ) → DartsOnce M (tried M q d k)
  tried_queue u d zero = rw tried_zero (visit_queue u (sew M 0 d) (to_darts 0 d))
  tried_queue u d (suc k) = rw tried_suc (visit_queue (tried_queue u d k) (sew M (suc k) d) (to_darts (suc k) d))

  pub serve_queue : {q : List ℕ} → DartsOnce M q → (d : ℕ) → DartsOnce M (serve M q d)
  serve_queue u d = rw serve_tried (tried_queue u d M.dim)

  module _ (d : ℕ) (dart : IsDart M d) where
    pub served_queue : (k : ℕ) → DartsOnce M (served M d k)
    served_queue zero = rw served_zero (start_queue M d dart)
    served_queue (suc k) = rw served_suc (serve_queue (served_queue k) (nth (served M d k) (suc k)))

    pub labelling_queue : DartsOnce M (labelling M d)
    labelling_queue = rw labelling_served (served_queue M.darts)

    pub labelling_short : length (labelling M d) ≤ M.darts
    labelling_short = queue_short labelling_queue

    -- a dart is labelled before its turn to be served
    pub served_ahead : (k : ℕ) → k < length (labelling M d) → k < length (served M d k)
    served_ahead k h = at (tested (ltb k (length (served M d k))))
      where
        at : Tested (ltb k (length (served M d k))) → k < length (served M d k)
        at (passes e) = ltb-true k (length (served M d k)) e
        at (fails e) =
            let past : length (served M d k) ≤ k = ltb-false k (length (served M d k)) e in
            let same = ap length (served_labelling M d k (omega (arith, labelling_short)) past) in
            absurd (omega arith)

    -- so the dart served then is the one of that place
    pub served_next : (k : ℕ) → k < length (labelling M d) → nth (served M d k) (suc k) ≡ nth (labelling M d) (suc k)
    served_next k h =
        sym (grown_nth (labelling_grown M d k (omega (arith, labelling_short))) (suc k) (served_ahead k h))

    -- what is sewn to a labelled dart has a label
    pub labelling_closed : (i e : ℕ) → 0 < label_in (labelling M d) e → 0 < sew M i e → 0 < label_in (labelling M d) (sew M i e)
    labelling_closed i e pos sewn = at (label_in (labelling M d) e) refl
      where
        at : (l : ℕ) → label_in (labelling M d) e ≡ l → 0 < label_in (labelling M d) (sew M i e)
        at zero none = absurd (omega arith)
        at (suc k) is =
            let less : k < length (labelling M d) = omega (arith, label_in_le (labelling M d) e) in
            let turn : nth (served M d k) (suc k) ≡ e = served_next k less ∙ (rw is at (nth-label_in (labelling M d) e pos)) in
            let then : 0 < label_in (served M d (suc k)) (sew M i e) = rw (served_suc, turn) (serve_labels M (served M d k) e i sewn) in
            grown_labelled (labelling_grown M d (suc k) (omega (arith, labelling_short))) (sew M i e) then
