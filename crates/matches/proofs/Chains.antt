-- Chains of any length, for the readings that a small map does not show (01: "an open chain").
--     chain m looped              m darts of dimension 2: β1(d) = d − 1, and β2 sews dart m to itself where `looped`, and no other
--     chain_accepted              it is accepted
--     chain_labelling             from dart 1, the end of the chain, the darts are labelled 1 to m
--     Last M d, chain_last        β1, .. βn of d lead nowhere: so it is with dart 1 where β2 sews nothing
--     End M d, signature_end      where β1 of d alone leads nowhere, the signature is the word from d
--     chain_signature             so that of a chain is the word from dart 1
--     chain_read                  where m reads as 0, the two chains of m darts have one signature
-- The chain is given by its β; as a dart table it is its own word from dart 1 (`labels_matching` of `words`). Assumes nothing.
use Prim.Native.Nat.{ℕ, zero, suc, ◌+◌, ◌-◌, ◌*◌, ◌≤◌, ◌<◌}
use mathlib.Core.Path.{◌≡◌, refl, sym, ap, ◌∙◌}
use mathlib.Core.Bool.{Bool, true, false, cond, ◌&&◌}
use mathlib.Core.List.{List, [], ◌∷◌, ◌++◌, append-nil, map, flat_map}
use mathlib.Core.Logic.{◌⊎◌, inl, inr, ⊎_elim}
use native.Mathlib.Omega.{arith}
use borrow.Author.Tests.{le-ltb, ne_eqb, eqb-true, eqb-false}
use lib.Dec.{eqb}
use lib.ListN.{length, length-append}
use Rattle.maps.specs.Least.{nth, up_to}
use Rattle.maps.specs.Map.{Map, IsDart, is_dart, back, sew}
use Rattle.maps.specs.Given.{place_of}
use Rattle.maps.specs.Accepted.{OpenMap, Path, here, on, Connected, Accepted}
use Rattle.maps.proofs.Least.{Tested, passes, fails, tested, true_not_false, least_le, map_append, nth-up_to, length-up_to}
use Rattle.maps.proofs.Map.{sew_zero, sew_outside, sew_high, sew_beta, sew_back, sewn_dart, sewn_low, forth_back}
use Rattle.maps.proofs.Matching.{Stands, nothing, dart, past, stands}
use Rattle.labels.specs.Queue.{label_in, visit, serve, served, labelling}
use Rattle.labels.proofs.Queue.{none_label_in, nth-label_in, nth_labelled, label_in_le, Grown, visit_nothing, visit_old, visit_new, served_zero, served_suc, labelling_first, labelling_grown, labelling_short, labelling_queue, queue_zero, tried_zero, tried_suc, serve_tried}
use Rattle.labels.proofs.Reached.{labelling_numbers}
use Rattle.words.specs.Words.{row, word_of, word, less, signature}
use Rattle.words.proofs.Words.{nth_word}
use Rattle.words.proofs.Order.{least_word_is, less_irreflexive}

-- the queue 1, 2, .. k: no label but those of its darts
label_in-up_to_none : (k d : ℕ) → (1 ≤ d → d ≤ k → ⊥) → label_in (up_to k) d ≡ 0
label_in-up_to_none k d outside = none_label_in (up_to k) d apart
  where
    apart : (j : ℕ) → 1 ≤ j → j ≤ length (up_to k) → nth (up_to k) j ≡ d → ⊥
    apart j low high is =
        let most : j ≤ k = rw (length-up_to k) at high in
        let same : j ≡ d = sym (nth-up_to k j low most) ∙ is in
        outside (omega arith) (omega arith)

-- it stays where one of them, or 0, is met
visit-up_to : (k d : ℕ) → d ≤ k → visit (up_to k) d ≡ up_to k
visit-up_to k zero h = visit_nothing (up_to k) 0 refl
visit-up_to k (suc d) h =
    let at : nth (up_to k) (suc d) ≡ suc d = nth-up_to k (suc d) (omega arith) h in
    visit_old (up_to k) (suc d) (rw at at (nth_labelled (up_to k) (suc d) (omega arith) (rw (length-up_to k) h)))

-- and grows by the next
visit-up_to_next : (k : ℕ) → visit (up_to k) (suc k) ≡ up_to (suc k)
unfolding up_to
visit-up_to_next k = visit_new (up_to k) (suc k) (omega arith) (label_in-up_to_none k (suc k) (λ low high. omega arith))

-- each of its darts is its own label
pub label_in-up_to : (k d : ℕ) → 1 ≤ d → d ≤ k → label_in (up_to k) d ≡ d
label_in-up_to k d low high =
    let at = nth-up_to k d low high in
    let pos : 0 < label_in (up_to k) d = rw at at (nth_labelled (up_to k) d low (rw (length-up_to k) high)) in
    let most : label_in (up_to k) d ≤ k = rw (length-up_to k) at (label_in_le (up_to k) d) in
    sym (nth-up_to k (label_in (up_to k) d) pos most) ∙ nth-label_in (up_to k) d pos

-- a queue that has not become longer is the same
grown_full : {q q' : List ℕ} → Grown q q' → length q' ≤ length q → q' ≡ q
grown_full {q} {q'} g short = at g.more g.is
  where
    at : (more : List ℕ) → q' ≡ q ++ more → q' ≡ q
    at [] is = is ∙ append-nil q
    at (e ∷ more) is = absurd (omega (arith, simp length-append at (ap length is)))

-- m darts of dimension 2: β1(d) = d − 1, and β2 sews dart m to itself where `looped`, and no other
abbrev pub chain : ℕ → Bool → Map
chain m looped = record { dim = 2; darts = m; beta = λ i d. cond (eqb i 1) (d - 1) (cond (looped && eqb d m) m 0) }

module _ (m : ℕ) (looped : Bool) where
  abbrev M : Map
  M = chain m looped

  chain_one : (d : ℕ) → IsDart M d → sew M 1 d ≡ d - 1
  chain_one d h = sew_beta M 1 d h (omega arith) (omega arith)

  -- β2 is nothing, or the loop at dart m
  chain_two : (d : ℕ) → (sew M 2 d ≡ 0) ⊎ ((looped ≡ true) × (d ≡ m) × (sew M 2 d ≡ m))
  chain_two d = at (stands M d) (tested looped) (tested (eqb d m))
    where
      written : IsDart M d → sew M 2 d ≡ cond (looped && eqb d m) m 0
      written h = sew_beta M 2 d h (omega arith) (omega arith)

      at : Stands M d → Tested looped → Tested (eqb d m) → (sew M 2 d ≡ 0) ⊎ ((looped ≡ true) × (d ≡ m) × (sew M 2 d ≡ m))
      at (nothing z) b t = inl (rw z (sew_zero M 2 0))
      at (past h) b t = inl (sew_outside M 2 d h)
      at (dart h) (fails none) t = inl (written h ∙ simp none)
      at (dart h) (passes loop) (fails lower) = inl (written h ∙ simp (loop, lower))
      at (dart h) (passes loop) (passes last) = inr (loop, eqb-true d m last, written h ∙ simp (loop, last))

  to_darts : (i d : ℕ) → sew M i d ≤ m
  unfolding back
  to_darts i d = at i (stands M d)
    where
      at : (i : ℕ) → Stands M d → sew M i d ≤ m
      at i (nothing z) = rw (z, sew_zero M i 0) (omega arith)
      at i (past h) = rw (sew_outside M i d h) (omega arith)
      at zero (dart h) = rw (sew_back M d h) (least_le _ m)
      at (suc zero) (dart h) = rw (chain_one d h) (omega arith)
      at (suc (suc zero)) (dart h) = ⊎_elim (λ z. rw z (omega arith)) (λ l. rw l.2 (omega arith)) (chain_two d)
      at (suc (suc (suc i))) (dart h) = rw (sew_high M (suc (suc (suc i))) d (omega arith)) (omega arith)

  one_to_one : (d e : ℕ) → 0 < sew M 1 d → sew M 1 d ≡ sew M 1 e → d ≡ e
  one_to_one d e pos is =
      let h = sewn_dart M 1 d pos in
      let k = sewn_dart M 1 e (rw is at pos) in
      omega (arith, chain_one d h, chain_one e k)

  own_reverse : (i d : ℕ) → 2 ≤ i → 0 < sew M i d → sew M i (sew M i d) ≡ d
  own_reverse i d low pos =
      let two : i ≡ 2 = omega (arith, sewn_low M i d pos) in
      rw two (⊎_elim (λ z. absurd (omega (arith, rw two at pos))) (λ l. ap (sew M 2) (l.2 ∙ sym l.1) ∙ l.2 ∙ sym l.1) (chain_two d))

  compositions : (i j d e : ℕ) → 1 ≤ i → i + 2 ≤ j → sew M i (sew M j d) ≡ e → 0 < e → sew M i (sew M j e) ≡ d
  compositions i j d e low apart is pos = absurd (omega (arith, rw (sew_high M j d (omega arith), sew_zero M i 0) at is))

  chain_open : OpenMap M
  chain_open = record { to_darts = to_darts; one_to_one = one_to_one; own_reverse = own_reverse; compositions = compositions }

  -- β0 leads on along the chain
  chain_back : (d : ℕ) → 1 ≤ d → d < m → sew M 0 d ≡ suc d
  chain_back d low high = forth_back M (omega arith) chain_open (suc d) d (chain_one (suc d) (omega arith) ∙ omega arith) low

  reached : (d : ℕ) → suc d ≤ m → Path M 1 (suc d)
  reached zero h = here
  reached (suc d) h = on 0 (reached d (omega arith)) (chain_back (suc d) (omega arith) h) (omega arith)

  pub chain_accepted : 1 ≤ m → 2 * m ≤ 1020 → Accepted M
  unfolding Connected
  chain_accepted least most =
      record {
        bounds = record { dim_least = omega arith; dim_most = omega arith; darts_least = least; table_most = most };
        open_map = chain_open;
        connected = all;
      }
    where
      all : (d : ℕ) → IsDart M d → Path M 1 d
      all zero h = absurd (omega arith)
      all (suc d) h = reached d h.1

  serve_up_to : (k : ℕ) → suc k < m → serve M (up_to (suc k)) (suc k) ≡ up_to (suc (suc k))
  serve_up_to k h =
      let two : sew M 2 (suc k) ≡ 0 = ⊎_elim (λ z. z) (λ l. absurd (omega arith)) (chain_two (suc k)) in
      serve_tried M (up_to (suc k)) (suc k)
      ∙ rw (tried_suc, tried_suc, tried_zero, chain_back (suc k) (omega arith) h, chain_one (suc k) (omega arith), two)
      (rw (visit-up_to_next (suc k), visit-up_to (suc (suc k)) (suc k - 1) (omega arith)) (visit-up_to (suc (suc k)) 0 (omega arith)))

  served_up_to : (k : ℕ) → suc k ≤ m → served M 1 k ≡ up_to (suc k)
  unfolding up_to
  served_up_to zero h = served_zero M 1
  served_up_to (suc k) h =
      served_suc M 1 k ∙ rw (served_up_to k (omega arith), nth-up_to (suc k) (suc k) (omega arith) (omega arith)) (serve_up_to k h)

  -- from the end of the chain, the darts are labelled in order
  pub chain_labelling : 1 ≤ m → labelling M 1 ≡ up_to m
  chain_labelling least =
      let full : served M 1 (m - 1) ≡ up_to m = served_up_to (m - 1) (omega arith) ∙ ap up_to (omega arith) in
      rw full at (grown_full (labelling_grown M 1 (m - 1) (omega arith))
      (rw (full, length-up_to m) (labelling_short M to_darts 1 (omega arith))))

-- in an open chain β2 sews nothing
pub chain_unlooped : (m d : ℕ) → sew (chain m false) 2 d ≡ 0
chain_unlooped m d = ⊎_elim (λ z. z) (λ l. absurd (true_not_false l.0 refl)) (chain_two m false d)

-- β1, .. βn of d lead nowhere
abbrev pub Last : Map → ℕ → Type 0
Last M d = (i : ℕ) → 1 ≤ i → sew M i d ≡ 0

-- dart 1 of an open chain
pub chain_last : (m : ℕ) → 1 ≤ m → Last (chain m false) 1
chain_last m least zero low = absurd (omega arith)
chain_last m least (suc zero) low = chain_one m false 1 (omega arith, least)
chain_last m least (suc (suc zero)) low = chain_unlooped m 1
chain_last m least (suc (suc (suc i))) low = sew_high (chain m false) (suc (suc (suc i))) 1 (omega arith)

-- d is the one dart whose β1 leads to nothing
pub record End (M : Map) (d : ℕ) : Type 0 where
  pub dart : IsDart M d
  pub unsewn : sew M 1 d ≡ 0
  pub alone : (e : ℕ) → IsDart M e → sew M 1 e ≡ 0 → e ≡ d

-- a word that begins with 0 comes before one that does not
less_first : (v w : List ℕ) → nth v 1 ≡ 0 → 0 < nth w 1 → less w v ≡ false
unfolding less nth
less_first v [] z pos = absurd (omega arith)
less_first [] (y ∷ ys) z pos = refl
less_first (x ∷ xs) (y ∷ ys) z pos = simp (le-ltb y x (omega arith), ne_eqb y x (λ e. omega arith))

module _ {M : Map} (a : Accepted M) {d : ℕ} (end : End M d) where
  -- a word begins with the label of β1 of its start
  first : (e : ℕ) → IsDart M e → nth (word M e) 1 ≡ label_in (labelling M e) (sew M 1 e)
  unfolding place_of
  first e h =
      ap (nth (word M e)) (omega arith)
      ∙ nth_word a e h 1 1 (omega arith) a.bounds.darts_least (omega arith) a.bounds.dim_least
      ∙ ap (λ (c : ℕ). label_in (labelling M e) (sew M 1 c)) (labelling_first M e)

  first_end : nth (word M d) 1 ≡ 0
  first_end =
      first d end.dart
      ∙ ap (label_in (labelling M d)) end.unsewn
      ∙ queue_zero (labelling_queue M a.open_map.to_darts d end.dart)

  first_other : (e : ℕ) → IsDart M e → (e ≡ d → ⊥) → 0 < nth (word M e) 1
  first_other e h other =
      let sewn : (sew M 1 e ≡ 0 → ⊥) = λ z. other (end.alone e h z) in
      rw (first e h) ((labelling_numbers a e h).label_low (sew M 1 e) (omega arith, a.open_map.to_darts 1 e))

  -- the signature is the word from the end
  pub signature_end : signature M ≡ word M d
  unfolding signature
  signature_end = least_word_is M M.darts d end.dart.0 end.dart.1 none
    where
      none : (e : ℕ) → 1 ≤ e → e ≤ M.darts → less (word M e) (word M d) ≡ false
      none e low high = at (tested (eqb e d))
        where
          at : Tested (eqb e d) → less (word M e) (word M d) ≡ false
          at (passes is) = rw (eqb-true e d is) (less_irreflexive (word M d))
          at (fails is) = less_first (word M d) (word M e) first_end (first_other e (low, high) (eqb-false e d is))

pub chain_signature : (m : ℕ) (looped : Bool) → 1 ≤ m → 2 * m ≤ 1020 → signature (chain m looped) ≡ word (chain m looped) 1
chain_signature m looped least most =
    signature_end (chain_accepted m looped least most)
    (record { dart = (omega arith, least); unsewn = chain_one m looped 1 (omega arith, least); alone = λ e h z. omega (arith, chain_one m looped e h) })

-- words that a function of their numbers does not tell apart, row by row
rows_read : (f : ℕ → ℕ) (r r' : ℕ → List ℕ) → ((d : ℕ) → map f (r d) ≡ map f (r' d)) → (q : List ℕ) → map f (flat_map r q) ≡ map f (flat_map r' q)
unfolding flat_map
rows_read f r r' same [] = refl
rows_read f r r' same (d ∷ q) = rw (map_append f (r d), map_append f (r' d), same d, rows_read f r r' same q)

-- the two chains differ in β2 alone
chain_row : (m : ℕ) (looped : Bool) (q : List ℕ) (d : ℕ) →
    row (chain m looped) q d ≡ label_in q (sew (chain m looped) 1 d) ∷ label_in q (sew (chain m looped) 2 d) ∷ []
unfolding row up_to
chain_row m looped q d = refl

chain_ones : (m d : ℕ) → sew (chain m true) 1 d ≡ sew (chain m false) 1 d
unfolding sew is_dart
chain_ones m d = refl

module _ (f : ℕ → ℕ) (m : ℕ) (least : 1 ≤ m) (same : f m ≡ f 0) where
  two_read : (looped : Bool) (d : ℕ) → f (label_in (up_to m) (sew (chain m looped) 2 d)) ≡ f 0
  two_read looped d =
      ⊎_elim
      (λ z. read 0 z (label_in-up_to_none m 0 (λ low high. omega arith)))
      (λ l. read m l.2 (label_in-up_to m m least (omega arith)) ∙ same)
      (chain_two m looped d)
    where
      read : (e : ℕ) → sew (chain m looped) 2 d ≡ e → label_in (up_to m) e ≡ e → f (label_in (up_to m) (sew (chain m looped) 2 d)) ≡ f e
      read e sewn label = rw (sewn, label)

  row_read : (d : ℕ) → map f (row (chain m true) (up_to m) d) ≡ map f (row (chain m false) (up_to m) d)
  row_read d = rw (chain_row, chain_row, chain_ones, two_read true d, two_read false d)

  -- where m reads as 0, the signatures of the looped and the open chain read the same
  pub chain_read : 2 * m ≤ 1020 → map f (signature (chain m true)) ≡ map f (signature (chain m false))
  unfolding word word_of
  chain_read most =
      rw (chain_signature m true least most, chain_signature m false least most, chain_labelling m true least, chain_labelling m false least)
      (rows_read f (row (chain m true) (up_to m)) (row (chain m false) (up_to m)) row_read (up_to m))
