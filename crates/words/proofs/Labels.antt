-- Labels as darts of a word, for theorems 4 and 6: what a labelling does as a function of the darts.
--     labels_matches               a dart goes to its label in the word read as a table
--     SameWord M d M' d'           accepted maps of one dimension have the same word, from d and from d'
--     words_darts                  they then have as many darts
--     label_matches                a dart then goes to the dart that has its label
-- The theorems themselves stand in `Theorems`. Assumes nothing.
use Prim.Native.Nat.{ℕ, ◌*◌, ◌≤◌}
use mathlib.Core.Path.{◌≡◌, refl, sym, ap, ap₂, ◌∙◌}
use native.Mathlib.Omega.{arith}
use native.Mathlib.Nat.{eq_of_mul-eq-mul_left}
use lib.ListN.{length}
use Rattle.maps.specs.Least.{nth}
use Rattle.maps.specs.Map.{Map, IsDart, sew}
use Rattle.maps.specs.Given.{place_of, map_of}
use Rattle.maps.specs.Accepted.{Accepted}
use Rattle.maps.proofs.Least.{nth-zero}
use Rattle.maps.proofs.Map.{sew_beta}
use Rattle.maps.proofs.Matching.{Stands, nothing, dart, past, stands, Matches}
use Rattle.labels.specs.Queue.{label_in, labelling}
use Rattle.labels.proofs.Queue.{queue_zero, labelling_queue}
use Rattle.labels.proofs.Reached.{Numbering, labelling_numbers}
use Rattle.words.specs.Theorems.{read_as}
use Rattle.words.specs.Words.{word}
use Rattle.words.proofs.Words.{length_word, nth_word}

-- the dart of M' that has from d' the label that e has from d
unfoldable pub with_label : Map → ℕ → Map → ℕ → ℕ → ℕ
with_label M d M' d' e = nth (labelling M' d') (label_in (labelling M d) e)

module _ {M : Map} (a : Accepted M) (d : ℕ) (h : IsDart M d) where
  pub numbers : Numbering M (labelling M d)
  numbers = labelling_numbers a d h

  label_none : label_in (labelling M d) 0 ≡ 0
  label_none = queue_zero (labelling_queue M a.open_map.to_darts d h)

  -- the dart that has the label of e is e, for 0 too
  at_label_all : (e : ℕ) → e ≤ M.darts → nth (labelling M d) (label_in (labelling M d) e) ≡ e
  at_label_all e most = at (stands M e)
    where
      at : Stands M e → nth (labelling M d) (label_in (labelling M d) e) ≡ e
      at (nothing z) = rw (z, label_none) (nth-zero (labelling M d))
      at (dart there) = numbers.at_label e there
      at (past there) = absurd (omega arith)

  labels_one_to_one : (c e : ℕ) → IsDart M c → IsDart M e → label_in (labelling M d) c ≡ label_in (labelling M d) e → c ≡ e
  labels_one_to_one c e hc he same = sym (numbers.at_label c hc) ∙ ap (nth (labelling M d)) same ∙ numbers.at_label e he

  -- in the word stands, in the row of e's label, the label of βi(e)
  nth_word_label : (i e : ℕ) → 1 ≤ i → i ≤ M.dim → IsDart M e →
      nth (word M d) (place_of M.dim (label_in (labelling M d) e) i) ≡ label_in (labelling M d) (sew M i e)
  nth_word_label i e low high there =
      nth_word a d h (label_in (labelling M d) e) i (numbers.label_low e there) (numbers.label_high e) low high
      ∙ ap (λ (c : ℕ). label_in (labelling M d) (sew M i c)) (numbers.at_label e there)

  -- each dart goes to its label
  pub labels_matches : Matches M (read_as M (word M d)) (label_in (labelling M d))
  unfolding map_of
  labels_matches =
      record {
        same_dim = refl;
        same_darts = refl;
        none = label_none;
        to_darts = λ e there. (numbers.label_low e there, numbers.label_high e);
        one_to_one = labels_one_to_one;
        onto = λ k there. (nth (labelling M d) k, numbers.dart_there k there.0 there.1, numbers.label_of k there.0 there.1);
        keeps = λ i e low high there.
            sym
            (sew_beta (read_as M (word M d)) i (label_in (labelling M d) e) (numbers.label_low e there, numbers.label_high e) low high
            ∙ nth_word_label i e low high there);
      }

-- a start of each of two accepted maps of one dimension, which have the same word
pub record SameWord (M : Map) (d : ℕ) (M' : Map) (d' : ℕ) : Type 0 where
  pub accepted : Accepted M
  pub accepted' : Accepted M'
  pub start : IsDart M d
  pub start' : IsDart M' d'
  pub same_dim : M.dim ≡ M'.dim
  pub same_word : word M d ≡ word M' d'

module _ {M : Map} {d : ℕ} {M' : Map} {d' : ℕ} (s : SameWord M d M' d') where
  -- words of one length are of maps with as many darts
  pub words_darts : M.darts ≡ M'.darts
  words_darts =
      let lengths = sym (length_word s.accepted d s.start) ∙ ap length s.same_word ∙ length_word s.accepted' d' s.start' in
      eq_of_mul-eq-mul_left M.dim s.accepted.bounds.dim_least M.darts M'.darts
      (lengths ∙ ap (λ (n : ℕ). n * M'.darts) (sym s.same_dim))

  there : ℕ → ℕ
  there = with_label M d M' d'

  n : Numbering M (labelling M d)
  n = numbers s.accepted d s.start

  n' : Numbering M' (labelling M' d')
  n' = numbers s.accepted' d' s.start'

  label_within : (e : ℕ) → label_in (labelling M d) e ≤ M'.darts
  label_within e = omega (arith, n.label_high e, words_darts)

  label_within' : (e : ℕ) → label_in (labelling M' d') e ≤ M.darts
  label_within' e = omega (arith, n'.label_high e, words_darts)

  there_none : there 0 ≡ 0
  unfolding there with_label
  there_none = rw (label_none s.accepted d s.start) (nth-zero (labelling M' d'))

  there_dart : (e : ℕ) → IsDart M e → IsDart M' (there e)
  unfolding there with_label
  there_dart e h = n'.dart_there (label_in (labelling M d) e) (n.label_low e h) (label_within e)

  there_label : (e : ℕ) → IsDart M e → label_in (labelling M' d') (there e) ≡ label_in (labelling M d) e
  unfolding there with_label
  there_label e h = n'.label_of (label_in (labelling M d) e) (n.label_low e h) (label_within e)

  there_one_to_one : (c e : ℕ) → IsDart M c → IsDart M e → there c ≡ there e → c ≡ e
  there_one_to_one c e hc he same =
      labels_one_to_one s.accepted d s.start c e hc he
      (sym (there_label c hc) ∙ ap (label_in (labelling M' d')) same ∙ there_label e he)

  there_onto : (e : ℕ) → IsDart M' e → (c : ℕ) × IsDart M c × (there c ≡ e)
  unfolding there with_label
  there_onto e h =
      let k = label_in (labelling M' d') e in (
        nth (labelling M d) k,
        n.dart_there k (n'.label_low e h) (label_within' e),
        ap (nth (labelling M' d')) (n.label_of k (n'.label_low e h) (label_within' e)) ∙ n'.at_label e h,
      )

  -- what is sewn to e has the label that what is sewn to the dart labelled as e has
  there_sewn : (i e : ℕ) → 1 ≤ i → i ≤ M.dim → IsDart M e → label_in (labelling M d) (sew M i e) ≡ label_in (labelling M' d') (sew M' i (there e))
  there_sewn i e low high h =
      sym (nth_word_label s.accepted d s.start i e low high h)
      ∙ ap₂ nth s.same_word (ap₂ (λ (n k : ℕ). place_of n k i) s.same_dim (sym (there_label e h)))
      ∙ nth_word_label s.accepted' d' s.start' i (there e) low (omega (arith, s.same_dim)) (there_dart e h)

  there_keeps : (i e : ℕ) → 1 ≤ i → i ≤ M.dim → IsDart M e → there (sew M i e) ≡ sew M' i (there e)
  unfolding there with_label
  there_keeps i e low high h =
      ap (nth (labelling M' d')) (there_sewn i e low high h)
      ∙ at_label_all s.accepted' d' s.start' (sew M' i (there e)) (s.accepted'.open_map.to_darts i (there e))

  -- each dart goes to the dart that has its label
  pub label_matches : Matches M M' (with_label M d M' d')
  unfolding there
  label_matches =
      record {
        same_dim = s.same_dim;
        same_darts = words_darts;
        none = there_none;
        to_darts = there_dart;
        one_to_one = there_one_to_one;
        onto = there_onto;
        keeps = there_keeps;
      }
