-- What stands in a word (000, definition 6; `specs/Words.antt`).
--     length_rows, nth_rows     a list made of rows of equal length
--     length_row, nth_row       the row of a dart: the labels of β1 .. βn of it
--     length_word, nth_word     the word of an accepted map: n·m numbers, at place (k−1)·n + i the label of βi of the dart labelled k
-- Assumes nothing.
use Prim.Native.Nat.{ℕ, zero, suc, ◌+◌, ◌-◌, ◌*◌, ◌≤◌}
use mathlib.Core.Path.{◌≡◌, sym, ap, ◌∙◌}
use mathlib.Core.List.{List, [], ◌∷◌, ◌++◌, flat_map}
use native.Mathlib.Omega.{arith}
use native.Mathlib.Nat.{mul-suc, suc-mul, zero-mul, mul-zero}
use lib.Seq.{get_or-append-add}
use lib.ListN.{length, length-append, length-map}
use Rattle.maps.specs.Least.{nth, up_to}
use Rattle.maps.specs.Map.{Map, IsDart, sew}
use Rattle.maps.specs.Given.{place_of}
use Rattle.maps.specs.Accepted.{Accepted}
use Rattle.maps.proofs.Least.{nth-append, length-up_to, nth-map-up_to}
use Rattle.labels.specs.Queue.{label_in, labelling}
use Rattle.labels.proofs.Queue.{nth_one, nth-cons-suc}
use Rattle.labels.proofs.Reached.{labelling_numbers}
use Rattle.words.specs.Words.{row, word_of, word}

-- a place of the second of two lists
nth-append_past : (xs ys : List ℕ) (p : ℕ) → 1 ≤ p → nth (xs ++ ys) (length xs + p) ≡ nth ys p
unfolding nth
nth-append_past xs ys zero low = absurd (omega arith)
nth-append_past xs ys (suc p) low =
    let next : length xs + suc p ≡ suc (length xs + p) = omega arith in
    rw next (get_or-append-add xs ys p 0)

-- the places of the first row, and of a row after the first
place_of_one : (n i : ℕ) → place_of n 1 i ≡ i
unfolding place_of
place_of_one n i = omega (arith, zero-mul n)

place_of_next : (n k i : ℕ) → place_of n (suc (suc k)) i ≡ n + place_of n (suc k) i
unfolding place_of
place_of_next n k i =
    let before : suc (suc k) - 1 ≡ suc k = omega arith in
    let earlier : suc k - 1 ≡ k = omega arith in
    rw (before, earlier) (omega (arith, suc-mul k n))

place_of_low : (n k i : ℕ) → 1 ≤ i → 1 ≤ place_of n k i
unfolding place_of
place_of_low n k i h = omega arith

module _ (r : ℕ → List ℕ) (n : ℕ) (even : (d : ℕ) → length (r d) ≡ n) where
  pub length_rows : (q : List ℕ) → length (flat_map r q) ≡ n * length q
  unfolding flat_map
  length_rows [] = sym (mul-zero n)
  length_rows (d ∷ q) = rw (length-append, even d, length_rows q, mul-suc) (omega arith)

  -- place (k−1)·n + i of the whole is place i of row k
  pub nth_rows : (q : List ℕ) (k i : ℕ) → 1 ≤ k → k ≤ length q → 1 ≤ i → i ≤ n → nth (flat_map r q) (place_of n k i) ≡ nth (r (nth q k)) i
  unfolding flat_map
  nth_rows [] k i k-low k-high low high = absurd (omega arith)
  nth_rows (d ∷ q) zero i k-low k-high low high = absurd (omega arith)
  nth_rows (d ∷ q) (suc zero) i k-low k-high low high = rw (place_of_one, nth_one) (nth-append (r d) (flat_map r q) i (rw (even d) high))
  nth_rows (d ∷ q) (suc (suc k)) i k-low k-high low high =
      rw (place_of_next, nth-cons-suc)
      (ap (λ (j : ℕ). nth (r d ++ flat_map r q) (j + place_of n (suc k) i)) (sym (even d))
      ∙ nth-append_past (r d) (flat_map r q) (place_of n (suc k) i) (place_of_low n (suc k) i low)
      ∙ nth_rows q (suc k) i (omega arith) (omega arith) low high)

module _ (M : Map) (q : List ℕ) where
  pub length_row : (d : ℕ) → length (row M q d) ≡ M.dim
  unfolding row
  length_row d = length-map (up_to M.dim) (λ i. label_in q (sew M i d)) ∙ length-up_to M.dim

  pub nth_row : (d i : ℕ) → 1 ≤ i → i ≤ M.dim → nth (row M q d) i ≡ label_in q (sew M i d)
  unfolding row
  nth_row d i low high = nth-map-up_to (λ i. label_in q (sew M i d)) M.dim i low high

module _ {M : Map} (a : Accepted M) (d : ℕ) (dart : IsDart M d) where
  pub length_word : length (word M d) ≡ M.dim * M.darts
  unfolding word word_of
  length_word =
      let q = labelling M d in
      length_rows (row M q) M.dim (length_row M q) q ∙ ap (λ (k : ℕ). M.dim * k) (labelling_numbers a d dart).long

  -- 01: "the number at place (k−1)·n + i is the label of βi of the dart labelled k"
  pub nth_word : (k i : ℕ) → 1 ≤ k → k ≤ M.darts → 1 ≤ i → i ≤ M.dim →
      nth (word M d) (place_of M.dim k i) ≡ label_in (labelling M d) (sew M i (nth (labelling M d) k))
  unfolding word word_of
  nth_word k i k-low k-high low high =
      let q = labelling M d in
      nth_rows (row M q) M.dim (length_row M q) q k i k-low (rw (labelling_numbers a d dart).long k-high) low high
      ∙ nth_row M q (nth q k) i low high
