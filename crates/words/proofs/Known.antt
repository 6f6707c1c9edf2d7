-- A word of which only the first rows are held (`Known`): how a start comes out against it, and what is held then.
--     less_front              of two words of one length, that is less whose first numbers are
--     known_start             before the first start
--     known_over              other rows written over those that are held
--     known_whole             all rows are the word
--     known_less              what is not known is greater: the word itself is less than what is held
-- Assumes nothing.
use Prim.Native.Nat.{ℕ, zero, suc, ◌+◌, ◌-◌, ◌*◌, ◌≤◌, ◌<◌}
use mathlib.Core.Path.{◌≡◌, sym, ap, ◌∙◌}
use mathlib.Core.Bool.{true}
use mathlib.Core.List.{List, [], ◌∷◌, ◌++◌}
use native.Mathlib.Omega.{arith}
use native.Mathlib.Nat.{mul_comm, mul-le-mul_right, suc-mul}
use lib.ListN.{length, get_or, take, drop, replicate, get_or-replicate}
use lib.Seq.{get_or-take, get_or-drop, get_or-append-add, length-take-le, take-length, take-take}
use Rattle.maps.specs.Least.{nth}
use Rattle.maps.specs.Map.{Map, IsDart, sew}
use Rattle.maps.specs.Given.{place_of}
use Rattle.maps.specs.Accepted.{Accepted}
use Rattle.maps.proofs.Least.{true_not_false, nth-suc}
use Rattle.maps.proofs.Accepted.{darts_most}
use Rattle.labels.specs.Queue.{label_in, labelling}
use Rattle.labels.proofs.Reached.{labelling_numbers}
use Rattle.words.specs.Words.{word, less}
use Rattle.words.specs.Sign.{over}
use Rattle.words.specs.Inside.{front, Known}
use Rattle.words.proofs.Words.{length_word, nth_word}
use Rattle.words.proofs.Order.{Before, first, rest, before_less, less_before, less_irreflexive}
use Rattle.words.proofs.Lexicographic.{less_at}
use Rattle.words.proofs.Racing.{length_front}
use Rattle.words.proofs.Sign.{take-replicate, over_front}

before_front : (k : ℕ) (v w : List ℕ) → length v ≡ length w → Before (take k v) (take k w) → Before v w
before_front zero v w same b = absurd (true_not_false (before_less b) (less_irreflexive []))
before_front (suc k) [] [] same b = b
before_front (suc k) [] (y ∷ w) same b = absurd (omega arith)
before_front (suc k) (x ∷ v) [] same b = absurd (omega arith)
before_front (suc k) (x ∷ v) (y ∷ w) same (first h) = first h
before_front (suc k) (x ∷ v) (y ∷ w) same (rest e b) = rest e (before_front k v w (omega arith) b)

-- of two words of one length, that is less whose first numbers are
pub less_front : (k : ℕ) (v w : List ℕ) → length v ≡ length w → less (take k v) (take k w) ≡ true → less v w ≡ true
less_front k v w same h = before_less (before_front k v w same (less_before (take k v) (take k w) h))

module _ {M : Map} (a : Accepted M) (rows : ℕ) (most : rows ≤ M.darts) where
  -- the rows are part of the word
  rows_fit : rows * M.dim ≤ M.dim * M.darts
  rows_fit = omega (arith, mul_comm M.darts M.dim, mul-le-mul_right M.dim most)

  -- a row more is part of it too
  row_more : rows < M.darts → rows * M.dim < M.dim * M.darts
  row_more below = omega (arith, mul_comm M.darts M.dim, mul-le-mul_right M.dim below, suc-mul rows M.dim, a.bounds.dim_least)

  pub known_start : Known M rows (replicate (M.dim * M.darts) 65535) (replicate 1020 65535)
  known_start =
      record {
        spelt = take-replicate (rows * M.dim) 1020 65535 (omega (arith, rows_fit, a.bounds.table_most)) ∙ sym (take-replicate (rows * M.dim) (M.dim * M.darts) 65535 rows_fit);
        unknown = λ below. get_or-replicate {A = ℕ} 1020 (rows * M.dim) 65535 0 (omega (arith, row_more below, a.bounds.table_most));
      }

  -- the rows of another start are written over those that are held
  pub known_over : {b held : List ℕ} (d : ℕ) → IsDart M d → Known M rows b held → Known M rows (word M d) (over (front M d rows) held)
  unfolding over front
  known_over {b} {held} d dart k =
      let w = front M d rows in
      let long = length_front a d dart rows most in
      record {
        spelt = over_front w held (rows * M.dim) long;
        unknown = λ below.
            let here : length w + 0 ≡ rows * M.dim = omega (arith, long) in
            ap (λ (i : ℕ). get_or (w ++ drop (length w) held) i 0) (sym here)
            ∙ get_or-append-add w (drop (length w) held) 0 0
            ∙ get_or-drop (length w) held 0 0
            ∙ ap (λ (i : ℕ). get_or held i 0) here
            ∙ k.unknown below;
      }

  -- the number at the beginning of a row is a label
  row_label : (d : ℕ) → IsDart M d → rows < M.darts → get_or (word M d) (rows * M.dim) 0 ≤ M.darts
  unfolding place_of
  row_label d dart below =
      let q = labelling M d in
      let place : place_of M.dim (suc rows) 1 ≡ suc (rows * M.dim) = row_place in
      let there = nth_word a d dart (suc rows) 1 (omega arith) below (omega arith) a.bounds.dim_least in
      let number : get_or (word M d) (rows * M.dim) 0 ≡ label_in q (sew M 1 (nth q (suc rows))) =
      sym (nth-suc (word M d) (rows * M.dim)) ∙ ap (nth (word M d)) (sym place) ∙ there in
      omega (arith, number, (labelling_numbers a d dart).label_high (sew M 1 (nth q (suc rows))))
    where
      row_place : place_of M.dim (suc rows) 1 ≡ suc (rows * M.dim)
      row_place = let z : suc rows - 1 ≡ rows = omega arith in ap (λ (j : ℕ). j * M.dim + 1) z ∙ (let y : rows * M.dim + 1 ≡ suc (rows * M.dim) = omega arith in y)

  -- the word itself is less than what is held of it
  pub known_less : (d : ℕ) → IsDart M d → {held : List ℕ} → length held ≡ 1020 → Known M rows (word M d) held → rows < M.darts → less (word M d) (take (M.dim * M.darts) held) ≡ true
  known_less d dart {held} long k below =
      let size = M.dim * M.darts in
      let inside = row_more below in
      let fits = a.bounds.table_most in
      less_at (word M d) (take size held) (rows * M.dim)
      (omega (arith, inside, length_word a d dart))
      (omega (arith, inside, length-take-le size held (omega (arith, long, fits))))
      (sym k.spelt ∙ sym (take-take (rows * M.dim) size held rows_fit))
      (omega (arith, row_label d dart below, darts_most a.bounds, k.unknown below, get_or-take size held (rows * M.dim) 0 inside))

-- all rows are the word
pub known_whole : {M : Map} → Accepted M → (b : List ℕ) {held : List ℕ} → length b ≡ M.dim * M.darts → Known M M.darts b held → take (M.dim * M.darts) held ≡ b
known_whole {M} a b {held} long k =
    let size : M.darts * M.dim ≡ M.dim * M.darts = mul_comm M.darts M.dim in
    rw size at k.spelt ∙ ap (λ (i : ℕ). take i b) (sym long) ∙ take-length b
