-- The images of a matching, as they are written one by one: the laws of `images_of`.
--     Showing, showing_..       the places of the queues that are passed have their images
--     images_ready, images_shown
--                               those of a match may be written, and are the matching shown
-- Assumes nothing.
use Prim.Native.Nat.{ℕ, suc, ◌+◌, ◌-◌, ◌≤◌, ◌<◌}
use mathlib.Core.Path.{◌≡◌, refl, sym, ap, ◌∙◌}
use mathlib.Core.Bool.{cond}
use mathlib.Core.List.{List, ◌++◌, map}
use native.Mathlib.Omega.{arith}
use native.Mathlib.Nat.{le_refl}
use borrow.Author.Tests.{eqb-true, eqb-false, leb-true, leb-false, le-leb, lt-leb}
use lib.Dec.{eqb, leb}
use lib.ListN.{length, get_or, set, take, drop, length-set, length-map, length-append, length-drop, get_or-append}
use lib.Seq.{length-take-le, get_or-set_same, get_or-set_other, get_or-append-add, get_or-drop, ext_get_or}
use Rattle.maps.specs.Least.{nth, up_to}
use Rattle.maps.proofs.Least.{Tested, passes, fails, tested, nth-suc, nth-map-up_to, length-up_to}
use Rattle.labels.specs.Queue.{label_in, labelling}
use Rattle.labels.proofs.Queue.{nth-label_in}
use Rattle.maps.specs.Accepted.{Accepted}
use Rattle.maps.specs.Given.{Given, map_of}
use Rattle.maps.proofs.Accepted.{darts_most}
use Rattle.labels.proofs.Reached.{labelling_numbers}
use Rattle.words.specs.Words.{by_labels}
use Rattle.words.specs.Match.{image_of_first, shown}
use Rattle.words.specs.Sign.{over}
use Rattle.words.specs.Inside.{Images, images_of}

-- the image of dart d: the dart at the place of its label
abbrev image_of : List ℕ → List ℕ → ℕ → ℕ
image_of first second d = nth second (label_in first d)

-- the first k places are passed: their darts have their images, and every other number is as it was
pub record Showing (first second output₀ output : List ℕ) (k : ℕ) : Type 0 where
  pub long : length output ≡ length output₀
  pub images : (d : ℕ) → 1 ≤ d → d ≤ length first → get_or output (d - 1) 0 ≡ cond (leb (label_in first d) k) (image_of first second d) (get_or output₀ (d - 1) 0)
  pub beyond : (i : ℕ) → length first ≤ i → get_or output i 0 ≡ get_or output₀ i 0

pub showing_start : {first second output : List ℕ} → Images first second output → Showing first second output output 0
showing_start {first} {second} {output} p =
    record {
      long = refl;
      images = λ d low high. simp (lt-leb (label_in first d) 0 (omega (arith, p.label_low d low high)));
      beyond = λ i h. refl;
    }

-- the dart x at the next place, and what stands there in the second queue
module _ {first second output₀ : List ℕ} {k : ℕ} (p : Images first second output₀) (turn : k < length first) (x : ℕ) (is : x ≡ nth first (suc k)) where
  pub showing_dart : (1 ≤ x) × (x ≤ length first)
  showing_dart = rw is (p.dart_there (suc k) (omega arith) turn)

  label : label_in first x ≡ suc k
  label = rw is (p.label_of (suc k) (omega arith) turn)

  pub showing_turn : {output : List ℕ} → Showing first second output₀ output k → Showing first second output₀ (set output (x - 1) (nth second (suc k))) (suc k)
  showing_turn {output} s =
      record {
        long = length-set output (x - 1) (nth second (suc k)) ∙ s.long;
        images = λ d low high. at d low high (tested (eqb d x));
        beyond = λ i h. get_or-set_other output (x - 1) i (nth second (suc k)) 0 (λ z. omega (arith, showing_dart)) ∙ s.beyond i h;
      }
    where
      at : (d : ℕ) → 1 ≤ d → d ≤ length first → Tested (eqb d x) →
          get_or (set output (x - 1) (nth second (suc k))) (d - 1) 0 ≡ cond (leb (label_in first d) (suc k)) (image_of first second d) (get_or output₀ (d - 1) 0)
      at d low high (passes e) =
          let same : d ≡ x = eqb-true d x e in
          rw same
          (get_or-set_same output (x - 1) (nth second (suc k)) 0 (omega (arith, showing_dart, s.long, p.room))
          ∙ sym (simp (label, le-leb (suc k) (suc k) (omega arith))))
      at d low high (fails e) =
          let other : d ≡ x → ⊥ = eqb-false d x e in
          get_or-set_other output (x - 1) (d - 1) (nth second (suc k)) 0 (λ z. other (omega (arith, showing_dart))) ∙ s.images d low high ∙ kept d low high other (tested (leb (label_in first d) k))
        where
          kept : (d : ℕ) → 1 ≤ d → d ≤ length first → (d ≡ x → ⊥) → Tested (leb (label_in first d) k) →
              cond (leb (label_in first d) k) (image_of first second d) (get_or output₀ (d - 1) 0)
              ≡ cond (leb (label_in first d) (suc k)) (image_of first second d) (get_or output₀ (d - 1) 0)
          kept d low high other (passes h) = simp (h, le-leb (label_in first d) (suc k) (omega (arith, leb-true (label_in first d) k h)))
          kept d low high other (fails h) =
              let apart : label_in first d ≡ suc k → ⊥ =
              λ z. other (sym (nth-label_in first d (p.label_low d low high).0) ∙ ap (nth first) z ∙ sym is) in
              simp (h, lt-leb (label_in first d) (suc k) (omega (arith, leb-false (label_in first d) k h)))

module _ (first second : List ℕ) where
  pub length-images_of : length (images_of first second) ≡ length first
  unfolding images_of
  length-images_of = length-map (up_to (length first)) (λ d. nth second (label_in first d)) ∙ length-up_to (length first)

  image_there : (i : ℕ) → suc i ≤ length first → image_of first second (suc i) ≡ get_or (images_of first second) i 0
  unfolding images_of
  image_there i inside =
      sym (nth-map-up_to (λ d. nth second (label_in first d)) (length first) (suc i) (omega arith) inside) ∙ nth-suc (map (λ d. nth second (label_in first d)) (up_to (length first))) i

-- all places are passed
pub showing_done : {first second output₀ output : List ℕ} {k : ℕ} → Images first second output₀ → Showing first second output₀ output k → k ≡ length first →
    output ≡ over (images_of first second) output₀
unfolding over
showing_done {first} {second} {output₀} {output} {k} p s all = ext_get_or 0 output (images_of first second ++ drop (length (images_of first second)) output₀) same_length (λ i h. at i (tested (leb (suc i) (length first))))
  where
    count : length (images_of first second) ≡ length first
    count = length-images_of first second

    same_length : length output ≡ length (images_of first second ++ drop (length (images_of first second)) output₀)
    same_length = simp (length-append, length-drop) (omega (arith, count, s.long, p.room))

    at : (i : ℕ) → Tested (leb (suc i) (length first)) → get_or output i 0 ≡ get_or (images_of first second ++ drop (length (images_of first second)) output₀) i 0
    at i (passes e) =
        let inside : suc i ≤ length first = leb-true (suc i) (length first) e in
        let one_less : suc i - 1 ≡ i = omega arith in
        rw one_less at (s.images (suc i) (omega arith) inside)
        ∙ simp (le-leb (label_in first (suc i)) k (omega (arith, p.label_low (suc i) (omega arith) inside)))
        (image_there first second i inside ∙ sym (get_or-append (images_of first second) (drop (length (images_of first second)) output₀) 0 i (omega (arith, count))))
    at i (fails e) =
        let outside : length first ≤ i = omega (arith, leb-false (suc i) (length first) e) in
        let index : length (images_of first second) + (i - length first) ≡ i = omega (arith, count) in
        s.beyond i outside
        ∙ sym
        (ap (λ (j : ℕ). get_or (images_of first second ++ drop (length (images_of first second)) output₀) j 0) (sym index)
        ∙ get_or-append-add (images_of first second) (drop (length (images_of first second)) output₀) (i - length first) 0
        ∙ get_or-drop (length (images_of first second)) output₀ (i - length first) 0
        ∙ ap (λ (j : ℕ). get_or output₀ j 0) index)

-- the images of a matching: the queues of the first map from dart 1, and of the second from where dart 1 goes
module _ (a : Given) (accepted : Accepted (map_of a)) where
  few : a.m ≤ 1020
  unfolding map_of
  few = darts_most accepted.bounds

  front : (queue : List ℕ) → length queue ≡ 1020 → length (take a.m queue) ≡ a.m
  front queue long = let f = few in length-take-le a.m queue (omega arith)

  pub images_ready : (queue images : List ℕ) {out : List ℕ} → length queue ≡ 1020 → length images ≡ 1020 → take a.m queue ≡ labelling (map_of a) 1 → a.m ≤ length out → Images (take a.m queue) (take a.m images) out
  unfolding map_of
  images_ready queue images long_queue long_images order room =
      let n = labelling_numbers accepted 1 (le_refl 1, accepted.bounds.darts_least) in
      let here = front queue long_queue in
      record {
        as_long = front images long_images ∙ sym here;
        room = omega arith;
        dart_there = λ k low high. let h : k ≤ a.m = omega arith in rw (here, order) (n.dart_there k low h);
        label_of = λ k low high. let h : k ≤ a.m = omega arith in rw order (n.label_of k low h);
        label_low = λ d low high. let h : d ≤ a.m = omega arith in rw (here, order) (n.label_low d (low, h), n.label_high d);
      }

  pub images_shown : (queue images : List ℕ) (b : Given) → length queue ≡ 1020 → take a.m queue ≡ labelling (map_of a) 1 → a.m ≡ b.m → take b.m images ≡ labelling (map_of b) (image_of_first (map_of a) (map_of b)) →
      images_of (take a.m queue) (take a.m images) ≡ shown (map_of a) (map_of b)
  unfolding shown by_labels map_of images_of
  images_shown queue images b long_queue order same whole =
      let there : take a.m images ≡ labelling (map_of b) (image_of_first (map_of a) (map_of b)) = ap (λ (k : ℕ). take k images) same ∙ whole in
      rw (front queue long_queue, there, order) refl
