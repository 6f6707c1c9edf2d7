-- Laws for the functions inside, and of the definitions in `specs/Inside.antt`.
--     Users f k used     at index e − 1 stands whether one of the first k darts has the value e in the list f
--     users_start, users_given
--                        before any dart is passed, and once one more is
--     bad_read           the test of `bad_image`, by what is read
--     good_images        what it leaves: every value is a dart
--     parts_read         the test of `parts`, by the rows of a dart and of its image
--     row_within, row_read
--                        a dart's row in a table
--     checked            a table that the plain check accepts is in shape
--     images_long, images_bad, images_parted, images_kept
--                        `judge_images` by what is found
--     answer_first, answer_second, answer_unlike, answer_alike
--                        `judge_answer` by what is found
-- Assumes nothing.
use Prim.Native.Nat.{ℕ, zero, suc, ◌+◌, ◌-◌, ◌*◌, ◌≤◌, ◌<◌}
use mathlib.Core.Path.{◌≡◌, refl, sym, ap, ◌∙◌}
use mathlib.Core.Bool.{Bool, true, false, not, ◌||◌, ◌&&◌, or-true, or-false}
use mathlib.Core.List.{List}
use mathlib.Core.Logic.{◌⊎◌, inl, inr}
use native.Mathlib.Numerals.{add-one}
use native.Mathlib.Omega.{arith}
use borrow.Author.Tests.{eq-eqb, ne_eqb, eqb-true, eqb-false, lt-ltb, ltb-false}
use lib.Dec.{eqb, ltb}
use lib.ListN.{length, get_or, set, replicate, length-set, length-replicate, get_or-replicate, take, drop}
use lib.Seq.{get_or-set_same, get_or-set_other}
use Rattle.std.specs.Prelude.{Some, None}
use Rattle.std.specs.List.{list_any, zip}
use Rattle.std.proofs.Math.Seq.{take-length}
use Rattle.std.proofs.lemmas.List.{get_or-take, get_or-drop}
use Rattle.std.proofs.lemmas.List.Folds.{list_any_more}
use Rattle.std.proofs.lemmas.Slice.Zip.{length-zip, get_or-zip}
use Rattle.maps.specs.Least.{nth, least, some, found_at}
use Rattle.maps.specs.Map.{Map, sew}
use Rattle.maps.specs.Given.{Given, map_of, Shaped}
use Rattle.maps.specs.Verdict.{accepted, refused, accepts, unless, at_least, of_second}
use Rattle.maps.proofs.Least.{nth-zero, nth_at, Tested, passes, fails, tested, true_not_false, least_kept, least_hit, least_miss, least_none, Sought, nowhere, somewhere, sought, some_is, none_is}
use Rattle.maps.proofs.Given.{in_row, row_sew}
use Rattle.maps.proofs.Verdict.{in_order_on, in_order_last, in_order_refused, in_order_first, unless_passed, unless_refused, at_least-some, at_least_none}
use Rattle.labels.specs.Judging.{check_answer}
use Rattle.labels.proofs.Judging.{table_clear}
use Rattle.words.specs.Match.{judge_pair}
use Rattle.matches.specs.Judge.{bad_image, parts, BadImage, judge_answer}
use Rattle.matches.specs.Inside.{not_kept, judge_images}
use Rattle.matches.specs.Shown.{shown_list_refusal}
use Rattle.matches.specs.declared.ListRefusal.{ListRefusal}
use Rattle.matches.proofs.Shown.{list_refuses, second_accepted}
use Rattle.matches.proofs.Judge.{bad, bad_says, parted}

-- one number more
some_more : (k : ℕ) (p : ℕ → Bool) → some (suc k) p ≡ (some k p || p (suc k))
unfolding some
some_more k p = at (sought p k) (tested (p (suc k)))
  where
    at : Sought p k → Tested (p (suc k)) → ltb 0 (least (suc k) p) ≡ (ltb 0 (least k p) || p (suc k))
    at (nowhere none m) (passes hit) = rw (least_hit p k none hit, none, hit) (lt-ltb 0 (suc k) (omega arith))
    at (nowhere none m) (fails miss) = rw (least_miss p k none miss, none, miss) refl
    at (somewhere d is f) t =
        let there : 0 < least k p = rw is f.low in
        rw (least_kept p k there, lt-ltb 0 (least k p) there) refl

-- what stands at a place, 0 or another
pub ruleset read_at = (nth-zero, nth_at)

-- at index e − 1 stands whether one of the first k darts has the value e
pub record Users (f : List ℕ) (k : ℕ) (used : List Bool) : Type 0 where
  pub long : length used ≡ 1020
  pub stands : (e : ℕ) → 1 ≤ e → e ≤ 1020 → get_or used (e - 1) false ≡ some k (λ d. eqb (nth f d) e)

pub users_start : (f : List ℕ) → Users f 0 (replicate 1020 false)
unfolding some least
users_start f =
    record {
      long = length-replicate {A = Bool} 1020 false;
      stands = λ e low high. get_or-replicate {A = Bool} 1020 (e - 1) false false (omega arith);
    }

pub users_given : {f : List ℕ} {k : ℕ} {used : List Bool} → Users f k used → (x : ℕ) → x ≡ nth f (k + 1) → 1 ≤ x → x ≤ 1020
    → Users f (k + 1) (set used (x - 1) true)
users_given {f} {k} {used} u x is low high = record { long = length-set used (x - 1) true ∙ u.long; stands = after }
  where
    after : (e : ℕ) → 1 ≤ e → e ≤ 1020 → get_or (set used (x - 1) true) (e - 1) false ≡ some (k + 1) (λ d. eqb (nth f d) e)
    after e elow ehigh = rw (add-one k, some_more) (at (tested (eqb x e)))
      where
        here : x ≡ nth f (suc k)
        here = is ∙ ap (nth f) (add-one k)

        at : Tested (eqb x e) → get_or (set used (x - 1) true) (e - 1) false ≡ (some k (λ d. eqb (nth f d) e) || eqb (nth f (suc k)) e)
        at (passes h) =
            let same : x ≡ e = eqb-true x e h in
            rw (← same, ← here) (rw (eq-eqb x x refl) (get_or-set_same used (x - 1) true false (omega (arith, u.long)) ∙ sym (or-true _)))
        at (fails h) =
            let other : x ≡ e → ⊥ = eqb-false x e h in
            rw (← here, h) (get_or-set_other used (x - 1) (e - 1) true false (λ z. other (omega arith)) ∙ u.stands e elow ehigh ∙ sym (or-false _))

-- the test of `bad_image` at a dart, by what is read
pub bad_read : {f : List ℕ} {k : ℕ} {used : List Bool} → Users f k used → (m x : ℕ) → x ≡ nth f (k + 1) → m ≤ 1020
    → bad m f (k + 1) ≡ (eqb x 0 || ltb m x || get_or used (x - 1) false)
bad_read {f} {k} {used} u m x is few = at (tested (eqb x 0)) (tested (ltb m x))
  where
    less : k + 1 - 1 ≡ k
    less = omega arith

    read : bad m f (k + 1) ≡ (eqb x 0 || ltb m x || some k (λ e. eqb (nth f e) x))
    read = rw (less, ← is) refl

    at : Tested (eqb x 0) → Tested (ltb m x) → bad m f (k + 1) ≡ (eqb x 0 || ltb m x || get_or used (x - 1) false)
    at (passes z) o = read ∙ simp z
    at (fails z) (passes o) = read ∙ simp (z, o)
    at (fails z) (fails o) = read ∙ rw (u.stands x (let some = eqb-false x 0 z in omega arith) (omega (arith, ltb-false m x o))) refl

-- where no dart is bad, every value is a dart
pub good_images : (m : ℕ) (f : List ℕ) → bad_image m f ≡ 0 → (d : ℕ) → 1 ≤ d → d ≤ m → (1 ≤ nth f d) × (nth f d ≤ m)
unfolding bad_image
good_images m f none d low high =
    let good : ¬ BadImage m f d = λ h. true_not_false ((bad_says m f d).1 h) (least_none (bad m f) m none d low high) in
    let some_dart : ¬ (nth f d ≡ 0) = λ z. good (inl z) in
    let not-over : ¬ (m < nth f d) = λ over. good (inr (inl over)) in
    (omega arith, omega arith)

-- a test of the items of a list, by their places
some_list : {X : Type 0} (test : X → Bool) (xs : List X) (d : X) (p : ℕ → Bool) → ((i : ℕ) → i < length xs → test (get_or xs i d) ≡ p (suc i))
    → list_any test xs ≡ some (length xs) p
unfolding some least
some_list {X} test xs d p same = ap (list_any test) (sym (take-length xs)) ∙ so_far (length xs) (omega arith)
  where
    so_far : (k : ℕ) → k ≤ length xs → list_any test (take k xs) ≡ some k p
    so_far zero within = refl
    so_far (suc k) within =
        ap (λ (j : ℕ). list_any test (take j xs)) (sym (add-one k))
        ∙ list_any_more test xs k d within
        ∙ rw (so_far k (omega arith), same k within) (sym (some_more k p))

-- the test of `parts`, by the rows of a dart and of its image
pub parts_read : (M M' : Map) (f row row2 : List ℕ) (d : ℕ) → length row ≡ M.dim → length row2 ≡ M.dim
    → ((i : ℕ) → i < M.dim → get_or row i 0 ≡ sew M (i + 1) d)
    → ((i : ℕ) → i < M.dim → get_or row2 i 0 ≡ sew M' (i + 1) (nth f d))
    → list_any (λ (p : ℕ × ℕ). not (eqb (nth f p.0) p.1)) (zip row row2) ≡ parts M M' f d
unfolding parts
parts_read M M' f row row2 d long long2 sewn sewn2 =
    some_list (λ (p : ℕ × ℕ). not (eqb (nth f p.0) p.1)) (zip row row2) (0, 0) (parted M M' f d) same ∙ ap (λ (k : ℕ). some k (parted M M' f d)) dim
  where
    dim : length (zip row row2) ≡ M.dim
    dim = omega (arith, length-zip row row2)

    same : (i : ℕ) → i < length (zip row row2) → not (eqb (nth f (get_or (zip row row2) i (0, 0)).0) (get_or (zip row row2) i (0, 0)).1) ≡ parted M M' f d (suc i)
    same i below =
        rw (get_or-zip row row2 i (0, 0) (omega (arith, dim)) (omega (arith, dim)), sewn i (omega (arith, dim)), sewn2 i (omega (arith, dim)), add-one i) refl

-- a dart's row lies in the table, and is short; what is read there is what the dart is sewn to
module _ {g : Given} (s : Shaped g) (d : ℕ) (dart : (1 ≤ d) × (d ≤ g.m)) where
  pub row_within : ((d - 1) * g.n + g.n ≤ length g.table) × (length g.table ≤ 1020)
  unfolding map_of
  row_within =
      let some_sewing : 1 ≤ g.n = s.bounds.dim_least in
      let last = in_row s d (g.n - 1) dart (omega arith) in
      (omega arith, omega (arith, s.long, s.bounds.table_most))

  pub row_read : (i : ℕ) → i < g.n → get_or (take g.n (drop ((d - 1) * g.n) g.table)) i 0 ≡ sew (map_of g) (i + 1) d
  unfolding map_of
  row_read i below = get_or-take g.n _ i 0 below ∙ get_or-drop ((d - 1) * g.n) g.table i 0 ∙ row_sew s d i dart below ∙ ap (λ (j : ℕ). sew (map_of g) j d) (sym (add-one i))

-- a table that the plain check accepts is in shape
pub checked : (g : Given) → accepted ≡ check_answer g → Shaped g
unfolding check_answer
checked g e = (table_clear _ g (sym e)).1

module _ (a b : Given) (f : List ℕ) where
  pub images_long : (length f ≡ a.m → ⊥) → judge_images a b f ≡ refused 11 0
  unfolding judge_images
  images_long other = in_order_first _ _ 11 0 (omega arith) (unless_refused _ 11 0 (ne_eqb (length f) a.m other))

  module _ (long : length f ≡ a.m) where
    long_passed : unless (eqb (length f) a.m) 11 0 ≡ accepted
    long_passed = unless_passed _ 11 0 (eq-eqb (length f) a.m long)

    pub images_bad : (p : ℕ) → Some p ≡ found_at (bad_image (length f) f) → judge_images a b f ≡ refused 11 p
    unfolding judge_images
    images_bad p first =
        let is = some_is first in
        in_order_on _ _ long_passed ∙ in_order_first _ _ 11 p (omega arith) (rw (← long, is.0) (at_least-some 11 p (λ z. omega (arith, is.1))))

    module _ (none : None ≡ found_at (bad_image (length f) f)) where
      bad_passed : at_least 11 (bad_image a.m f) ≡ accepted
      bad_passed = at_least_none 11 _ (rw (← long) (none_is none))

      pub images_parted : (q : ℕ) → Some q ≡ found_at (not_kept a b f) → judge_images a b f ≡ refused 12 q
      unfolding judge_images
      images_parted q first =
          let is = some_is first in
          in_order_on _ _ long_passed
          ∙ in_order_on _ _ bad_passed
          ∙ in_order_first _ _ 12 q (omega arith) (rw is.0 (at_least-some 12 q (λ z. omega (arith, is.1))))

      pub images_kept : None ≡ found_at (not_kept a b f) → judge_images a b f ≡ accepted
      unfolding judge_images
      images_kept all =
          in_order_on _ _ long_passed ∙ in_order_on _ _ bad_passed ∙ in_order_last _ (at_least_none 12 _ (none_is all))

module _ (a b : Given) (f : List ℕ) where
  pub answer_first : (r : ListRefusal) → shown_list_refusal r ≡ check_answer a → shown_list_refusal r ≡ judge_answer a b f
  unfolding judge_answer
  answer_first r is = is ∙ sym (in_order_refused _ _ (ap accepts (sym is) ∙ list_refuses r))

  module _ (first : accepted ≡ check_answer a) where
    pub answer_second : (r : ListRefusal) → shown_list_refusal r ≡ of_second (check_answer b) → shown_list_refusal r ≡ judge_answer a b f
    unfolding judge_answer
    answer_second r is = is ∙ sym (in_order_on _ _ (sym first) ∙ in_order_refused _ _ (ap accepts (sym is) ∙ list_refuses r))

    module _ (second : accepted ≡ check_answer b) where
      second_passed : of_second (check_answer b) ≡ accepted
      second_passed = ap of_second (sym second) ∙ second_accepted

      pub answer_unlike : (a.n ≡ b.n → ⊥) ⊎ ((a.n ≡ b.n) × (a.m ≡ b.m → ⊥)) → refused 10 0 ≡ judge_answer a b f
      unfolding judge_answer judge_pair
      answer_unlike other =
          sym (in_order_on _ _ (sym first) ∙ in_order_on _ _ second_passed ∙ in_order_first _ _ 10 0 (omega arith) (unless_refused _ 10 0 (at other)))
        where
          at : (a.n ≡ b.n → ⊥) ⊎ ((a.n ≡ b.n) × (a.m ≡ b.m → ⊥)) → (eqb a.n b.n && eqb a.m b.m) ≡ false
          at (inl n) = simp (ne_eqb a.n b.n n)
          at (inr (same, m)) = simp (eq-eqb a.n b.n same, ne_eqb a.m b.m m)

      pub answer_alike : a.n ≡ b.n → a.m ≡ b.m → judge_images a b f ≡ judge_answer a b f
      unfolding judge_answer judge_pair judge_images not_kept
      answer_alike same_dim same_darts =
          sym
          (in_order_on _ _ (sym first)
          ∙ in_order_on _ _ second_passed
          ∙ in_order_on _ _ (unless_passed _ 10 0 (simp (eq-eqb a.n b.n same_dim, eq-eqb a.m b.m same_darts))))
