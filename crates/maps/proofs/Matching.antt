-- The laws of `specs/Matching.antt`: matchings compose and turn round, and acceptance passes along one (theorem 7).
--     stands                        a number is 0, a dart, or past the darts
--     image_most, image_zero, image_same, image_dart, onto_all
--                                   f on the darts and 0: it goes into them, is 0 at 0 alone, tells them apart, and meets each
--     kept, kept_all                f(βi(d)) = β'i(f(d)) for every d, and for β0 too
--     open_carried, path_carried, accepted_carried
--                                   what has a matching from an open map is one, has its paths, and is accepted if it is
--     Matches, matching_by          a function of the darts that is a matching, and the list of its images
--     matching_composed, matching_unmoved, matching_turned
--                                   a matching after another, the one that moves nothing, and one turned round
--     images_only                   matchings with the same images are the same list
-- Assumes nothing.
use Prim.Native.Nat.{ℕ, zero, suc, ◌+◌, ◌≤◌, ◌<◌}
use mathlib.Core.Path.{◌≡◌, refl, sym, ap, ◌∙◌}
use mathlib.Core.List.{List, map}
use lib.Seq.{ext_get_or}
use lib.Dec.{eqb, leb, ltb}
use lib.ListN.{length, length-map, get_or-map}
use native.Mathlib.Omega.{arith}
use native.Mathlib.Nat.{le_refl}
use borrow.Author.Tests.{eq-eqb, ne_eqb, ltb-true, ltb-false, leb-true, leb-false}
use Rattle.maps.specs.Least.{nth, up_to, least}
use Rattle.maps.specs.Map.{Map, IsDart, sew, back}
use Rattle.maps.specs.Accepted.{InBounds, OpenMap, Path, here, on, Connected, Accepted}
use Rattle.maps.specs.Matching.{Matching}
use Rattle.maps.proofs.Least.{nth-suc, nth-zero, nth_past, nth-map-up_to, nth-up_to, length-up_to}
use Rattle.maps.proofs.Least.{Tested, passes, fails, tested, least_is, none_least, least_le}
use Rattle.maps.proofs.Accepted.{all_reached}
use Rattle.maps.proofs.Map.{sew_zero, sew_outside, sew_high, sew_back, sewn_dart, back_forth, forth_back}

-- where a number stands: it is 0, a dart, or past the darts
pub data Stands (M : Map) (d : ℕ) : Type 0 where
  nothing : d ≡ 0 → Stands M d
  dart : IsDart M d → Stands M d
  past : M.darts < d → Stands M d

pub stands : (M : Map) (d : ℕ) → Stands M d
stands M d = at (tested (leb 1 d)) (tested (leb d M.darts))
  where
    at : Tested (leb 1 d) → Tested (leb d M.darts) → Stands M d
    at (passes low) (passes high) = dart (leb-true 1 d low, leb-true d M.darts high)
    at (passes low) (fails high) = past (leb-false d M.darts high)
    at (fails low) t = nothing (omega (arith, leb-false 1 d low))

module _ {M M' : Map} {f : List ℕ} (m : Matching M M' f) where
  image_nothing : (d : ℕ) → d ≡ 0 → nth f d ≡ 0
  image_nothing d e = rw e (nth-zero f)

  image_past : (d : ℕ) → M.darts < d → nth f d ≡ 0
  image_past d h = nth_past f d (rw m.long h)

  pub image_most : (d : ℕ) → nth f d ≤ M'.darts
  image_most d = at (stands M d)
    where
      at : Stands M d → nth f d ≤ M'.darts
      at (nothing e) = omega (arith, image_nothing d e)
      at (dart h) = (m.to_darts d h).1
      at (past h) = omega (arith, image_past d h)

  -- only 0 and what is past the darts has no image
  pub image_zero : (d : ℕ) → d ≤ M.darts → nth f d ≡ 0 → d ≡ 0
  image_zero d most is = at (stands M d)
    where
      at : Stands M d → d ≡ 0
      at (nothing e) = e
      at (dart h) = absurd (omega (arith, (m.to_darts d h).0))
      at (past h) = absurd (omega arith)

  -- f takes no two of the darts and 0 to one
  pub image_same : (d e : ℕ) → d ≤ M.darts → e ≤ M.darts → nth f d ≡ nth f e → d ≡ e
  image_same d e d-most e-most is = at (stands M d) (stands M e)
    where
      at : Stands M d → Stands M e → d ≡ e
      at (nothing z) t = z ∙ sym (image_zero e e-most (sym is ∙ image_nothing d z))
      at (dart h) (nothing z) = image_zero d d-most (is ∙ image_nothing e z) ∙ sym z
      at (dart h) (dart k) = m.one_to_one d e h k is
      at (dart h) (past k) = absurd (omega arith)
      at (past h) t = absurd (omega arith)

  -- f(βi(d)) = β'i(f(d)) for every d, not for darts alone
  pub kept : (i d : ℕ) → 1 ≤ i → nth f (sew M i d) ≡ sew M' i (nth f d)
  kept i d low = at (stands M d)
    where
      unsewn : sew M i d ≡ 0 → nth f d ≡ 0 → nth f (sew M i d) ≡ sew M' i (nth f d)
      unsewn s z = rw (s, z, sew_zero M' i 0) (nth-zero f)

      at : Stands M d → nth f (sew M i d) ≡ sew M' i (nth f d)
      at (nothing e) = unsewn (rw e (sew_zero M i d)) (image_nothing d e)
      at (dart h) = m.keeps i d low h
      at (past h) = unsewn (sew_outside M i d h) (image_past d h)

  -- what is up to m is an image of what is up to m
  pub onto_all : (e : ℕ) → e ≤ M'.darts → (d : ℕ) × (d ≤ M.darts) × (nth f d ≡ e)
  onto_all e most = at (stands M' e)
    where
      at : Stands M' e → (d : ℕ) × (d ≤ M.darts) × (nth f d ≡ e)
      at (nothing z) = (0, omega arith, nth-zero f ∙ sym z)
      at (dart h) = let o = m.onto e h in (o.0, o.1.1, o.2)
      at (past h) = absurd (omega arith)

  -- what has an image is a dart
  pub image_dart : (d : ℕ) {e : ℕ} → nth f d ≡ e → 0 < e → IsDart M d
  image_dart d is pos = at (stands M d)
    where
      at : Stands M d → IsDart M d
      at (nothing z) = absurd (omega (arith, image_nothing d z))
      at (dart h) = h
      at (past h) = absurd (omega (arith, image_past d h))

  -- β'i of an image
  sew_image : (i d : ℕ) {e : ℕ} → 1 ≤ i → nth f d ≡ e → nth f (sew M i d) ≡ sew M' i e
  sew_image i d low is = kept i d low ∙ ap (sew M' i) is

  sewn_image : (i e : ℕ) → 0 < sew M' i e → (d : ℕ) × (d ≤ M.darts) × (nth f d ≡ e)
  sewn_image i e pos = onto_all e (sewn_dart M' i e pos).1

module _ {M M' : Map} {f : List ℕ} (m : Matching M M' f) (o : OpenMap M) where
  to_darts_carried : (i e : ℕ) → sew M' i e ≤ M'.darts
  unfolding back
  to_darts_carried i e = at i (stands M' e)
    where
      at : (i : ℕ) → Stands M' e → sew M' i e ≤ M'.darts
      at i (nothing z) = rw (z, sew_zero M' i 0) (omega arith)
      at i (past h) = rw (sew_outside M' i e h) (omega arith)
      at zero (dart h) = rw (sew_back M' e h) (least_le _ M'.darts)
      at (suc i) (dart h) =
          let b = onto_all m e h.1 in
          rw (← b.2, ← kept m (suc i) b.0 (omega arith)) (image_most m (sew M (suc i) b.0))

  one_to_one_carried : (d e : ℕ) → 0 < sew M' 1 d → sew M' 1 d ≡ sew M' 1 e → d ≡ e
  one_to_one_carried d e pos is =
      let c = sewn_image m 1 d pos in
      let b = sewn_image m 1 e (rw is at pos) in
      let c-sewn = sew_image m 1 c.0 (le_refl 1) c.2 in
      let b-sewn = sew_image m 1 b.0 (le_refl 1) b.2 in
      let same = image_same m _ _ (o.to_darts 1 c.0) (o.to_darts 1 b.0) (c-sewn ∙ is ∙ sym b-sewn) in
      sym c.2 ∙ ap (nth f) (o.one_to_one c.0 b.0 (image_dart m _ c-sewn pos).0 same) ∙ b.2

  own_reverse_carried : (i e : ℕ) → 2 ≤ i → 0 < sew M' i e → sew M' i (sew M' i e) ≡ e
  own_reverse_carried i e two pos =
      let d = sewn_image m i e pos in
      let once = sew_image m i d.0 (omega arith) d.2 in
      sym (sew_image m i _ (omega arith) once) ∙ ap (nth f) (o.own_reverse i d.0 two (image_dart m _ once pos).0) ∙ d.2

  compositions_carried : (i j d e : ℕ) → 1 ≤ i → i + 2 ≤ j → sew M' i (sew M' j d) ≡ e → 0 < e → sew M' i (sew M' j e) ≡ d
  compositions_carried i j d e low apart is pos =
      let between = (sewn_dart M' i (sew M' j d) (rw is pos)).0 in
      let c = sewn_image m j d between in
      let there = sew_image m i _ low (sew_image m j c.0 (omega arith) c.2) ∙ is in
      let answer = o.compositions i j c.0 _ low apart refl (image_dart m _ there pos).0 in
      sym (sew_image m i _ low (sew_image m j _ (omega arith) there)) ∙ ap (nth f) answer ∙ c.2

  -- 7: what has a matching from an open map is an open map
  pub open_carried : OpenMap M'
  open_carried =
      record {
        to_darts = to_darts_carried;
        one_to_one = one_to_one_carried;
        own_reverse = own_reverse_carried;
        compositions = compositions_carried;
      }

module _ {M M' : Map} {f : List ℕ} (m : Matching M M' f) (o : OpenMap M) (some_dim : 1 ≤ M.dim) where
  some_dim' : 1 ≤ M'.dim
  some_dim' = rw m.same_dim at some_dim

  -- β'0 undoes f of β1
  back_image : (d e : ℕ) → sew M 1 d ≡ e → 0 < nth f e → sew M' 0 (nth f e) ≡ nth f d
  back_image d e is pos = forth_back M' some_dim' (open_carried m o) (nth f d) (nth f e) (sym (kept m 1 d (le_refl 1)) ∙ ap (nth f) is) pos

  kept_back : (d : ℕ) → nth f (sew M 0 d) ≡ sew M' 0 (nth f d)
  kept_back d = at (tested (ltb 0 (sew M 0 d))) (tested (ltb 0 (sew M' 0 (nth f d))))
    where
      at : Tested (ltb 0 (sew M 0 d)) → Tested (ltb 0 (sew M' 0 (nth f d))) → nth f (sew M 0 d) ≡ sew M' 0 (nth f d)
      at (passes p) t =
          let pos = ltb-true 0 (sew M 0 d) p in
          sym (back_image (sew M 0 d) d (back_forth M some_dim d _ refl pos) (m.to_darts d (sewn_dart M 0 d pos)).0)
      at (fails z) (passes p) =
          let pos = ltb-true 0 (sew M' 0 (nth f d)) p in
          let c = onto_all m (sew M' 0 (nth f d)) ((open_carried m o).to_darts 0 (nth f d)) in
          let d-dart = image_dart m d refl (sewn_dart M' 0 (nth f d) pos).0 in
          let forth = sew_image m 1 c.0 (le_refl 1) c.2 ∙ back_forth M' some_dim' (nth f d) _ refl pos in
          let same = image_same m _ d (o.to_darts 1 c.0) d-dart.1 forth in
          ap (nth f) (forth_back M some_dim o c.0 d same d-dart.0) ∙ c.2
      at (fails z) (fails z') =
          let none : sew M 0 d ≡ 0 = omega (arith, ltb-false 0 (sew M 0 d) z) in
          let none' : sew M' 0 (nth f d) ≡ 0 = omega (arith, ltb-false 0 (sew M' 0 (nth f d)) z') in
          rw (none, none') (nth-zero f)

  -- f(βi(d)) = β'i(f(d)) for β0 as well
  pub kept_all : (i d : ℕ) → nth f (sew M i d) ≡ sew M' i (nth f d)
  kept_all zero d = kept_back d
  kept_all (suc i) d = kept m (suc i) d (omega arith)

  pub path_carried : {d e : ℕ} → Path M d e → Path M' (nth f d) (nth f e)
  path_carried here = here
  path_carried (on {e = d} {f = e} i p is pos) =
      on i (path_carried p) (sym (kept_all i d) ∙ ap (nth f) is) (m.to_darts e (pos, rw is at (o.to_darts i d))).0

module _ {M M' : Map} {f : List ℕ} (m : Matching M M' f) (a : Accepted M) where
  bounds_carried : InBounds M'.dim M'.darts
  bounds_carried =
      record {
        dim_least = rw m.same_dim at a.bounds.dim_least;
        dim_most = rw m.same_dim at a.bounds.dim_most;
        darts_least = rw m.same_darts at a.bounds.darts_least;
        table_most = rw (m.same_dim, m.same_darts) at a.bounds.table_most;
      }

  connected_carried : Connected M'
  unfolding Connected
  connected_carried e h =
      let d = m.onto e h in
      let c = m.onto 1 (le_refl 1, bounds_carried.darts_least) in
      rw (← c.2, ← d.2) (path_carried m a.open_map a.bounds.dim_least (all_reached a c.1 d.1))

  -- 7: acceptance passes along a matching
  pub accepted_carried : Accepted M'
  accepted_carried = record { bounds = bounds_carried; open_map = open_carried m a.open_map; connected = connected_carried }

-- F, a function of the darts and 0, is a matching of M with M'
pub record Matches (M M' : Map) (F : ℕ → ℕ) : Type 0 where
  pub same_dim : M.dim ≡ M'.dim
  pub same_darts : M.darts ≡ M'.darts
  pub none : F 0 ≡ 0
  pub to_darts : (d : ℕ) → IsDart M d → IsDart M' (F d)
  pub one_to_one : (d e : ℕ) → IsDart M d → IsDart M e → F d ≡ F e → d ≡ e
  pub onto : (e : ℕ) → IsDart M' e → (d : ℕ) × IsDart M d × (F d ≡ e)
  pub keeps : (i d : ℕ) → 1 ≤ i → i ≤ M.dim → IsDart M d → F (sew M i d) ≡ sew M' i (F d)

pub nth_images : (M : Map) (F : ℕ → ℕ) → F 0 ≡ 0 → (d : ℕ) → d ≤ M.darts → nth (map F (up_to M.darts)) d ≡ F d
nth_images M F none zero most = nth-zero _ ∙ sym none
nth_images M F none (suc d) most = nth-map-up_to F M.darts (suc d) (omega arith) most

-- the list of its images is a matching
pub matching_by : {M M' : Map} {F : ℕ → ℕ} → OpenMap M → Matches M M' F → Matching M M' (map F (up_to M.darts))
matching_by {M} {M'} {F} o w =
    record {
      same_dim = w.same_dim;
      same_darts = w.same_darts;
      long = length-map (up_to M.darts) F ∙ length-up_to M.darts;
      to_darts = λ d h. rw (is d h.1) (w.to_darts d h);
      one_to_one = λ d e h k same. w.one_to_one d e h k (sym (is d h.1) ∙ same ∙ is e k.1);
      onto = λ e h. let d = w.onto e h in (d.0, d.1, is d.0 d.1.1 ∙ d.2);
      keeps = λ i d low h. is (sew M i d) (o.to_darts i d) ∙ keep i d low h ∙ ap (sew M' i) (sym (is d h.1));
    }
  where
    is : (d : ℕ) → d ≤ M.darts → nth (map F (up_to M.darts)) d ≡ F d
    is = nth_images M F w.none

    keep : (i d : ℕ) → 1 ≤ i → IsDart M d → F (sew M i d) ≡ sew M' i (F d)
    keep i d low h = at (tested (leb i M.dim))
      where
        at : Tested (leb i M.dim) → F (sew M i d) ≡ sew M' i (F d)
        at (passes high) = w.keeps i d low (leb-true i M.dim high) h
        at (fails high) =
            let above = leb-false i M.dim high in
            rw (sew_high M i d above, sew_high M' i (F d) (rw w.same_dim at above)) w.none

-- the images of f's images by g
unfoldable pub composed : List ℕ → List ℕ → List ℕ
composed f g = map (nth g) f

pub nth_composed : (f g : List ℕ) (d : ℕ) → nth (composed f g) d ≡ nth g (nth f d)
unfolding nth composed
nth_composed f g zero = refl
nth_composed f g (suc d) = get_or-map (nth g) f d 0

-- the dart that f takes to e, or 0 where there is none
unfoldable pub taken : List ℕ → ℕ → ℕ
taken f e = least (length f) (λ d. eqb (nth f d) e)

-- the darts that f takes to 1, 2, .. m
unfoldable pub turned : List ℕ → List ℕ
turned f = map (taken f) (up_to (length f))

module _ {M M' M'' : Map} {f g : List ℕ} (m : Matching M M' f) (n : Matching M' M'' g) where
  -- 7: a matching after a matching is one
  pub matching_composed : Matching M M'' (composed f g)
  matching_composed =
      record {
        same_dim = m.same_dim ∙ n.same_dim;
        same_darts = m.same_darts ∙ n.same_darts;
        long = unfold composed in (length-map f (nth g) ∙ m.long);
        to_darts = λ d h. rw nth_composed (n.to_darts (nth f d) (m.to_darts d h));
        one_to_one = λ d e h k same.
            m.one_to_one d e h k
            (n.one_to_one (nth f d) (nth f e) (m.to_darts d h) (m.to_darts e k) (sym (nth_composed f g d) ∙ same ∙ nth_composed f g e));
        onto = λ e h.
            let c = n.onto e h in
            let d = m.onto c.0 c.1 in
            (d.0, d.1, nth_composed f g d.0 ∙ ap (nth g) d.2 ∙ c.2);
        keeps = λ i d low h. rw (nth_composed f g (sew M i d), nth_composed f g d, kept m i d low) (kept n i (nth f d) low);
      }

-- 7: what moves nothing is a matching
pub matching_unmoved : {M : Map} → OpenMap M → Matching M M (up_to M.darts)
matching_unmoved {M} o =
    record {
      same_dim = refl;
      same_darts = refl;
      long = length-up_to M.darts;
      to_darts = λ d h. rw (is d h.1) h;
      one_to_one = λ d e h k same. sym (is d h.1) ∙ same ∙ is e k.1;
      onto = λ e h. (e, h, is e h.1);
      keeps = λ i d low h. is (sew M i d) (o.to_darts i d) ∙ ap (sew M i) (sym (is d h.1));
    }
  where
    is : (d : ℕ) → d ≤ M.darts → nth (up_to M.darts) d ≡ d
    is zero most = nth-zero _
    is (suc d) most = nth-up_to M.darts (suc d) (omega arith) most

module _ {M M' : Map} {f : List ℕ} (m : Matching M M' f) where
  taken_none : taken f 0 ≡ 0
  unfolding taken
  taken_none = none_least _ (length f) (λ d low high. ne_eqb (nth f d) 0 (λ z. absurd (omega (arith, (m.to_darts d (low, rw m.long at high)).0))))

  pub taken_image : (d : ℕ) → d ≤ M.darts → taken f (nth f d) ≡ d
  unfolding taken
  taken_image d most = at (stands M d)
    where
      at : Stands M d → least (length f) (λ c. eqb (nth f c) (nth f d)) ≡ d
      at (nothing z) = rw (z, nth-zero f) taken_none
      at (past h) = absurd (omega arith)
      at (dart h) =
          least_is _ (length f)
          (record {
            low = h.0;
            high = rw m.long h.1;
            hit = eq-eqb (nth f d) (nth f d) refl;
            before = λ c low high.
                ne_eqb (nth f c) (nth f d) (λ same. let z : c ≡ d = m.one_to_one c d (low, omega (arith, h.1)) h same in absurd (omega arith));
          })

  -- 7: a matching of an open map, turned round, is one
  pub matching_turned : OpenMap M → Matching M' M (turned f)
  unfolding turned
  matching_turned o = rw (m.long ∙ m.same_darts) (matching_by (open_carried m o) matches)
    where
      -- e is f of one dart, and that is the one found
      back : (e : ℕ) → IsDart M' e → (d : ℕ) × IsDart M d × (nth f d ≡ e) × (taken f e ≡ d)
      back e h =
          let d = m.onto e h in
          (d.0, d.1, d.2, ap (taken f) (sym d.2) ∙ taken_image d.0 d.1.1)

      there : (e : ℕ) → IsDart M' e → nth f (taken f e) ≡ e
      there e h = let d = back e h in ap (nth f) d.3 ∙ d.2

      keep : (i e : ℕ) → 1 ≤ i → IsDart M' e → taken f (sew M' i e) ≡ sew M i (taken f e)
      keep i e low h =
          let d = back e h in
          ap (taken f) (sym (sew_image m i d.0 low d.2)) ∙ taken_image (sew M i d.0) (o.to_darts i d.0) ∙ ap (sew M i) (sym d.3)

      matches : Matches M' M (taken f)
      matches =
          record {
            same_dim = sym m.same_dim;
            same_darts = sym m.same_darts;
            none = taken_none;
            to_darts = λ e h. let d = back e h in rw d.3 d.1;
            one_to_one = λ d e h k same. sym (there d h) ∙ ap (nth f) same ∙ there e k;
            onto = λ d h. (nth f d, m.to_darts d h, taken_image d h.1);
            keeps = λ i e low high h. keep i e low h;
          }

  -- the matching turned round takes images back
  pub turned_image : (d : ℕ) → IsDart M d → nth (turned f) (nth f d) ≡ d
  unfolding turned
  turned_image d h =
      rw m.long (nth-map-up_to (taken f) M.darts (nth f d) (m.to_darts d h).0 (rw m.same_darts (m.to_darts d h).1)
      ∙ taken_image d h.1)

-- matchings with the same images are the same list
pub images_only : {M M' : Map} {f g : List ℕ} → Matching M M' f → Matching M M' g → ((d : ℕ) → IsDart M d → nth f d ≡ nth g d) → f ≡ g
images_only {f = f} {g = g} m n same =
    ext_get_or 0 f g (m.long ∙ sym n.long)
    (λ i h. sym (nth-suc f i) ∙ same (suc i) (omega arith, rw m.long at h) ∙ nth-suc g i)
