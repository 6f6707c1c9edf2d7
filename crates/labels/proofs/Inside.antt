-- The laws of `specs/Inside.antt`: what the arrays hold as darts are met.
--     holds_length, holds_same, holds_own   the queue held: its length, another name of it, and the array's own
--     holds_new                      a dart without a label gets the next one
--     holds_meets                    what the arrays hold may meet a dart
--     meets_..                       a dart that may be met: what the arrays hold then
--     holds_blank, meets_first       blank arrays hold no dart, and may meet dart 1
--     darts_few, first_dart          of a table in shape: it has at most 1,020 darts, and dart 1
--     back_is, row_inside, row_is    β0 of a dart, and its row
--     unreached                      what has no label in the end is what is not reached
--     all_labelled                   as many labels as darts: none is without
--     cleared                        with the labels of the map's darts gone, there is none
--     first_.., next_.., served_row  while a dart is served: what it is sewn to may be met, and is one try more; till all are tried
--     Running, running_..            a labelling under way, from its start to its end
-- Assumes nothing.
use Prim.Native.Nat.{ℕ, suc, ◌+◌, ◌-◌, ◌*◌, ◌≤◌, ◌<◌}
use mathlib.Core.Path.{◌≡◌, refl, sym, ap, ◌∙◌}
use mathlib.Core.List.{List, [], ◌∷◌, ◌++◌}
use mathlib.Core.Logic.{⊎_elim}
use native.Mathlib.Omega.{arith}
use native.Mathlib.Nat.{pos_of_ne-zero, eq-zero-or-pos}
use native.Mathlib.Numerals.{add-one}
use borrow.Author.Tests.{ne_eqb, eqb-true, eqb-false}
use lib.Dec.{eqb}
use lib.ListN.{length, get_or, set, take, drop, replicate, length-drop, length-set, length-replicate, get_or-replicate, replicate-append-replicate}
use lib.Seq.{ext_get_or, get_or-drop, get_or-set_same, get_or-set_other, get_or-take, take-suc-set, length-take-le}
use Rattle.maps.specs.Least.{nth}
use Rattle.maps.specs.Map.{Map, IsDart, sew}
use Rattle.maps.specs.Accepted.{ToDarts}
use Rattle.maps.specs.Given.{Given, map_of, Shaped}
use Rattle.maps.specs.Answer.{backs_of}
use Rattle.maps.proofs.Least.{Tested, passes, fails, tested, nth-suc, least_cong, none_least}
use Rattle.maps.proofs.Accepted.{darts_most}
use Rattle.maps.proofs.Given.{in_row, row_sew}
use Rattle.maps.proofs.Answer.{backs_sew}
use Rattle.labels.specs.Queue.{label_in, visit, tried, serve, served, labelling}
use Rattle.labels.specs.Judging.{not_reached}
use Rattle.labels.specs.Inside.{DartsOnce, Labels, Holds, Meets, IsRow, not_labelled}
use Rattle.labels.proofs.Queue.{label_in_nil, label_in_snoc_new, label_in_snoc_other, visit_nothing, visit_old, visit_new, queue_zero, queue_room, queue_short, grown_length, tried_zero, tried_suc, tried_queue, serve_tried, served_zero, served_suc, served_grown, served_queue, served_labelling, queue_dart, labelling_queue}

module _ {labels queue : List ℕ} {given : ℕ} {q : List ℕ} (h : Holds labels queue given q) where
  pub holds_length : length q ≡ given
  holds_length = ap length (sym h.so_far) ∙ length-take-le given queue (rw h.long_queue h.few)

  pub holds_same : {q' : List ℕ} → q' ≡ q → Holds labels queue given q'
  holds_same e = rw e h

  pub holds_new : (e : ℕ) → 1 ≤ e → e ≤ 1020 → label_in q e ≡ 0 → given < 1020 → Holds (set labels (e - 1) (given + 1)) (set queue given e) (given + 1) (visit q e)
  holds_new e low high none room =
      rw (visit_new q e low none)
      (record {
        long_labels = length-set labels (e - 1) (given + 1) ∙ h.long_labels;
        long_queue = length-set queue given e ∙ h.long_queue;
        few = omega arith;
        so_far = rw (add-one given) (take-suc-set queue given e (rw h.long_queue room) ∙ ap (λ (l : List ℕ). l ++ (e ∷ [])) h.so_far);
        label = λ d dl dh. at d dl dh (tested (eqb d e));
      })
    where
      at : (d : ℕ) → 1 ≤ d → d ≤ 1020 → Tested (eqb d e) → get_or (set labels (e - 1) (given + 1)) (d - 1) 0 ≡ label_in (q ++ (e ∷ [])) d
      at d dl dh (passes same) =
          let is : d ≡ e = eqb-true d e same in
          rw is
          (get_or-set_same labels (e - 1) (given + 1) 0 (omega (arith, h.long_labels))
          ∙ sym (label_in_snoc_new q e none ∙ ap (λ (k : ℕ). k + 1) holds_length))
      at d dl dh (fails other) =
          let differ : d ≡ e → ⊥ = eqb-false d e other in
          get_or-set_other labels (e - 1) (d - 1) (given + 1) 0 (λ z. differ (omega arith))
          ∙ h.label d dl dh
          ∙ sym (label_in_snoc_other q d e differ)

  pub holds_own : Holds labels queue given (take given queue)
  holds_own = holds_same h.so_far

  -- a dart of the map may be met: one without a label finds room in the arrays
  pub holds_meets : {M : Map} → DartsOnce M q → M.darts ≤ 1020 → (e : ℕ) → e ≤ M.darts → Meets labels queue given e
  holds_meets {M} u few e high =
      record {
        holds = holds_own;
        none = rw h.so_far (queue_zero u);
        within = omega arith;
        room = λ low none.
            let free : label_in q e ≡ 0 = ap (λ (l : List ℕ). label_in l e) (sym h.so_far) ∙ none in
            omega (arith, queue_room u e (low, high) free, holds_length);
      }

-- a dart is met: 0 and a dart with a label change nothing, and any other gets the next one
module _ {labels queue : List ℕ} {given e : ℕ} (p : Meets labels queue given e) where
  pub meets_nothing : e ≡ 0 → Holds labels queue given (visit (take given queue) e)
  meets_nothing zero = holds_same p.holds (visit_nothing _ e zero)

  module _ (low : 1 ≤ e) where
    pub meets_old : (get_or labels (e - 1) 0 ≡ 0 → ⊥) → Holds labels queue given (visit (take given queue) e)
    meets_old some =
        let label = p.holds.label e low p.within in
        holds_same p.holds (visit_old _ e (pos_of_ne-zero (λ z. some (label ∙ z))))

    meets_free : get_or labels (e - 1) 0 ≡ 0 → label_in (take given queue) e ≡ 0
    meets_free none = sym (p.holds.label e low p.within) ∙ none

    meets_room : get_or labels (e - 1) 0 ≡ 0 → given < 1020
    meets_room none = p.room low (meets_free none)

    pub meets_new : get_or labels (e - 1) 0 ≡ 0 → Holds (set labels (e - 1) (given + 1)) (set queue given e) (given + 1) (visit (take given queue) e)
    meets_new none = holds_new p.holds e low p.within (meets_free none) (meets_room none)

pub holds_blank : (queue : List ℕ) → length queue ≡ 1020 → Holds (replicate 1020 0) queue 0 []
holds_blank queue long =
    record {
      long_labels = length-replicate {A = ℕ} 1020 0;
      long_queue = long;
      few = omega arith;
      so_far = refl;
      label = λ d dl dh. get_or-replicate {A = ℕ} 1020 (d - 1) 0 0 (omega arith) ∙ sym (label_in_nil d);
    }

pub meets_first : (queue : List ℕ) → length queue ≡ 1020 → Meets (replicate 1020 0) queue 0 1
meets_first queue long =
    record { holds = holds_blank queue long; none = label_in_nil 0; within = omega arith; room = λ low none. omega arith }

-- what is read of a table in shape, and found
module _ {g : Given} (shaped : Shaped g) where
  pub darts_few : (map_of g).darts ≤ 1020
  unfolding map_of
  darts_few = darts_most shaped.bounds

  pub first_dart : IsDart (map_of g) 1
  unfolding map_of
  first_dart = (omega arith, shaped.bounds.darts_least)

  module _ {d : ℕ} (dart : IsDart (map_of g) d) where
    pub back_is : {back : List ℕ} → back ≡ backs_of (map_of g) → get_or back (d - 1) 0 ≡ sew (map_of g) 0 d
    back_is is = ap (λ (l : List ℕ). get_or l (d - 1) 0) is ∙ backs_sew (map_of g) d dart (omega (arith, darts_few))

    pub row_inside : (d - 1) * g.n + g.n ≤ length g.table
    row_inside = let last = in_row shaped d (g.n - 1) dart (omega (arith, shaped.bounds.dim_least)) in omega (arith, shaped.bounds.dim_least)

    pub row_is : IsRow g d (take g.n (drop ((d - 1) * g.n) g.table))
    row_is =
        record {
          long = length-take-le _ _ (rw length-drop (omega (arith, row_inside)));
          sews = λ i below. get_or-take _ _ i 0 below ∙ get_or-drop _ _ i 0 ∙ row_sew shaped d i dart below ∙ ap (λ (k : ℕ). sew (map_of g) k d) (sym (add-one i));
        }

  -- what has no label in the end is what is not reached
  pub unreached : (labels : List ℕ) → length labels ≡ 1020 → Labels labels (labelling (map_of g) 1) → not_labelled (take g.m labels) ≡ not_reached (map_of g)
  unfolding map_of not_reached not_labelled
  unreached labels long has =
      rw (length-take-le g.m labels (rw long darts_few))
      (least_cong
      (λ d low high. ap (λ (l : ℕ). eqb l 0) (get_or-take g.m labels (d - 1) 0 (omega arith) ∙ has d low (omega (arith, darts_few)))))

  -- as many labels as darts: no dart is without
  pub all_labelled : ToDarts (map_of g) → length (labelling (map_of g) 1) ≡ g.m → not_reached (map_of g) ≡ 0
  unfolding map_of not_reached
  all_labelled to_darts whole =
      none_least _ g.m
      (λ d low high. ne_eqb (label_in (labelling (map_of g) 1) d) 0
      (λ none. let room = queue_room (labelling_queue (map_of g) to_darts 1 first_dart) d (low, high) none in omega (arith, whole)))

  -- no other dart has a label in the end: with those of the map's darts gone, there is none
  pub cleared : ToDarts (map_of g) → (labels : List ℕ) → length labels ≡ 1020 → Labels labels (labelling (map_of g) 1) → replicate (length (take g.m labels)) 0 ++ drop g.m labels ≡ replicate 1020 0
  unfolding map_of
  cleared to_darts labels long has =
      rw (length-take-le g.m labels (rw long darts_few))
      (ap (λ (l : List ℕ). replicate g.m 0 ++ l)
      (ext_get_or 0 (drop g.m labels) (replicate (1020 - g.m) 0) (length-drop g.m labels ∙ ap (λ (k : ℕ). k - g.m) long ∙ sym (length-replicate {A = ℕ} (1020 - g.m) 0))
      (λ i below. get_or-drop g.m labels i 0 ∙ none i (rw (length-drop, long) at below) ∙ sym (get_or-replicate {A = ℕ} (1020 - g.m) i 0 0 (rw (length-drop, long) at below))))
      ∙ replicate-append-replicate g.m (1020 - g.m) 0
      ∙ ap (λ (k : ℕ). replicate {A = ℕ} k 0) whole)
    where
      whole : g.m + (1020 - g.m) ≡ 1020
      whole = omega (arith, darts_few)

      queue : DartsOnce (map_of g) (labelling (map_of g) 1)
      queue = labelling_queue (map_of g) to_darts 1 first_dart

      beyond : (d : ℕ) → g.m < d → label_in (labelling (map_of g) 1) d ≡ 0
      beyond d past = ⊎_elim (λ z. z) (λ pos. absurd (let high = (queue_dart queue d pos).1 in omega arith)) (eq-zero-or-pos (label_in (labelling (map_of g) 1) d))

      none : (i : ℕ) → i < 1020 - g.m → get_or labels (g.m + i) 0 ≡ 0
      none i below = let back : g.m + i + 1 - 1 ≡ g.m + i = omega arith in rw back at (has (g.m + i + 1) (omega arith) (omega arith)) ∙ beyond (g.m + i + 1) (omega arith)

-- while d is served: what it is sewn to may be met, and is one try more
module _ {M : Map} (to_darts : ToDarts M) (most : M.darts ≤ 1020) (d : ℕ) {q labels queue : List ℕ} {given : ℕ} where
  pub first_meets : DartsOnce M q → Holds labels queue given q → {e : ℕ} → e ≡ sew M 0 d → Meets labels queue given e
  first_meets good h is = holds_meets h good most _ (rw is (to_darts 0 d))

  pub next_meets : DartsOnce M q → (k : ℕ) → Holds labels queue given (tried M q d k) → {e : ℕ} → e ≡ sew M (k + 1) d → Meets labels queue given e
  next_meets good k h is = holds_meets h (tried_queue M to_darts good d k) most _ (rw is (to_darts (k + 1) d))

module _ (M : Map) (d : ℕ) (q : List ℕ) {labels queue : List ℕ} {given : ℕ} where
  pub first_tried : {e : ℕ} → e ≡ sew M 0 d → Holds labels queue given (visit q e) → Holds labels queue given (tried M q d 0)
  first_tried is h = holds_same h (tried_zero M q d ∙ ap (visit q) (sym is))

  pub next_tried : (k : ℕ) → {last rest : List ℕ} {count : ℕ} → Holds last rest count (tried M q d k) → {e : ℕ} → e ≡ sew M (k + 1) d → Holds labels queue given (visit (take count rest) e) → Holds labels queue given (tried M q d (k + 1))
  next_tried k before {e = e} is h =
      holds_same h
      (ap (tried M q d) (add-one k)
      ∙ tried_suc M q d k
      ∙ ap (λ (i : ℕ). visit (tried M q d k) (sew M i d)) (sym (add-one k))
      ∙ ap (visit (tried M q d k)) (sym is)
      ∙ ap (λ (l : List ℕ). visit l e) (sym before.so_far))

-- where all of a dart's row is tried, the dart is served
pub served_row : (g : Given) (d : ℕ) (q : List ℕ) {labels queue : List ℕ} {given : ℕ} → Holds labels queue given (tried (map_of g) q d g.n) → Holds labels queue given (serve (map_of g) q d)
unfolding map_of
served_row g d q h = holds_same h (serve_tried (map_of g) q d)

-- the labelling from d under way: the first k darts are served
pub record Running (M : Map) (d : ℕ) (labels queue : List ℕ) (given k : ℕ) : Type 0 where
  pub behind : k ≤ given
  pub few : given ≤ M.darts
  pub holds : Holds labels queue given (served M d k)

module _ (M : Map) (to_darts : ToDarts M) (d : ℕ) (dart : IsDart M d) where
  pub running_start : {labels queue : List ℕ} {given : ℕ} → Holds labels queue given (visit [] d) → Running M d labels queue given 0
  running_start {given = given} h =
      let first : visit [] d ≡ d ∷ [] = visit_new [] d dart.0 (label_in_nil d) in
      let one : 1 ≡ given = ap length (sym first) ∙ holds_length h in
      record { behind = omega arith; few = omega (arith, dart.0, dart.1); holds = holds_same h (served_zero M d ∙ sym first) }

  module _ {labels queue : List ℕ} {given k : ℕ} (u : Running M d labels queue given k) where
    good : DartsOnce M (served M d k)
    good = served_queue M to_darts d dart k

    pub running_queue : DartsOnce M (take given queue)
    running_queue = rw u.holds.so_far good

    -- the next dart to serve
    next : k < given → get_or queue k 0 ≡ nth (served M d k) (suc k)
    next below =
        sym (get_or-take given queue k 0 below)
        ∙ ap (λ (l : List ℕ). get_or l k 0) u.holds.so_far
        ∙ sym (nth-suc (served M d k) k)

    pub running_dart : k < given → IsDart M (get_or queue k 0)
    running_dart below = rw (next below) (good.of_darts (suc k) (omega arith) (rw (holds_length u.holds) below))

    pub running_turn : k < given → {labels' queue' : List ℕ} {given' : ℕ} → Holds labels' queue' given' (serve M (take given queue) (get_or queue k 0)) → Running M d labels' queue' given' (k + 1)
    running_turn below {given' = given'} h =
        let more : served M d (k + 1) ≡ serve M (take given queue) (get_or queue k 0) =
        ap (served M d) (add-one k)
        ∙ served_suc M d k
        ∙ ap (serve M (served M d k)) (sym (next below))
        ∙ ap (λ (l : List ℕ). serve M l (get_or queue k 0)) (sym u.holds.so_far) in
        let holds : Holds _ _ given' (served M d (k + 1)) = holds_same h more in
        record {
          behind =
              omega
              (arith, holds_length holds, holds_length u.holds, grown_length (served_grown M d k (k + 1) (omega arith)));
          few = omega (arith, holds_length holds, queue_short (served_queue M to_darts d dart (k + 1)));
          holds = holds;
        }

    pub running_done : given ≤ k → Holds labels queue given (labelling M d)
    running_done past =
        holds_same u.holds
        (sym (served_labelling M d k (omega (arith, u.few, u.behind)) (omega (arith, holds_length u.holds))))
