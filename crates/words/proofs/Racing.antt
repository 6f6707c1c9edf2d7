-- The labelling of a start while its word is judged: which queue the arrays hold, and that the number judged is the word's.
--     turn_of M d k              the dart whose turn it is once k darts are served
--     turn_dart, turn_label      it is a dart, the one labelled k + 1
--     row_number                 the label just met is the word's number at its place
--     row_good                   the queue holds darts alone, none twice
--     met_few                    the label met is one of the places
--     length_front, get_d_front, front_whole
--                                the first rows of a word
--     Serving, serving_start     k darts are served, and the numbers of their rows judged
--     Rowing                     of the next dart some sewings are met, and as many numbers judged
--     DartTurn, turn_read, turn_is_dart, turn_meets, rowing_start, rowing_end
--                                the next dart is served: its row begins, and ends
--     NumberTurn, row_place, row_on, row_meets, row_once, row_holds, rowing_turn, rowing_left
--                                of its row the next number is judged
--     TriedWhole, tried_whole    what trying a start leaves whose rows are all judged
-- Assumes nothing.
use Prim.Native.Nat.{ℕ, suc, ◌+◌, ◌-◌, ◌*◌, ◌≤◌, ◌<◌}
use mathlib.Core.Path.{◌≡◌, refl, sym, ap, ◌∙◌}
use mathlib.Core.Bool.{Bool, true, false, cond}
use mathlib.Core.List.{List}
use native.Mathlib.Omega.{arith}
use native.Mathlib.Numerals.{add-one}
use native.Mathlib.Nat.{mul-le-mul_right, mul_comm, suc-mul}
use borrow.Author.Tests.{eqb-true, eqb-false}
use lib.Dec.{eqb}
use lib.ListN.{length, get_or, set, take, replicate}
use lib.Seq.{get_or-take, length-take-le, take-length}
use Rattle.std.specs.declared.cmp.Ordering.{Ordering}
use Rattle.std.specs.declared.cmp.Ordering.TheVariants.{Equal}
use Rattle.maps.specs.Least.{nth}
use Rattle.maps.specs.Map.{Map, IsDart, sew}
use Rattle.maps.specs.Accepted.{ToDarts, Accepted}
use Rattle.maps.specs.Given.{Given, map_of, place_of}
use Rattle.maps.proofs.Least.{Tested, passes, fails, tested, nth_one_more, nth-suc}
use Rattle.maps.proofs.Accepted.{darts_most}
use Rattle.labels.specs.Queue.{label_in, visit, tried, served, labelling}
use Rattle.labels.specs.Inside.{DartsOnce, Holds, Meets}
use Rattle.labels.proofs.Queue.{label_in_nil, label_in_le, visit_new, visit_labels, served_zero, served_ahead, Grown, grown_trans, grown_label, tried_zero, tried_suc, tried_grown, tried_queue, serve_tried, queue_zero, served_suc, served_next, served_queue, labelling_grown, labelling_queue}
use Rattle.labels.proofs.Reached.{labelling_numbers}
use Rattle.labels.proofs.Inside.{holds_same, holds_length, holds_blank, holds_new, holds_meets}
use Rattle.words.specs.Words.{word, lesser}
use Rattle.words.specs.Sign.{over}
use Rattle.words.specs.Inside.{side_of, Met, Weighed, leaves_at, front, Tried}
use Rattle.words.specs.declared.engine.Labelling.{Labelling}
use Rattle.words.proofs.Standing.{Standing, Ended, standing_start, standing_turn, standing_left}
use Rattle.words.proofs.Words.{length_word, nth_word}

-- the dart whose turn it is once k darts are served
abbrev pub turn_of : Map → ℕ → ℕ → ℕ
turn_of M d k = nth (served M d k) (suc k)

-- the queue once k darts are served, and β0, β1, .. βi of the next are tried
abbrev pub row_of : Map → ℕ → ℕ → ℕ → List ℕ
row_of M d k i = tried M (served M d k) (turn_of M d k) i

row-served : (M : Map) (d k : ℕ) → row_of M d k M.dim ≡ served M d (suc k)
row-served M d k = sym (served_suc M d k ∙ serve_tried M (served M d k) (turn_of M d k))

module _ {M : Map} (a : Accepted M) (d : ℕ) (dart : IsDart M d) (k : ℕ) (turn : k < M.darts) where
  to_darts : ToDarts M
  to_darts = a.open_map.to_darts

  all : length (labelling M d) ≡ M.darts
  all = (labelling_numbers a d dart).long

  pub turn_label : turn_of M d k ≡ nth (labelling M d) (suc k)
  turn_label = served_next M to_darts d dart k (rw all turn)

  pub turn_dart : IsDart M (turn_of M d k)
  turn_dart = rw turn_label ((labelling_queue M to_darts d dart).of_darts (suc k) (omega arith) (rw all turn))

  pub row_good : (i : ℕ) → DartsOnce M (row_of M d k i)
  row_good i = tried_queue M to_darts (served_queue M to_darts d dart k) (turn_of M d k) i

  -- the label just met is the word's number at its place
  pub row_number : (i : ℕ) → i < M.dim → label_in (row_of M d k (suc i)) (sew M (suc i) (turn_of M d k)) ≡ get_or (word M d) (k * M.dim + i) 0
  unfolding place_of
  row_number i below = final ∙ there
    where
      e : ℕ
      e = sew M (suc i) (turn_of M d k)

      grown : Grown (row_of M d k (suc i)) (labelling M d)
      grown =
          grown_trans (tried_grown M (served M d k) (turn_of M d k) (suc i) M.dim below)
          (rw (row-served M d k) (labelling_grown M d (suc k) turn))

      final : label_in (row_of M d k (suc i)) e ≡ label_in (labelling M d) e
      final = at (tested (eqb e 0))
        where
          at : Tested (eqb e 0) → label_in (row_of M d k (suc i)) e ≡ label_in (labelling M d) e
          at (passes none) =
              let z : e ≡ 0 = eqb-true e 0 none in
              rw z (queue_zero (row_good (suc i)) ∙ sym (queue_zero (labelling_queue M to_darts d dart)))
          at (fails some) =
              let pos : 0 < e = omega (arith, eqb-false e 0 some) in
              sym (grown_label grown e (rw (tried_suc M (served M d k) (turn_of M d k) i) (visit_labels _ e pos)))

      there : label_in (labelling M d) e ≡ get_or (word M d) (k * M.dim + i) 0
      there =
          let index : (suc k - 1) * M.dim + suc i ≡ k * M.dim + i + 1 =
          ap (λ (j : ℕ). j * M.dim + suc i) (let z : suc k - 1 ≡ k = omega arith in z) ∙ (let z : k * M.dim + suc i ≡ k * M.dim + i + 1 = omega arith in z) in
          ap (λ (x : ℕ). label_in (labelling M d) (sew M (suc i) x)) turn_label
          ∙ sym (nth_word a d dart (suc k) (suc i) (omega arith) turn (omega arith) below)
          ∙ ap (nth (word M d)) index
          ∙ nth_one_more (word M d) (k * M.dim + i)

-- the first rows of a word: as long as they say, and with the word's numbers
module _ {M : Map} (a : Accepted M) (d : ℕ) (dart : IsDart M d) (rows : ℕ) (most : rows ≤ M.darts) where
  pub length_front : length (front M d rows) ≡ rows * M.dim
  unfolding front
  length_front =
      length-take-le (rows * M.dim) (word M d)
      (omega (arith, length_word a d dart, mul_comm M.darts M.dim, mul-le-mul_right M.dim most))

  pub get_d_front : (p : ℕ) → p < rows * M.dim → get_or (front M d rows) p 0 ≡ get_or (word M d) p 0
  unfolding front
  get_d_front p inside = get_or-take (rows * M.dim) (word M d) p 0 inside

-- all rows are the word
pub front_whole : {M : Map} → Accepted M → (d : ℕ) → IsDart M d → front M d M.darts ≡ word M d
unfolding front
front_whole {M} a d dart =
    ap (λ (k : ℕ). take k (word M d)) (mul_comm M.darts M.dim ∙ sym (length_word a d dart)) ∙ take-length (word M d)

-- k darts are served, and the numbers of their rows judged
pub record Serving (M : Map) (d rows : ℕ) (firm : Bool) (held₀ labels queue held : List ℕ) (given : ℕ) (side : Ordering) (p k : ℕ) : Type 0 where
  pub high : k ≤ rows
  pub place : p ≡ k * M.dim
  pub holds : Holds labels queue given (served M d k)
  pub stands : Standing (front M d rows) held₀ held firm side p

-- of the next dart β0, β1, .. βi are met, and i numbers of its row judged: however a start stood before, it stands on
pub record Rowing (M : Map) (d rows k : ℕ) (firm : Bool) (held₀ labels queue held : List ℕ) (given : ℕ) (side₀ : Ordering) (p₀ : ℕ) (side : Ordering) (p i : ℕ) : Type 0 where
  pub high : i ≤ M.dim
  pub place : p ≡ p₀ + i
  pub holds : Holds labels queue given (row_of M d k i)
  pub stands : (best : List ℕ) → length (front M d rows) ≤ length best → Standing (front M d rows) best held₀ firm side₀ p₀ → Standing (front M d rows) best held firm side p

-- a dart is met: the queue that the arrays held, with it
met_holds : {labels queue labels' queue' q : List ℕ} {given e : ℕ} {r : Labelling}
    → Holds labels queue given q
    → Met (take given queue) e labels' queue' r
    → (q' : List ℕ)
    → q' ≡ visit q e
    → Holds labels' queue' r.given q'
met_holds {e = e} h met q' same = holds_same met.holds (same ∙ ap (λ (l : List ℕ). visit l e) (sym h.so_far))

-- the label met is one of the places
pub met_few : {q labels queue : List ℕ} {e : ℕ} {r : Labelling} → Met q e labels queue r → r.label ≤ 1020
met_few {q} {e = e} met = omega (arith, met.number, label_in_le (visit q e) e, holds_length met.holds, met.holds.few)

module _ {M : Map} (a : Accepted M) (d : ℕ) (dart : IsDart M d) where
  pub serving_start : (rows : ℕ) (firm : Bool) (queue held : List ℕ) → length queue ≡ 1020 → Serving M d rows firm held (set (replicate 1020 0) (d - 1) 1) (set queue 0 d) held 1 Equal 0 0
  serving_start rows firm queue held long =
      record {
        high = omega arith;
        place = omega arith;
        holds =
            holds_same (holds_new (holds_blank queue long) d dart.0 (omega (arith, darts_most a.bounds, dart.1)) (label_in_nil d) (omega arith))
            (served_zero M d ∙ sym (visit_new _ d dart.0 (label_in_nil d)));
        stands = standing_start (front M d rows) held firm;
      }

-- the next dart's turn: it may be served
pub record DartTurn (M : Map) (d rows : ℕ) (firm : Bool) (held₀ labels queue held : List ℕ) (given : ℕ) (side : Ordering) (p k : ℕ) : Type 0 where
  pub taken : Accepted M
  pub dart : IsDart M d
  pub most : rows ≤ M.darts
  pub fits : length (front M d rows) ≤ length held₀
  pub so_far : Serving M d rows firm held₀ labels queue held given side p k
  pub turn : k < rows

module _ {M : Map} {d rows : ℕ} {firm : Bool} {held₀ labels queue held : List ℕ} {given : ℕ} {side : Ordering} {p k : ℕ} (t : DartTurn M d rows firm held₀ labels queue held given side p k) where
  s : Serving M d rows firm held₀ labels queue held given side p k
  s = t.so_far

  in_map : k < M.darts
  in_map = omega (arith, t.turn, t.most)

  -- the dart whose turn it is stands in the array
  ahead : k < given
  ahead =
      omega
      (arith, served_ahead M t.taken.open_map.to_darts d t.dart k (rw (labelling_numbers t.taken d t.dart).long in_map), holds_length s.holds)

  pub turn_read : get_or queue k 0 ≡ turn_of M d k
  turn_read =
      sym (get_or-take given queue k 0 ahead)
      ∙ ap (λ (l : List ℕ). get_or l k 0) s.holds.so_far
      ∙ sym (nth-suc (served M d k) k)

  pub turn_is_dart : IsDart M (turn_of M d k)
  turn_is_dart = turn_dart t.taken d t.dart k in_map

  -- what a sewing of it leads to may be met
  pub turn_meets : (e : ℕ) → e ≡ sew M 0 (turn_of M d k) → Meets labels queue given e
  turn_meets e is =
      let to_darts = t.taken.open_map.to_darts in
      holds_meets s.holds (served_queue M to_darts d t.dart k) (darts_most t.taken.bounds) e (rw is (to_darts 0 (turn_of M d k)))

  -- β0 of it is met, and its row begins
  pub rowing_start : {labels' queue' : List ℕ} {e : ℕ} {r : Labelling} → e ≡ sew M 0 (turn_of M d k) → Met (take given queue) e labels' queue' r → Rowing M d rows k firm held labels' queue' held r.given side p side p 0
  rowing_start {e = e} is met =
      record {
        high = omega arith;
        place = omega arith;
        holds = met_holds s.holds met (row_of M d k 0) (tried_zero M _ (turn_of M d k) ∙ ap (visit (served M d k)) (sym is));
        stands = λ best fits t. t;
      }

  -- the row ends, and one dart more is served
  pub rowing_end : {labels' queue' held' : List ℕ} {given' : ℕ} {side' : Ordering} {p' i : ℕ} → Rowing M d rows k firm held labels' queue' held' given' side p side' p' i → M.dim ≤ i → Serving M d rows firm held₀ labels' queue' held' given' side' p' (k + 1)
  rowing_end {i = i} w done =
      let all : i ≡ M.dim = omega (arith, w.high) in
      record {
        high = omega (arith, t.turn);
        place = w.place ∙ ap (λ (j : ℕ). p + j) all ∙ ap (λ (j : ℕ). j + M.dim) s.place ∙ sym (suc-mul k M.dim) ∙ ap (λ (j : ℕ). j * M.dim) (sym (add-one k));
        holds = holds_same w.holds (ap (served M d) (add-one k) ∙ sym (row-served M d k) ∙ ap (row_of M d k) (sym all));
        stands = w.stands held₀ t.fits s.stands;
      }

-- the next number's turn: one more sewing of that dart may be met
pub record NumberTurn (M : Map) (d rows : ℕ) (firm : Bool) (held₀ labels queue held : List ℕ) (given : ℕ) (side : Ordering) (p k : ℕ) (labels₁ queue₁ held₁ : List ℕ) (given₁ : ℕ) (side₁ : Ordering) (p₁ i : ℕ) : Type 0 where
  pub dart_turn : DartTurn M d rows firm held₀ labels queue held given side p k
  pub so_far : Rowing M d rows k firm held labels₁ queue₁ held₁ given₁ side p side₁ p₁ i
  pub turn : i < M.dim

module _ {M : Map} {d rows : ℕ} {firm : Bool} {held₀ labels queue held : List ℕ} {given : ℕ} {side : Ordering} {p k : ℕ} {labels₁ queue₁ held₁ : List ℕ} {given₁ : ℕ} {side₁ : Ordering} {p₁ i : ℕ} (n : NumberTurn M d rows firm held₀ labels queue held given side p k labels₁ queue₁ held₁ given₁ side₁ p₁ i) where
  t : DartTurn M d rows firm held₀ labels queue held given side p k
  t = n.dart_turn

  w : Rowing M d rows k firm held labels₁ queue₁ held₁ given₁ side p side₁ p₁ i
  w = n.so_far

  stood : Standing (front M d rows) held₀ held₁ firm side₁ p₁
  stood = w.stands held₀ t.fits t.so_far.stands

  -- the place of the number that is judged next
  here : p₁ ≡ k * M.dim + i
  here = w.place ∙ ap (λ (j : ℕ). j + i) t.so_far.place

  in_rows : p₁ < rows * M.dim
  in_rows =
      let row : suc k * M.dim ≤ rows * M.dim = mul-le-mul_right M.dim t.turn in
      omega (arith, here, suc-mul k M.dim, n.turn)

  row_inside : p₁ < length (front M d rows)
  row_inside = omega (arith, in_rows, length_front t.taken d t.dart rows t.most)

  pub row_place : p₁ < length held₀
  row_place = omega (arith, row_inside, t.fits)

  -- a start that is run on was not left
  pub row_on : leaves_at firm side₁ ≡ false
  row_on = stood.on

  -- what the sewing leads to may be met
  pub row_meets : (e : ℕ) → e ≡ sew M (suc i) (turn_of M d k) → Meets labels₁ queue₁ given₁ e
  row_meets e is =
      holds_meets w.holds (row_good t.taken d t.dart k (in_map t) i) (darts_most t.taken.bounds) e
      (rw is (t.taken.open_map.to_darts (suc i) (turn_of M d k)))

  pub row_once : DartsOnce M (row_of M d k (suc i))
  row_once = row_good t.taken d t.dart k (in_map t) (suc i)

  module _ {labels' queue' : List ℕ} {e : ℕ} {r : Labelling} (is : e ≡ sew M (suc i) (turn_of M d k)) (met : Met (take given₁ queue₁) e labels' queue' r) where
    next : row_of M d k (suc i) ≡ visit (row_of M d k i) e
    next = tried_suc M _ (turn_of M d k) i ∙ ap (visit (row_of M d k i)) (sym is)

    pub row_holds : Holds labels' queue' r.given (row_of M d k (suc i))
    row_holds = met_holds w.holds met (row_of M d k (suc i)) next

    -- the number that is judged is the word's
    row_judged : r.label ≡ get_or (front M d rows) p₁ 0
    row_judged =
        met.number
        ∙ ap (λ (l : List ℕ). label_in (visit l e) e) w.holds.so_far
        ∙ ap (λ (l : List ℕ). label_in l e) (sym next)
        ∙ ap (label_in (row_of M d k (suc i))) is
        ∙ row_number t.taken d t.dart k (in_map t) i n.turn
        ∙ ap (λ (j : ℕ). get_or (word M d) j 0) (sym here)
        ∙ sym (get_d_front t.taken d t.dart rows t.most p₁ in_rows)

    module _ {held' : List ℕ} {side' : Ordering} (weighed : Weighed held₁ held' p₁ r.label side₁ firm side') where
      pub rowing_turn : leaves_at firm side' ≡ false → Rowing M d rows k firm held labels' queue' held' r.given side p side' (p₁ + 1) (i + 1)
      rowing_turn on =
          record {
            high = omega (arith, n.turn);
            place = omega (arith, w.place);
            holds = rw (add-one i) row_holds;
            stands = λ best fits t. standing_turn (w.stands best fits t) fits row_inside r.label row_judged weighed on;
          }

      pub rowing_left : leaves_at firm side' ≡ true → Ended (front M d rows) held₀ held' firm side'
      rowing_left gone = standing_left stood t.fits row_inside r.label row_judged weighed gone

-- a start whose rows were all tried: how its word comes out
pub record TriedWhole (g : Given) (d : ℕ) (firm : Bool) (held queue' held' : List ℕ) (side : Ordering) : Type 0 where
  pub outcome : side ≡ side_of (word (map_of g) d) (take (g.n * g.m) held)
  pub best : held' ≡ cond firm held (over (lesser (take (g.n * g.m) held) (word (map_of g) d)) held)
  pub whole : leaves_at firm side ≡ false → take g.m queue' ≡ labelling (map_of g) d

pub tried_whole : {g : Given} {d : ℕ} {firm : Bool} {held queue' held' : List ℕ} {side : Ordering} → Accepted (map_of g) → IsDart (map_of g) d
    → Tried g d g.m firm held queue' held' side → TriedWhole g d firm held queue' held' side
unfolding map_of
tried_whole {g} {d} a dart t =
    let size : g.m * g.n ≡ g.n * g.m = mul_comm g.m g.n in
    let all = front_whole a d dart in
    record {
      outcome = rw (all, size) at t.came.outcome;
      best = rw (all, size) at t.came.best;
      whole = λ on. t.whole on refl;
    }
