use Rattle.std.proofs.Common.{ℕ, suc, ◌+◌, ◌-◌, ◌*◌, ◌≤◌, ◌<◌, ◌≡◌, Bool, true, List, length, get_or, take, sym, ap, ◌∙◌, arith}
use Rattle.std.specs.declared.cmp.Ordering.{Ordering}
use native.Mathlib.Nat.{mul_comm, mul-le-mul_right}
use Rattle.maps.specs.Map.{IsDart, sew}
use Rattle.maps.specs.Accepted.{Accepted}
use Rattle.maps.specs.Given.{Given, map_of}
use Rattle.maps.specs.Shown as shown
use Rattle.maps.specs.Shown.{given}
use Rattle.maps.proofs.Least.{true_not_false}
use Rattle.maps.proofs.Accepted.{darts_most}
use Rattle.labels.specs.Queue.{served}
use Rattle.labels.proofs.Queue.{served_queue, labelling_served}
use Rattle.labels.proofs.Inside.{holds_own}
use Rattle.words.specs.Inside.{Outcome, Ready, Raced, front, Met, Weighed, leaves_at}
use Rattle.words.specs.declared.map.Map.{Map}
use Rattle.words.specs.declared.engine.Labelling.{Labelling}
use Rattle.words.proofs.Usable.{usable, map_held, placed, back_read, row_within, row_few, row, row_long, row_read}
use Rattle.words.proofs.Standing.{Ended, standing_end}
use Rattle.words.proofs.Racing.{length_front, turn_of, met_few, Serving, Rowing, serving_start, DartTurn, turn_read, turn_is_dart, turn_meets, rowing_start, rowing_end, NumberTurn, row_place, row_on, row_meets, row_once, row_holds, rowing_turn, rowing_left}
use Rattle.words.proofs.engine.race.Goals as goal

-- the rows are so many numbers, so what was held is as many of them
ended-outcome : {g : Given} {d rows : ℕ} (taken : Accepted (map_of g)) (dart : IsDart (map_of g) d) (most : rows ≤ (map_of g).darts) {firm : Bool} {held held' : List ℕ} {side : Ordering} → Ended (front (map_of g) d rows) held held' firm side → Outcome g d rows firm held held' side
unfolding map_of
ended-outcome {d = d} {rows = rows} taken dart most e = let long = length_front taken d dart rows most in record { outcome = rw long at e.outcome; best = rw long at e.best }

module _ (map : Map) {d rows : ℕ} (r : Ready (given map.table) d rows) where
  taken : Accepted (map_held map)
  taken = (usable map).taken

  -- the rows are the map's
  most : rows ≤ (map_held map).darts
  unfolding map_of
  most = r.some_rows

  few : rows ≤ 1020
  unfolding map_of
  few = omega (arith, r.some_rows, darts_most (usable map).shaped.bounds)

  module _ {firm : Bool} {word labels queue held : List ℕ} {given : ℕ} {side : Ordering} {p k : ℕ} (s : Serving (map_held map) d rows firm word labels queue held given side p k) (long_word : length word ≡ 1020) where
    -- the word's array is long enough for the rows
    fits : length (front (map_held map) d rows) ≤ length word
    unfolding map_of
    fits =
        omega
        (arith, length_front taken d r.dart rows most, mul-le-mul_right map.table.n r.some_rows, mul_comm map.table.m map.table.n, (usable map).shaped.bounds.table_most, long_word)

    -- all rows are judged, and the start is not left
    all-judged : rows ≤ k → Raced (shown.given map.table) d rows firm word labels queue held (record { side = side; given = given })
    unfolding map_of
    all-judged past =
        let to_darts = taken.open_map.to_darts in
        let last : k ≡ rows = omega (arith, s.high) in
        let all : p ≡ length (front (map_held map) d rows) =
        s.place ∙ ap (λ (j : ℕ). j * map.table.n) last ∙ sym (length_front taken d r.dart rows most) in
        record {
          came = ended-outcome taken r.dart most (standing_end fits (rw all at s.stands));
          good = rw s.holds.so_far (served_queue _ to_darts d r.dart k);
          holds = holds_own s.holds;
          whole = λ on all-rows. s.holds.so_far ∙ ap (served _ d) (last ∙ all-rows) ∙ sym (labelling_served _ d);
        }

    module _ (turn : k < rows) where
      -- a dart's turn
      dart-turn : DartTurn (map_held map) d rows firm word labels queue held given side p k
      dart-turn = record { taken = taken; dart = r.dart; most = most; fits = fits; so_far = s; turn = turn }

      -- the dart x is read from the queue
      module _ {x : ℕ} (read : x ≡ get_or queue k 0) where
        served-is : x ≡ turn_of (map_held map) d k
        served-is = read ∙ turn_read dart-turn

        served-dart : IsDart (map_held map) x
        served-dart = rw served-is (turn_is_dart dart-turn)

        -- so are β0 of it and its row
        before-is : {e : ℕ} → e ≡ get_or map.back.now (x - 1) 0 → e ≡ sew (map_held map) 0 (turn_of (map_held map) d k)
        before-is is = is ∙ back_read map x served-dart ∙ ap (sew (map_held map) 0) served-is

        -- so is its row, number by number
        module _ {labels₁ queue₁ held₁ : List ℕ} {given₁ : ℕ} {side₁ : Ordering} {p₁ i : ℕ} (w : Rowing (map_held map) d rows k firm held labels₁ queue₁ held₁ given₁ side p side₁ p₁ i) where
          row-done : length (row map x served-dart) ≤ i → Serving (map_held map) d rows firm word labels₁ queue₁ held₁ given₁ side₁ p₁ (k + 1)
          unfolding map_of
          row-done past = rowing_end dart-turn w (omega (arith, row_long map x served-dart))

          module _ (test : i < length (row map x served-dart)) where
            below : i < map.table.n
            below = omega (arith, row_long map x served-dart)

            number-turn : NumberTurn (map_held map) d rows firm word labels queue held given side p k labels₁ queue₁ held₁ given₁ side₁ p₁ i
            unfolding map_of
            number-turn = record { dart_turn = dart-turn; so_far = w; turn = below }

            number-is : {e : ℕ} → e ≡ get_or (row map x served-dart) i 0 → e ≡ sew (map_held map) (suc i) (turn_of (map_held map) d k)
            number-is is = is ∙ row_read map x served-dart i below ∙ ap (sew (map_held map) (suc i)) served-is

            -- the start is left at this number
            row-left : {e : ℕ} → e ≡ get_or (row map x served-dart) i 0 → {labels' queue' held' : List ℕ} {r : Labelling} {side' : Ordering} →
                Met (take given₁ queue₁) e labels' queue' r → Weighed held₁ held' p₁ r.label side₁ firm side' → leaves_at firm side' ≡ true →
                Raced (shown.given map.table) d rows firm word labels' queue' held' (record { side = side'; given = r.given })
            row-left is met weighed gone =
                let held-now = row_holds number-turn (number-is is) met in
                record {
                  came = ended-outcome taken r.dart most (rowing_left number-turn (number-is is) met weighed gone);
                  good = rw held-now.so_far (row_once number-turn);
                  holds = holds_own held-now;
                  whole = λ on _. absurd (true_not_false gone on);
                }

pub offset_bounds-labels-d : goal.offset_bounds-labels-d
offset_bounds-labels-d c = omega (arith, placed c.args.map.now c.args.d c.requires.ready.dart)

pub bounds-labels-d : goal.bounds-labels-d
bounds-labels-d c = omega (arith, placed c.args.map.now c.args.d c.requires.ready.dart)

pub overflow_cast-queue : goal.overflow_cast-queue
overflow_cast-queue c = omega (arith, placed c.args.map.now c.args.d c.requires.ready.dart)

pub labels-init : goal.labels-init
labels-init c =
    rw c.requires.blank (serving_start (usable c.args.map.now).taken c.args.d c.requires.ready.dart c.args.rows c.args.firm c.args.queue.now c.args.word.now c.told-queue)

pub offset_bounds-queue-k : goal.offset_bounds-queue-k
offset_bounds-queue-k c = omega (arith, few c.args.map.now c.requires.ready)

pub bounds-queue-k : goal.bounds-queue-k
bounds-queue-k c = omega (arith, few c.args.map.now c.requires.ready)

pub overflow_sub-served : goal.overflow_sub-served
overflow_sub-served c =
    (placed c.args.map.now _ (served-dart c.args.map.now c.requires.ready c.labels.invariant c.told-word c.labels-test.true c.from-served.ensures)).0

pub bounds-map-served : goal.bounds-map-served
bounds-map-served c = omega (arith, placed c.args.map.now _ (served-dart c.args.map.now c.requires.ready c.labels.invariant c.told-word c.labels-test.true c.from-served.ensures))

pub meet-labelling-requires : goal.meet-labelling-requires
meet-labelling-requires c =
    let t = dart-turn c.args.map.now c.requires.ready c.labels.invariant c.told-word c.labels-test.true in
    turn_meets t _ (before-is c.args.map.now c.requires.ready c.labels.invariant c.told-word c.labels-test.true c.from-served.ensures c.from.ensures)

pub overflow_sub-row : goal.overflow_sub-row
overflow_sub-row c = (placed c.args.map.now _ (served-dart c.args.map.now c.requires.ready c.labels.invariant c.told-word c.labels-test.true c.from-served.ensures)).0

pub overflow_mul-row : goal.overflow_mul-row
overflow_mul-row c =
    omega (arith, row_few c.args.map.now _ (served-dart c.args.map.now c.requires.ready c.labels.invariant c.told-word c.labels-test.true c.from-served.ensures))

pub overflow_add-e-items : goal.overflow_add-e-items
overflow_add-e-items c =
    omega (arith, row_few c.args.map.now _ (served-dart c.args.map.now c.requires.ready c.labels.invariant c.told-word c.labels-test.true c.from-served.ensures))

pub offset_bounds-map-row : goal.offset_bounds-map-row
offset_bounds-map-row c =
    omega (arith, row_few c.args.map.now _ (served-dart c.args.map.now c.requires.ready c.labels.invariant c.told-word c.labels-test.true c.from-served.ensures))

pub slice_bounds-e-items-end : goal.slice_bounds-e-items-end
slice_bounds-e-items-end c =
    row_within c.args.map.now _ (served-dart c.args.map.now c.requires.ready c.labels.invariant c.told-word c.labels-test.true c.from-served.ensures)

pub loop-e-init : goal.loop-e-init
loop-e-init c =
    let t = dart-turn c.args.map.now c.requires.ready c.labels.invariant c.told-word c.labels-test.true in
    rowing_start t (before-is c.args.map.now c.requires.ready c.labels.invariant c.told-word c.labels-test.true c.from-served.ensures c.from.ensures) c.meet-labelling.ensures

pub offset_bounds-e-items-e-index : goal.offset_bounds-e-items-e-index
offset_bounds-e-items-e-index c =
    let x-dart = served-dart c.args.map.now c.requires.ready c.labels.invariant c.told-word c.labels-test.true c.from-served.ensures in
    omega (arith, c.loop-e-test.true, row_long c.args.map.now c.from-served.result x-dart, row_few c.args.map.now c.from-served.result x-dart)

pub meet-labelling-requires-in-loop-e : goal.meet-labelling-requires-in-loop-e
meet-labelling-requires-in-loop-e c =
    row_meets (number-turn c.args.map.now c.requires.ready c.labels.invariant c.told-word c.labels-test.true c.from-served.ensures c.loop-e.invariant c.loop-e-test.true) _
    (number-is c.args.map.now c.requires.ready c.labels.invariant c.told-word c.labels-test.true c.from-served.ensures c.loop-e.invariant c.loop-e-test.true c.from-in-loop-e.ensures)

pub weigh-side-requires : goal.weigh-side-requires
weigh-side-requires c =
    let t = number-turn c.args.map.now c.requires.ready c.labels.invariant c.told-word c.labels-test.true c.from-served.ensures c.loop-e.invariant c.loop-e-test.true in
    record { place = omega (arith, row_place t, c.told-word); fits = met_few c.meet-labelling-in-loop-e.ensures; on = row_on t }

pub overflow_add-p : goal.overflow_add-p
overflow_add-p c =
    let t = number-turn c.args.map.now c.requires.ready c.labels.invariant c.told-word c.labels-test.true c.from-served.ensures c.loop-e.invariant c.loop-e-test.true in
    omega (arith, row_place t, c.told-word)

pub loop-e-preserved : goal.loop-e-preserved
loop-e-preserved c =
    rowing_turn (number-turn c.args.map.now c.requires.ready c.labels.invariant c.told-word c.labels-test.true c.from-served.ensures c.loop-e.invariant c.loop-e-test.true)
    (number-is c.args.map.now c.requires.ready c.labels.invariant c.told-word c.labels-test.true c.from-served.ensures c.loop-e.invariant c.loop-e-test.true c.from-in-loop-e.ensures)
    c.meet-labelling-in-loop-e.ensures c.weigh-side.ensures (sym c.leaves.ensures ∙ c.if-leaves.false)

pub labels-preserved : goal.labels-preserved
labels-preserved c =
    row-done c.args.map.now c.requires.ready c.labels.invariant c.told-word c.labels-test.true c.from-served.ensures c.loop-e.invariant c.loop-e-test.false

pub returns-after-labels : goal.returns-after-labels
returns-after-labels c = all-judged c.args.map.now c.requires.ready c.labels.invariant c.told-word c.labels-test.false

pub returns-then-leaves : goal.returns-then-leaves
returns-then-leaves c =
    row-left c.args.map.now c.requires.ready c.labels.invariant c.told-word c.labels-test.true c.from-served.ensures c.loop-e.invariant c.loop-e-test.true
    c.from-in-loop-e.ensures c.meet-labelling-in-loop-e.ensures c.weigh-side.ensures (sym c.leaves.ensures ∙ c.if-leaves.true)
