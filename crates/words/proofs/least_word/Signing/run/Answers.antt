use Rattle.std.proofs.Common.{ℕ, ◌+◌, ◌≤◌, ◌<◌, ◌≡◌, true, List, length, refl, sym, ◌∙◌, arith}
use Rattle.std.proofs.lemmas.List.{length-replicate}
use Rattle.std.specs.Ordering.{is_eq}
use Rattle.maps.specs.Least.{nth}
use Rattle.maps.specs.Given.{map_of}
use Rattle.maps.specs.Shown.{given}
use Rattle.maps.proofs.Least.{true_not_false}
use Rattle.maps.proofs.Accepted.{darts_most}
use Rattle.words.specs.FirstRow.{LeastRank, rank_of}
use Rattle.words.specs.declared.map.Map.{Map}
use Rattle.words.proofs.Usable.{usable, map_held}
use Rattle.words.proofs.Known.{known_start}
use Rattle.words.proofs.Kin.{kin_none}
use Rattle.words.proofs.Forest.{count_range}
use Rattle.words.proofs.Leading.{Tied, best_start, best_led, best_signature, best_first, best_symmetries}
use Rattle.words.proofs.FirstRow.{rank_filter, not_passed}
use Rattle.words.proofs.Trying.{best_word, best_word_none, Trying, Turn, Decided, trying_passed, some_start, same_rows, settles, trying_turn, partly_still, trying_spelt}
use Rattle.words.proofs.least_word.Signing.run.Goals as goal
use Rattle.words.proofs.least_word.Signing.run.Goals.{then-is_eq+then-rows-m, else-is_eq, else-is_eq-via-then-is_eq+else-rows-m, else-is_eq-via-else-is_eq}

-- a turn is one start more
turn-of : (map : Map) {r : ℕ} {lead up held : List ℕ} {s rows d : ℕ} → LeastRank (map_held map) r → Trying (map_held map) r lead up held s rows d → length lead ≡ 1020 → length held ≡ 1020 → 1 ≤ d → d < map.table.m + 1 → Turn (given map.table) r lead up held s rows d
turn-of map ranks so-far long-lead long-word low high =
    record {
      taken = (usable map).taken;
      ranks = ranks;
      so_far = so-far;
      low = low;
      in_map = omega arith;
      long_lead = long-lead;
      long_word = long-word;
    }

pub overflow_add-d-end : goal.overflow_add-d-end
overflow_add-d-end c = omega (arith, darts_most (usable c.args.map).shaped.bounds)

pub loop-d-init : goal.loop-d-init
unfolding map_of
loop-d-init c =
    let u = usable c.args.map in
    let high : c.min-rows.result ≤ c.args.map.table.m = omega arith in
    record {
      so_far = record {
        rows_low = omega (arith, u.shaped.bounds.darts_least);
        rows_high = high;
        partly = rw (c.requires, best_word_none _) (known_start u.taken _ high);
        best = rw (best_word_none _, c.new-forest.ensures) (best_start _ _ _ 0 (kin_none _));
        order = λ no. absurd (omega arith);
      };
      long_lead = length-replicate {A = ℕ} 1020 0;
      long_word = rw c.requires (length-replicate {A = ℕ} 1020 65535);
    }

pub passed_over-requires : goal.passed_over-requires
unfolding map_of
passed_over-requires c = (omega arith, omega arith)

pub loop-d-preserved-then-passed_over : goal.loop-d-preserved-then-passed_over
loop-d-preserved-then-passed_over c =
    let i = c.loop-d.invariant in
    let t = turn-of c.args.map c.least_rank-least.ensures i.so_far i.long_lead i.long_word (omega arith) c.loop-d-test.true in
    record { so_far = trying_passed t (sym c.passed_over.ensures ∙ c.if-passed_over.true); long_lead = i.long_lead; long_word = i.long_word }

pub try_start-side-requires : goal.try_start-side-requires
unfolding map_of
try_start-side-requires c =
    let y = c.loop-d.invariant.so_far in
    record { dart = (omega arith, omega arith); some_rows = y.rows_high }

pub spell_out-requires : goal.spell_out-requires
unfolding map_of
spell_out-requires c =
    let i = c.loop-d.invariant in
    let t = turn-of c.args.map c.least_rank-least.ensures i.so_far i.long_lead i.long_word (omega arith) c.loop-d-test.true in
    let done = c.try_start-side.ensures in
    let is : is_eq c.try_start-side.result ≡ true = sym c.is_eq.ensures ∙ c.if-is_eq.true in
    record {
      ready = record { dart = some_start t done (same_rows t done is); some_rows = i.so_far.rows_high };
      partly = partly_still t done is;
    }

pub try_start-side-requires-then-rows-m : goal.try_start-side-requires-then-rows-m
unfolding map_of
try_start-side-requires-then-rows-m c = record { dart = (omega arith, omega arith); some_rows = omega arith }

-- the start's side is decided
decided : (c : goal.After-forest-in-loop-d-1) →
    let i = c.if-is_eq in
    Decided (given c.args.map.table) c.least_rank-least.result i.queue i.lead c.loop-d.forest.up i.self.word c.loop-d.start i.rows c.loop-d.d i.side
unfolding map_of
decided c =
    let i = c.loop-d.invariant in
    let t = turn-of c.args.map c.least_rank-least.ensures i.so_far i.long_lead i.long_word (omega arith) c.loop-d-test.true in
    let done = c.try_start-side.ensures in
    elim c.if-is_eq.branch [
      | then-is_eq+then-rows-m w ↦
          let is : is_eq c.try_start-side.result ≡ true = sym c.is_eq.ensures ∙ w.if-is_eq.true in
          let again = turn-of c.args.map c.least_rank-least.ensures (trying_spelt t done is w.if-rows-m.true w.spell_out.ensures) (omega arith) (omega arith) (omega arith) c.loop-d-test.true in
          rw (w.queue-is, w.lead-is, w.self-is, w.rows-is, w.side-is)
          (record {
            held = _;
            turn = again;
            tried = w.try_start-side-then-rows-m.ensures;
            whole = λ _. refl;
            long_queue = omega arith;
            long_word' = omega arith;
          })
      | else-is_eq w ↦
          rw (w.queue-is, w.lead-is, w.self-is, w.rows-is, w.side-is)
          (record {
            held = _;
            turn = t;
            tried = done;
            whole = λ is. elim w.else-is_eq.branch [
              | else-is_eq-via-then-is_eq+else-rows-m v ↦ omega (arith, i.so_far.rows_high)
              | else-is_eq-via-else-is_eq v ↦ absurd (true_not_false is (sym c.is_eq.ensures ∙ v.if-is_eq.false))
            ];
            long_queue = omega arith;
            long_word' = omega arith;
          })
    ]

pub settle-start-requires : goal.settle-start-requires
settle-start-requires c =
    let z = decided c in
    record { few = darts_most (usable c.args.map).shaped.bounds; joins = settles z.turn z.tried z.long_queue z.whole }

-- a start that is tried has no dart over it, and is of the least rank
kept-start : (c : goal.After-forest-in-loop-d-1) → (nth c.loop-d.forest.up c.loop-d.d ≡ 0) × (rank_of (map_held c.args.map) c.loop-d.d ≡ c.least_rank-least.result)
unfolding map_of
kept-start c =
    let free = not_passed _ _ _ _ (sym c.passed_over.ensures ∙ c.if-passed_over.false) in
    (free.0, omega (arith, free.1, c.least_rank-least.ensures.none_less c.loop-d.d (omega arith, omega arith)))

pub loop-d-preserved : goal.loop-d-preserved
loop-d-preserved c =
    let z = decided c.before.before in
    let k = kept-start c.before.before in
    record { so_far = trying_turn z.turn z.tried z.long_queue k.0 k.1 z.whole c.settle-start.ensures; long_lead = c.settle-start.array_long; long_word = z.long_word' }

-- all starts are tried, passed over or left out: one leads
led : (map : Map) {r : ℕ} {lead up held : List ℕ} {s rows d : ℕ} → LeastRank (map_held map) r → Trying (map_held map) r lead up held s rows d → map.table.m < d → Tied (map_held map) s (best_word (map_held map) s)
unfolding map_of
led map ranks y past = let taken = (usable map).taken in best_led taken (rank_filter taken _ ranks) y.best past

pub spell_out-requires-2 : goal.spell_out-requires-2
unfolding map_of
spell_out-requires-2 c =
    let y = c.loop-d.invariant.so_far in
    let t = led c.args.map c.least_rank-least.ensures y (omega arith) in
    record { ready = record { dart = t.is_first.dart; some_rows = y.rows_high }; partly = rw (← t.is_word) y.partly }

pub tree_size-symmetries-requires : goal.tree_size-symmetries-requires
tree_size-symmetries-requires c = darts_most (usable c.args.map).shaped.bounds

pub returns : goal.returns
unfolding map_of
returns c =
    let y = c.loop-d.invariant.so_far in
    let taken = (usable c.args.map).taken in
    let filter = rank_filter taken _ c.least_rank-least.ensures in
    let past : c.args.map.table.m < c.loop-d.d = omega arith in
    record {
      long = omega arith;
      is_least_word = c.spell_out-2.ensures.whole_word ∙ sym (led c.args.map c.least_rank-least.ensures y past).is_word ∙ best_signature taken filter y.best past;
      first = best_first taken filter y.best past;
      alike = c.tree_size-symmetries.ensures ∙ count_range _ _ ∙ best_symmetries taken filter y.best past;
    }
