-- What `least_word` keeps from start to start, and how a start changes it.
--     kept, best_word              the starts that are tried at all; the best word by its start
--     Trying                       the starts before d are tried or passed over
--     Turn                         and d is one more
--     trying_passed                it is passed over
--     some_start, same_rows, same_still, partly_still
--                                  it is tried, and is the same as far as is known
--     settles, trying_turn         it is settled
--     trying_spelt                 the best word is spelt out, so that it can be tried again
--     Decided                      its side is decided
-- Assumes nothing.
use Prim.Native.Nat.{ℕ, ◌+◌, ◌*◌, ◌≤◌, ◌<◌}
use mathlib.Core.Path.{◌≡◌, refl, sym, ap, ◌∙◌}
use mathlib.Core.Bool.{Bool, true, false, cond}
use mathlib.Core.List.{List}
use mathlib.Core.Logic.{◌⊎◌, inl, inr}
use native.Mathlib.Omega.{arith}
use native.Mathlib.Nat.{mul_comm, mul-le-mul_right, one-mul}
use borrow.Author.Tests.{eq-eqb, ne_eqb}
use lib.Dec.{eqb}
use lib.ListN.{length, get_or, take, replicate, get_or-replicate}
use lib.Seq.{take-length, length-take-le}
use Rattle.std.specs.declared.cmp.Ordering.{Ordering}
use Rattle.std.specs.Ordering.{is_eq}
use Rattle.maps.specs.Least.{nth}
use Rattle.maps.specs.Map.{Map, IsDart}
use Rattle.maps.specs.Accepted.{Accepted}
use Rattle.maps.specs.Given.{Given, map_of}
use Rattle.maps.proofs.Least.{true_not_false}
use Rattle.maps.proofs.Accepted.{darts_most}
use Rattle.labels.specs.Queue.{labelling}
use Rattle.words.specs.Words.{word, less, lesser}
use Rattle.words.specs.Sign.{over}
use Rattle.words.specs.Forest.{joined_all, JoinsAll}
use Rattle.words.specs.FirstRow.{rank_of, LeastRank, passes_over}
use Rattle.words.specs.Inside.{side_of, leaves_at, front, started_at, Tried, Settled, Known, SpeltOut}
use Rattle.words.proofs.Words.{length_word}
use Rattle.words.proofs.Starts.{Against, lower, level, higher, against, lesser_same, same_stays, word_first}
use Rattle.words.proofs.Racing.{get_d_front, front_whole}
use Rattle.words.proofs.Standing.{over-take}
use Rattle.words.proofs.Sign.{take-replicate, over_front}
use Rattle.words.proofs.Known.{less_front, known_over, known_whole}
use Rattle.words.proofs.Forest.{joined_all_front}
use Rattle.words.proofs.Kin.{Alike, queue_first, tied_alike, alike_joins}
use Rattle.words.proofs.Leading.{Filter, Held, nothing, leads, Best, best_long, best_passed, best_left, best_less, best_tied, best_same, best_greater}
use Rattle.words.proofs.FirstRow.{rank_filter, passed_by}

-- the starts that are kept: those of the least rank r
abbrev pub kept : Map → ℕ → ℕ → Bool
kept M r d = eqb (rank_of M d) r

-- the best word, of the start s: before the first start, numbers above all labels
unfoldable pub best_word : Map → ℕ → List ℕ
best_word M s = cond (eqb s 0) (replicate (M.dim * M.darts) 65535) (word M s)

pub best_word_none : (M : Map) → best_word M 0 ≡ replicate (M.dim * M.darts) 65535
unfolding best_word
best_word_none M = refl

pub best_word_some : (M : Map) (s : ℕ) → 1 ≤ s → best_word M s ≡ word M s
unfolding best_word
best_word_some M s low = simp (ne_eqb s 0 (λ z. omega arith))

-- the starts before d are tried or passed over; of the best word so many rows are held, and where they are all, its queue
-- is in `lead`
pub record Trying (M : Map) (r : ℕ) (lead up held : List ℕ) (s rows d : ℕ) : Type 0 where
  pub rows_low : 1 ≤ rows
  pub rows_high : rows ≤ M.darts
  pub partly : Known M rows (best_word M s) held
  pub best : Best M (kept M r) up d s (best_word M s)
  pub order : 0 < s → rows ≡ M.darts → take M.darts lead ≡ labelling M s

-- one start more
pub record Turn (g : Given) (r : ℕ) (lead up held : List ℕ) (s rows d : ℕ) : Type 0 where
  pub taken : Accepted (map_of g)
  pub ranks : LeastRank (map_of g) r
  pub so_far : Trying (map_of g) r lead up held s rows d
  pub low : 1 ≤ d
  pub in_map : d ≤ g.m
  pub long_lead : length lead ≡ 1020
  pub long_word : length held ≡ 1020

module _ {g : Given} {r : ℕ} {lead up held : List ℕ} {s rows d : ℕ} (turn : Turn g r lead up held s rows d) where
  abbrev M : Map
  M = map_of g

  taken : Accepted (map_of g)
  taken = turn.taken

  y : Trying (map_of g) r lead up held s rows d
  y = turn.so_far

  pub turn_dart : IsDart (map_of g) d
  unfolding map_of
  turn_dart = (turn.low, turn.in_map)

  dart : IsDart M d
  dart = turn_dart

  filter : Filter M (kept M r)
  filter = rank_filter taken r turn.ranks

  -- a start that is not tried leaves all but the trees' count as it was
  trying_on : Best M (kept M r) up (d + 1) s (best_word M s) → Trying (map_of g) r lead up held s rows (d + 1)
  unfolding map_of
  trying_on best =
      record {
        rows_low = y.rows_low;
        rows_high = y.rows_high;
        partly = y.partly;
        best = best;
        order = y.order;
      }

  -- the start is passed over
  pub trying_passed : passes_over (map_of g) up r d ≡ true → Trying (map_of g) r lead up held s rows (d + 1)
  trying_passed is = at (passed_by M up r d is)
    where
      at : (0 < nth up d) ⊎ (r < rank_of M d) → Trying (map_of g) r lead up held s rows (d + 1)
      at (inl covered) = trying_on (best_passed taken filter y.best dart covered)
      at (inr above) = trying_on (best_left taken filter y.best (ne_eqb (rank_of M d) r (λ z. omega arith)))

  module _ {queue' held' : List ℕ} {side : Ordering} (t : Tried g d rows false held queue' held' side) where
    -- the rows that are held, and those of the start
    abbrev held_rows : List ℕ
    held_rows = take (rows * g.n) held

    abbrev start_rows : List ℕ
    start_rows = front M d rows

    held_is : take (rows * g.n) held ≡ take (rows * g.n) (best_word M s)
    unfolding map_of
    held_is = y.partly.spelt

    start_is : front M d rows ≡ take (rows * g.n) (word M d)
    unfolding front map_of
    start_is = refl

    one_length : length (word M d) ≡ length (best_word M s)
    one_length = length_word taken d dart ∙ sym (best_long taken filter y.best)

    -- the rows fit in the array
    rows_fit : rows * g.n ≤ length held
    unfolding map_of
    rows_fit = omega (arith, mul-le-mul_right g.n y.rows_high, mul_comm g.m g.n, turn.long_word)

    -- the rows are some numbers
    rows_some : 0 < rows * g.n
    unfolding map_of
    rows_some = omega (arith, mul-le-mul_right g.n y.rows_low, one-mul g.n, taken.bounds.dim_least)

    told : {o : Ordering} → side_of start_rows held_rows ≡ o → side ≡ o
    told e = t.came.outcome ∙ e

    -- rows that are less or greater are those of such a word
    word_less : less start_rows held_rows ≡ true → less (word M d) (best_word M s) ≡ true
    word_less h = less_front (rows * g.n) (word M d) (best_word M s) one_length (rw (start_is, held_is) at h)

    word_greater : less held_rows start_rows ≡ true → less (best_word M s) (word M d) ≡ true
    word_greater h = less_front (rows * g.n) (best_word M s) (word M d) (sym one_length) (rw (start_is, held_is) at h)

    -- where all rows are held, those that are the same are the word
    word_same : rows ≡ g.m → start_rows ≡ held_rows → word M d ≡ best_word M s
    unfolding map_of
    word_same all h =
        let size : g.m * g.n ≡ g.n * g.m = mul_comm g.m g.n in
        let held_word : take (g.n * g.m) held ≡ best_word M s = known_whole taken (best_word M s) (best_long taken filter y.best) (rw all at y.partly) in
        sym (front_whole taken d dart) ∙ rw (all, size) at h ∙ held_word

    -- what is held, where the start is not less
    held_still : lesser held_rows start_rows ≡ held_rows → held' ≡ held
    held_still l = t.came.best ∙ ap (λ (w : List ℕ). over w held) l ∙ over-take (rows * g.n) held rows_fit

    -- a start that agrees with what is held has a start before it
    pub some_start : start_rows ≡ held_rows → IsDart M s
    unfolding map_of
    some_start h = at y.best.held
      where
        at : Held M (kept M r) d s (best_word M s) → IsDart M s
        at (leads there high k is) = there
        at (nothing is) =
            let size = g.n * g.m in
            let few = mul-le-mul_right g.n y.rows_high in
            let above : take (rows * g.n) (best_word M s) ≡ replicate (rows * g.n) 65535 =
            ap (take (rows * g.n)) is ∙ take-replicate (rows * g.n) size 65535 (omega (arith, few, mul_comm g.m g.n)) in
            let numbers : get_or start_rows 0 0 ≡ get_or (replicate (rows * g.n) 65535) 0 0 = ap (λ (l : List ℕ). get_or l 0 0) (h ∙ held_is ∙ above) in
            absurd
            (omega (arith, numbers, get_or-replicate {A = ℕ} (rows * g.n) 0 65535 0 rows_some, get_d_front taken d dart rows y.rows_high 0 rows_some, word_first taken d dart, darts_most taken.bounds))

    -- the darts that have one label from a start that is tied and from the one that leads
    tied : leaves_at false side ≡ false → rows ≡ g.m → start_rows ≡ held_rows → Alike M queue' lead g.m
    unfolding map_of
    tied on all h =
        let same = word_same all h in
        let l = best_tied taken filter y.best dart same in
        let s-dart = l.is_first.dart in
        tied_alike taken d s dart s-dart (same ∙ l.is_word) (t.whole on all) (y.order s-dart.0 all)

    -- a start that comes out the same has the rows that are held
    pub same_rows : is_eq side ≡ true → start_rows ≡ held_rows
    same_rows is = at (against start_rows held_rows)
      where
        at : Against start_rows held_rows → start_rows ≡ held_rows
        at (lower e h l) = absurd (let no : false ≡ true = rw (told e) at is in true_not_false refl (sym no))
        at (level e h l) = h
        at (higher e h l) = absurd (let no : false ≡ true = rw (told e) at is in true_not_false refl (sym no))

    -- it is not less
    pub same_still : is_eq side ≡ true → held' ≡ held
    same_still is = held_still (lesser_same start_rows held_rows (same_rows is))

    pub settles : length queue' ≡ 1020 → (is_eq side ≡ true → rows ≡ g.m) → is_eq side ≡ true → JoinsAll (take g.m queue') (take g.m lead)
    unfolding map_of
    settles long_queue decided is = alike_joins taken long_queue turn.long_lead (tied (same_stays false side is) (decided is) (same_rows is))

    -- what is kept of the rows and the arrays, with the rest
    trying_next : {s' : ℕ} {lead' up' : List ℕ} → Known M rows (best_word M s') held' → Best M (kept M r) up' (d + 1) s' (best_word M s') → (0 < s' → rows ≡ M.darts → take M.darts lead' ≡ labelling M s') → Trying M r lead' up' held' s' rows (d + 1)
    unfolding map_of
    trying_next partly best order =
        record {
          rows_low = y.rows_low;
          rows_high = y.rows_high;
          partly = partly;
          best = best;
          order = order;
        }

    -- the start is settled: where it is the same, all rows were held
    pub trying_turn : length queue' ≡ 1020 → nth up d ≡ 0 → rank_of (map_of g) d ≡ r → (is_eq side ≡ true → rows ≡ g.m) → {s' : ℕ} {lead' up' : List ℕ} → Settled side g.m d s queue' lead up lead' up' s' → Trying (map_of g) r lead' up' held' s' rows (d + 1)
    unfolding started_at leaves_at map_of
    trying_turn long_queue top is-kept decided {s'} {lead'} {up'} c = at (against start_rows held_rows)
      where
        at : Against start_rows held_rows → Trying (map_of g) r lead' up' held' s' rows (d + 1)
        at (lower e h l) =
            let s-is : s' ≡ d = rw (told e) at c.started in
            let lead_is : lead' ≡ over (take g.m queue') lead = rw (told e) at c.leads in
            let few = darts_most taken.bounds in
            let long-front : length (take g.m queue') ≡ g.m = length-take-le g.m queue' (omega (arith, few, long_queue)) in
            let up_is : up' ≡ up = rw (told e) at c.trees in
            let own = best_word_some M d dart.0 in
            let written : held' ≡ over start_rows held = t.came.best ∙ ap (λ (w : List ℕ). over w held) l in
            trying_next (rw (s-is, own, written) (known_over taken rows y.rows_high d dart y.partly))
            (rw (s-is, up_is, own) (best_less taken filter y.best dart top (eq-eqb (rank_of M d) r is-kept) (word_less h)))
            (λ _ all. rw (s-is, lead_is) (over_front (take g.m queue') lead g.m long-front ∙ t.whole (rw (told e) refl) all))
        at (level e h l) =
            let all = decided (rw (told e) refl) in
            let on : leaves_at false side ≡ false = rw (told e) refl in
            let s-is : s' ≡ s = rw (told e) at c.started in
            let lead_is : lead' ≡ lead = rw (told e) at c.leads in
            let up_is : up' ≡ joined_all g.m queue' lead up = rw (told e) at c.trees ∙ joined_all_front queue' lead up g.m g.m (omega arith) in
            let still = held_still l in
            let of-s = queue_first taken s lead (y.order (some_start h).0 all) in
            trying_next (rw (s-is, still) y.partly)
            (rw (s-is, up_is) (best_same taken filter y.best dart (word_same all h) (tied on all h) (queue_first taken d queue' (t.whole on all)) of-s))
            (rw (s-is, lead_is) y.order)
        at (higher e h l) =
            let s-is : s' ≡ s = rw (told e) at c.started in
            let lead_is : lead' ≡ lead = rw (told e) at c.leads in
            let up_is : up' ≡ up = rw (told e) at c.trees in
            let still = held_still l in
            trying_next (rw (s-is, still) y.partly)
            (rw (s-is, up_is) (best_greater taken filter y.best (word_greater h)))
            (rw (s-is, lead_is) y.order)

    -- what is known of the best word, where the start is the same so far
    pub partly_still : is_eq side ≡ true → Known (map_of g) rows (word (map_of g) s) held'
    partly_still is = rw (← best_word_some M s (some_start (same_rows is)).0, same_still is) y.partly

    -- the best word is spelt out, and the start is to be tried again
    pub trying_spelt : is_eq side ≡ true → rows < g.m → {lead'' held'' : List ℕ} → SpeltOut g s rows lead'' held'' → Trying (map_of g) r lead'' up held'' s g.m d
    unfolding map_of
    trying_spelt is below o =
        let there = some_start (same_rows is) in
        let own = best_word_some M s there.0 in
        let size : g.m * g.n ≡ g.n * g.m = mul_comm g.m g.n in
        let long = length_word taken s there in
        record {
          rows_low = taken.bounds.darts_least;
          rows_high = omega arith;
          partly = record {
            spelt = rw size (o.whole_word ∙ sym own ∙ sym (ap (take (g.n * g.m)) own ∙ ap (λ (i : ℕ). take i (word M s)) (sym long) ∙ take-length (word M s) ∙ sym own));
            unknown = λ more. absurd (omega arith);
          };
          best = y.best;
          order = λ _ _. o.order below;
        }

-- a start whose side is decided: where it agrees with the best word, all rows were held
pub record Decided (g : Given) (r : ℕ) (queue' lead up held' : List ℕ) (s rows d : ℕ) (side : Ordering) : Type 0 where
  pub held : List ℕ
  pub turn : Turn g r lead up held s rows d
  pub tried : Tried g d rows false held queue' held' side
  pub whole : is_eq side ≡ true → rows ≡ g.m
  pub long_queue : length queue' ≡ 1020
  pub long_word' : length held' ≡ 1020
