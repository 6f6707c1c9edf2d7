-- The forest of `specs/Forest.antt` over the darts of a map, in which every tree has one word.
--     Kin M up                       what is over a dart has its word
--     kin_none                       no dart is under another
--     kin_top, kin_top_word          the top of a dart's tree is a dart, and has its word
--     Alike M queue lead k           what stands at each of the first k places of two queues has one word
--     queue_first                    a queue that holds a labelling starts with its start
--     tied_alike                     the labellings from two starts that have one word are such queues
--     alike_joins                    they may be joined
--     kin_joined_all, kin_joined_front
--                                    and every tree then still has one word
--     First M s                      s is the least dart of its word
--     first_stays                    such a top stays, whatever is joined
--     first_leads                    and what is joined to it has it for its top
-- Assumes nothing.
use Prim.Native.Nat.{ℕ, zero, suc, ◌≤◌, ◌<◌}
use mathlib.Core.Path.{◌≡◌, refl, sym, ap, ◌∙◌}
use mathlib.Core.List.{List}
use native.Mathlib.Omega.{arith}
use native.Mathlib.Nat.{le_refl}
use lib.ListN.{length, take, replicate, length-replicate}
use lib.Seq.{length-take-le}
use Rattle.maps.specs.Least.{nth}
use Rattle.maps.specs.Map.{Map, IsDart}
use Rattle.maps.specs.Accepted.{Accepted}
use Rattle.maps.proofs.Accepted.{darts_most}
use Rattle.labels.specs.Queue.{labelling}
use Rattle.labels.proofs.Queue.{labelling_first}
use Rattle.labels.proofs.Reached.{labelling_numbers}
use Rattle.words.specs.Words.{word}
use Rattle.words.specs.Forest.{top_of, hang, under, joined, joined_all, Placed, JoinsAll}
use Rattle.words.proofs.Carried.{word_carried}
use Rattle.words.proofs.Labels.{SameWord}
use Rattle.words.proofs.Meaning.{words_matching, words_labels}
use Rattle.words.proofs.Forest.{Forest, nth-take, joined_all_front, none_over, descends_none, along_trees, top_of_top, top_of_over, top_of_le, nth_top_of, forest_hang, over_hang, top_of_hang, top_of_kept, Hung, second_hung, first_hung, one_tree, hung, joined_is, joined_all_zero, joined_all_suc}

-- what is over a dart has its word
pub record Kin (M : Map) (up : List ℕ) : Type 0 where
  pub forest : Forest up
  pub one_word : (d : ℕ) → 1 ≤ d → d ≤ M.darts → 0 < nth up d → word M (nth up d) ≡ word M d

-- at first no dart is under another
pub kin_none : (M : Map) → Kin M (replicate 1020 0)
kin_none M =
    record {
      forest = record { long = length-replicate {A = ℕ} 1020 0; lower = descends_none };
      one_word = λ d low high c. absurd (omega (arith, none_over d low));
    }

module _ {M : Map} {up : List ℕ} (k : Kin M up) where
  -- the top of a dart's tree has its word
  kin_top_both : (d : ℕ) → IsDart M d → IsDart M (top_of up d) × (word M (top_of up d) ≡ word M d)
  kin_top_both d dart =
      along_trees up k.forest.lower (λ d. d ≤ M.darts → IsDart M (top_of up d) × (word M (top_of up d) ≡ word M d))
      (λ d low e high. let own = top_of_top up d e in rw own ((low, high), refl))
      (λ d low c next high.
      let over = top_of_over up k.forest.lower d low c in
      let lower = k.forest.lower d low in
      let top = next (omega arith) in
      rw over (top.0, top.1 ∙ k.one_word d low high c))
      d dart.0 dart.1

  pub kin_top : (d : ℕ) → IsDart M d → IsDart M (top_of up d)
  kin_top d dart = (kin_top_both d dart).0

  pub kin_top_word : (d : ℕ) → IsDart M d → word M (top_of up d) ≡ word M d
  kin_top_word d dart = (kin_top_both d dart).1

-- what stands at each of the first k places of two queues has one word
pub record Alike (M : Map) (queue lead : List ℕ) (k : ℕ) : Type 0 where
  pub first : (j : ℕ) → 1 ≤ j → j ≤ k → IsDart M (nth queue j)
  pub second : (j : ℕ) → 1 ≤ j → j ≤ k → IsDart M (nth lead j)
  pub one_word : (j : ℕ) → 1 ≤ j → j ≤ k → word M (nth queue j) ≡ word M (nth lead j)

-- the first of a labelling is its start
pub queue_first : {M : Map} → Accepted M → (d : ℕ) (queue : List ℕ) → take M.darts queue ≡ labelling M d → nth queue 1 ≡ d
queue_first {M} a d queue is =
    sym (nth-take M.darts queue 1 a.bounds.darts_least) ∙ ap (λ (q : List ℕ). nth q 1) is ∙ labelling_first M d

-- a matching of the map with itself carries words along: the darts that have one label from d and from e have one word
pub tied_alike : {M : Map} → Accepted M → (d e : ℕ) → IsDart M d → IsDart M e → word M d ≡ word M e → {queue lead : List ℕ}
    → take M.darts queue ≡ labelling M d → take M.darts lead ≡ labelling M e → Alike M queue lead M.darts
tied_alike {M} a d e dart dart' same {queue} {lead} is is' =
    record {
      first = λ j low high. rw (first j low high) ((labelling_numbers a d dart).dart_there j low high);
      second = λ j low high. rw (second j low high) ((labelling_numbers a e dart').dart_there j low high);
      one_word = λ j low high.
          rw (first j low high, second j low high)
          (word_carried (words_matching s) a _ ((labelling_numbers a d dart).dart_there j low high) ∙ ap (word M) (words_labels s j low high));
    }
  where
    s : SameWord M d M e
    s = record { accepted = a; accepted' = a; start = dart; start' = dart'; same_dim = refl; same_word = same }

    first : (j : ℕ) → 1 ≤ j → j ≤ M.darts → nth queue j ≡ nth (labelling M d) j
    first j low high = sym (nth-take M.darts queue j high) ∙ ap (λ (q : List ℕ). nth q j) is

    second : (j : ℕ) → 1 ≤ j → j ≤ M.darts → nth lead j ≡ nth (labelling M e) j
    second j low high = sym (nth-take M.darts lead j high) ∙ ap (λ (q : List ℕ). nth q j) is'

module _ {M : Map} (a : Accepted M) where
  dart_placed : {d : ℕ} → IsDart M d → Placed d
  dart_placed dart = record { low = dart.0; high = omega (arith, dart.1, darts_most a.bounds) }

  pub alike_joins : {queue lead : List ℕ} → length queue ≡ 1020 → length lead ≡ 1020 → Alike M queue lead M.darts → JoinsAll (take M.darts queue) (take M.darts lead)
  alike_joins {queue} {lead} long_queue long_lead k =
      let few = darts_most a.bounds in
      let here : length (take M.darts queue) ≡ M.darts = length-take-le M.darts queue (omega arith) in
      let there : length (take M.darts lead) ≡ M.darts = length-take-le M.darts lead (omega arith) in
      record {
        as_long = there ∙ sym here;
        first = λ j low high. let inside : j ≤ M.darts = omega arith in rw (nth-take M.darts queue j inside) (dart_placed (k.first j low inside));
        second = λ j low high. let inside : j ≤ M.darts = omega arith in rw (nth-take M.darts lead j inside) (dart_placed (k.second j low inside));
      }

  -- a top goes under another of its word
  module _ {up : List ℕ} (k : Kin M up) (t r : ℕ) (t-dart : IsDart M t) (r-dart : IsDart M r) (below : r < t) (same : word M r ≡ word M t) where
    kin_hang : Kin M (hang up t r)
    kin_hang =
        record {
          forest = forest_hang up t r k.forest (dart_placed t-dart) r-dart.0 below;
          one_word = over_hang up t r k.forest (dart_placed t-dart) r-dart.0 below
              (λ d x. d ≤ M.darts → 0 < x → word M x ≡ word M d)
              (λ high c. same)
              k.one_word;
        }

  module _ {up : List ℕ} (k : Kin M up) (d e : ℕ) (d-dart : IsDart M d) (e-dart : IsDart M e) (same : word M d ≡ word M e) where
    first_top : IsDart M (top_of up d)
    first_top = kin_top k d d-dart

    second_top : IsDart M (top_of up e)
    second_top = kin_top k e e-dart

    tops_word : word M (top_of up d) ≡ word M (top_of up e)
    tops_word = kin_top_word k d d-dart ∙ same ∙ sym (kin_top_word k e e-dart)

    kin_joined : Kin M (joined up d e)
    kin_joined = rw (joined_is up d e) (at (hung up (top_of up d) (top_of up e)))
      where
        at : Hung up (top_of up d) (top_of up e) → Kin M (under up (top_of up d) (top_of up e))
        at (second_hung h is) = rw is (kin_hang k (top_of up e) (top_of up d) second_top first_top h tops_word)
        at (first_hung h is) = rw is (kin_hang k (top_of up d) (top_of up e) first_top second_top h (sym tops_word))
        at (one_tree h is) = rw is k

-- s is the least dart of its word
pub record First (M : Map) (s : ℕ) : Type 0 where
  pub dart : IsDart M s
  pub least : (e : ℕ) → IsDart M e → word M e ≡ word M s → s ≤ e

-- so it is a top
first_is_top : {M : Map} {up : List ℕ} {s : ℕ} → Kin M up → First M s → top_of up s ≡ s
first_is_top {M} {up} {s} k f =
    omega (arith, top_of_le up k.forest.lower s f.dart.0, f.least (top_of up s) (kin_top k s f.dart) (kin_top_word k s f.dart))

module _ {M : Map} (a : Accepted M) {s : ℕ} (f : First M s) where
  module _ {up : List ℕ} (k : Kin M up) (d e : ℕ) (d-dart : IsDart M d) (e-dart : IsDart M e) (same : word M d ≡ word M e) where
    abbrev first : ℕ
    first = top_of up d

    abbrev second : ℕ
    second = top_of up e

    -- of two tops of one word the greater is not s
    not_greater : (t r : ℕ) → IsDart M r → word M r ≡ word M t → r < t → t ≡ s → ⊥
    not_greater t r dart one below is = omega (arith, f.least r dart (one ∙ ap (word M) is))

    stays_joined : (x : ℕ) → 1 ≤ x → top_of up x ≡ s → top_of (joined up d e) x ≡ s
    stays_joined x low here = rw (joined_is up d e) (at (hung up first second))
      where
        one : word M first ≡ word M second
        one = tops_word a k d e d-dart e-dart same

        at : Hung up first second → top_of (under up first second) x ≡ s
        at (second_hung h is) =
            let dart = kin_top k d d-dart in
            rw is
            (top_of_kept up second first k.forest (dart_placed a (kin_top k e e-dart)) dart.0 h
            (nth_top_of up k.forest.lower e e-dart.0) (nth_top_of up k.forest.lower d d-dart.0)
            x low (λ z. not_greater second first dart one h (sym z ∙ here))
            ∙ here)
        at (first_hung h is) =
            let dart = kin_top k e e-dart in
            rw is
            (top_of_kept up first second k.forest (dart_placed a (kin_top k d d-dart)) dart.0 h
            (nth_top_of up k.forest.lower d d-dart.0) (nth_top_of up k.forest.lower e e-dart.0)
            x low (λ z. not_greater first second dart (sym one) h (sym z ∙ here))
            ∙ here)
        at (one_tree h is) = rw is here

  -- what is joined to s has it for its top
  leads_joined : {up : List ℕ} → Kin M up → (d : ℕ) → IsDart M d → word M d ≡ word M s → top_of (joined up d s) d ≡ s
  leads_joined {up} k d dart same = rw (joined_is up d s) (at (hung up (top_of up d) (top_of up s)))
    where
      top : top_of up s ≡ s
      top = first_is_top k f

      at : Hung up (top_of up d) (top_of up s) → top_of (under up (top_of up d) (top_of up s)) d ≡ s
      at (second_hung h is) = absurd (omega (arith, top, f.least (top_of up d) (kin_top k d dart) (kin_top_word k d dart ∙ same)))
      at (first_hung h is) =
          rw is
          (top_of_hang up (top_of up d) (top_of up s) k.forest (dart_placed a (kin_top k d dart)) (kin_top k s f.dart).0 h
          (nth_top_of up k.forest.lower d dart.0) (nth_top_of up k.forest.lower s f.dart.0) d dart.0 refl
          ∙ top)
      at (one_tree h is) = rw is (h ∙ top)

module _ {M : Map} (a : Accepted M) {up queue lead : List ℕ} {m : ℕ} (k : Kin M up) (alike : Alike M queue lead m) where
  abbrev after : ℕ → List ℕ
  after j = joined_all j queue lead up

  pub kin_joined_all : (j : ℕ) → j ≤ m → Kin M (joined_all j queue lead up)
  kin_joined_all zero h = rw (joined_all_zero queue lead up) k
  kin_joined_all (suc j) h =
      rw (joined_all_suc queue lead up j)
      (kin_joined a (kin_joined_all j (omega arith)) _ _ (alike.first (suc j) (omega arith) h) (alike.second (suc j) (omega arith) h) (alike.one_word (suc j) (omega arith) h))

  -- the same of the front of two queues
  pub kin_joined_front : length queue ≡ 1020 → m ≤ 1020 → Kin M (joined_all (length (take m queue)) (take m queue) (take m lead) up)
  kin_joined_front long few =
      rw (length-take-le m queue (omega arith), joined_all_front queue lead up m m (le_refl m)) (kin_joined_all m (le_refl m))

  module _ {s : ℕ} (f : First M s) where
    stays_more : (j : ℕ) → suc j ≤ m → (x : ℕ) → 1 ≤ x → top_of (after j) x ≡ s → top_of (after (suc j)) x ≡ s
    stays_more j h x low here =
        rw (joined_all_suc queue lead up j)
        (stays_joined a f (kin_joined_all j (omega arith)) _ _ (alike.first (suc j) (omega arith) h) (alike.second (suc j) (omega arith) h) (alike.one_word (suc j) (omega arith) h) x low here)

    -- the top s stays, whatever is joined
    pub first_stays : (j : ℕ) → j ≤ m → (x : ℕ) → 1 ≤ x → top_of up x ≡ s → top_of (joined_all j queue lead up) x ≡ s
    first_stays zero h x low here = rw (joined_all_zero queue lead up) here
    first_stays (suc j) h x low here = stays_more j h x low (first_stays j (omega arith) x low here)

    -- and leads the start that is tied with it
    pub first_leads : nth lead 1 ≡ s → (j : ℕ) → suc j ≤ m → top_of (joined_all (suc j) queue lead up) (nth queue 1) ≡ s
    first_leads is zero h =
        rw (joined_all_suc queue lead up 0, is)
        (leads_joined a f (kin_joined_all 0 (omega arith)) (nth queue 1) (alike.first 1 (omega arith) h) (alike.one_word 1 (omega arith) h ∙ ap (word M) is))
    first_leads is (suc j) h = stays_more (suc j) h (nth queue 1) (alike.first 1 (omega arith) (omega arith)).0 (first_leads is j (omega arith))
