-- What words and signatures say of maps (theorems 4 to 9 of docs/PROMISES.md; 000, theorems 1 and 2 and definition 9).
--     labels_matching         4: the labelling is a matching of the map with its word, read as a dart table
--     words_matching          6: equal words give a matching, the one that keeps labels
--     words_matching_only     6: and no other takes d to d'
--     word_complete           5 and 6: 000, theorem 1
--     words_complete          000, theorem 2
--     signature_complete      8: 000, theorem 2 for the signature of definition 9
--     signature_checked, signature_accepted, signature_signature, signature_start
--                             9: a signature read as a table is accepted, and is its own signature, from start 1
-- 5 alone is `word_carried` of `Carried`; 7 is in `Matching` of `maps`; 000, proposition 1, is `labelling_numbers` of `Reached`
-- of `labels`. Assumes nothing.
use Prim.Native.Nat.{ℕ, ◌*◌, ◌≤◌}
use mathlib.Core.Path.{◌≡◌, sym, ap, ◌∙◌}
use mathlib.Core.List.{List}
use mathlib.Core.Logic.{◌↔◌}
use native.Mathlib.Nat.{le_refl, le_antisymm}
use lib.ListN.{length}
use Rattle.maps.specs.Least.{nth}
use Rattle.maps.specs.Map.{Map, IsDart}
use Rattle.maps.specs.Accepted.{Accepted}
use Rattle.maps.specs.Matching.{Matching, Matched}
use Rattle.maps.specs.Given.{lent}
use Rattle.maps.specs.Verdict.{accepted}
use Rattle.maps.proofs.Least.{nth-map-up_to}
use Rattle.maps.proofs.Matching.{matching_by, accepted_carried}
use Rattle.labels.specs.Queue.{label_in, labelling}
use Rattle.labels.specs.Judging.{check_answer}
use Rattle.labels.specs.Theorems.{CheckAccepts}
use Rattle.labels.proofs.Theorems.{check_accepts}
use Rattle.labels.proofs.Queue.{labelling_start, labelling_first}
use Rattle.labels.proofs.Carried.{matching_by_one}
use Rattle.words.specs.Theorems.{read_as, Covers, SameWords, SharedWord, SameSignature, labels_from}
use Rattle.words.specs.Words.{word, signature, start, by_labels}
use Rattle.words.proofs.Order.{signature-same, start_dart, start_word, start_least}
use Rattle.words.proofs.Words.{length_word}
use Rattle.words.proofs.Carried.{word_carried}
use Rattle.words.proofs.Labels.{with_label, numbers, labels_matches, SameWord, label_matches}

module _ {M : Map} (a : Accepted M) (d : ℕ) (h : IsDart M d) where
  -- 4: the labelling is a matching of the map with its word, read as a dart table
  pub labels_matching : Matching M (read_as M (word M d)) (labels_from M d)
  unfolding labels_from
  labels_matching = matching_by a.open_map (labels_matches a d h)

  -- 4: it takes d to 1
  pub labels_start : nth (labels_from M d) d ≡ 1
  unfolding labels_from
  labels_start = nth-map-up_to (label_in (labelling M d)) M.darts d h.0 h.1 ∙ labelling_start M d

  -- so the word read as a table has from dart 1 that word
  pub word_read : word (read_as M (word M d)) 1 ≡ word M d
  word_read = ap (word (read_as M (word M d))) (sym labels_start) ∙ sym (word_carried labels_matching a d h)

module _ {M : Map} {d : ℕ} {M' : Map} {d' : ℕ} (s : SameWord M d M' d') where
  -- 6; 000, theorem 1, backward: equal words give a matching
  pub words_matching : Matching M M' (by_labels M d M' d')
  unfolding by_labels with_label
  words_matching = matching_by s.accepted.open_map (label_matches s)

  -- 6: it takes the dart labelled k to the dart labelled k
  pub words_labels : (k : ℕ) → 1 ≤ k → k ≤ M.darts → nth (by_labels M d M' d') (nth (labelling M d) k) ≡ nth (labelling M' d') k
  unfolding by_labels with_label
  words_labels k low high =
      let n = numbers s.accepted d s.start in
      let e = n.dart_there k low high in
      nth-map-up_to (with_label M d M' d') M.darts (nth (labelling M d) k) e.0 e.1 ∙ ap (nth (labelling M' d')) (n.label_of k low high)

  -- 6: so it takes d to d'
  pub words_start : nth (by_labels M d M' d') d ≡ d'
  words_start =
      ap (nth (by_labels M d M' d')) (sym (labelling_first M d))
      ∙ words_labels 1 (le_refl 1) s.accepted.bounds.darts_least
      ∙ labelling_first M' d'

  -- 6: and no other matching does
  pub words_matching_only : {g : List ℕ} → Matching M M' g → nth g d ≡ d' → g ≡ by_labels M d M' d'
  words_matching_only m to = matching_by_one s.accepted m words_matching d s.start (to ∙ sym words_start)

module _ {M M' : Map} (a : Accepted M) (a' : Accepted M') where
  -- a word that they share gives a matching
  shared_matched : M.dim ≡ M'.dim → SharedWord M M' → Matched M M'
  unfolding Matched
  shared_matched same_dim w = (by_labels M w.0 M' w.1, words_matching s)
    where
      s : SameWord M w.0 M' w.1
      s = record { accepted = a; accepted' = a'; start = w.2; start' = w.3; same_dim = same_dim; same_word = w.4 }

  -- 5, of all starts: a matching keeps the set of words
  pub words_carried : {f : List ℕ} → Matching M M' f → SameWords M M'
  words_carried {f} m = (λ d h. (nth f d, m.to_darts d h, word_carried m a d h), back)
    where
      back : Covers M' M
      back e h =
          let d = m.onto e h in
          (d.0, d.1, ap (word M') (sym d.2) ∙ sym (word_carried m a d.0 d.1))

  -- maps of the same words share the word from dart 1
  words_shared : SameWords M M' → SharedWord M M'
  words_shared w =
      let one : IsDart M 1 = (le_refl 1, a.bounds.darts_least) in
      let e = w.0 1 one in
      (1, e.0, one, e.1, e.2)

  -- 8, forward: a matching keeps the signature
  pub signature_carried : {f : List ℕ} → Matching M M' f → signature M ≡ signature M'
  signature_carried m = signature-same M M' a.bounds.darts_least (words_carried m).0 (words_carried m).1

  -- equal signatures are a word that the starts share
  signature_shared : signature M ≡ signature M' → SharedWord M M'
  signature_shared same =
      let some = a.bounds.darts_least in
      let some' = a'.bounds.darts_least in
      (start M, start M', start_dart M some, start_dart M' some', start_word M some ∙ same ∙ sym (start_word M' some'))

  -- 5 and 6: maps of one dimension have a matching exactly when they share a word
  pub word_complete : M.dim ≡ M'.dim → Matched M M' ↔ SharedWord M M'
  unfolding Matched
  word_complete same_dim = (λ m. words_shared (words_carried m.1), shared_matched same_dim)

  -- and exactly when all their words are the same
  pub words_complete : M.dim ≡ M'.dim → Matched M M' ↔ SameWords M M'
  unfolding Matched
  words_complete same_dim = (λ m. words_carried m.1, λ w. shared_matched same_dim (words_shared w))

  -- 8: dimension, dart count and signature are equal exactly when a matching exists (the dart count follows from the other two)
  pub signature_complete : SameSignature M M' ↔ Matched M M'
  unfolding Matched
  signature_complete = (
    λ same. shared_matched same.0 (signature_shared same.2),
    λ m. (m.1.same_dim, m.1.same_darts, signature_carried m.1),
  )

module _ {M : Map} (a : Accepted M) where
  some_dart : 1 ≤ M.darts
  some_dart = a.bounds.darts_least

  -- 4, from the start: the map has a matching with its signature, read as a dart table
  pub signature_matching : Matching M (read_as M (signature M)) (labels_from M (start M))
  signature_matching = rw (start_word M some_dart) at (labels_matching a (start M) (start_dart M some_dart))

  -- 9: a signature read as a table is accepted
  pub signature_accepted : Accepted (read_as M (signature M))
  signature_accepted = accepted_carried signature_matching a

  -- 9: the plain check takes it as it stands, since it has n·m numbers
  pub signature_checked : check_answer (lent M.dim M.darts (signature M)) ≡ accepted
  unfolding CheckAccepts
  signature_checked =
      let long : length (signature M) ≡ M.dim * M.darts =
      ap length (sym (start_word M some_dart)) ∙ length_word a (start M) (start_dart M some_dart) in
      (check_accepts (lent M.dim M.darts (signature M))).1 (long, signature_accepted)

  -- 9: and is its own signature
  pub signature_signature : signature (read_as M (signature M)) ≡ signature M
  signature_signature = sym (signature_carried a signature_accepted signature_matching)

  -- 9: from start 1
  pub signature_start : start (read_as M (signature M)) ≡ 1
  signature_start = le_antisymm (start_least S some 1 (le_refl 1) (from_one ∙ sym signature_signature)) (start_dart S some).0
    where
      S : Map
      S = read_as M (signature M)

      some : 1 ≤ S.darts
      some = signature_accepted.bounds.darts_least

      from_one : word S 1 ≡ signature M
      from_one = rw (start_word M some_dart) at (word_read a (start M) (start_dart M some_dart))
