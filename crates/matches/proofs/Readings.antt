-- The readings of document 01 that look right and aren't ("Readings that look right and aren't"), each under its sentence there.
-- A law `..-wrong` refutes the reading, from maps that stand above it; what our definitions say in its place stands beside it.
--     without_dim_wrong        equal signatures alone give no matching
--     wrong_labelling          the labelling that tries β1, .. βn alone
--     without_back_nothing     from a dart with no sewing but β0 it finds nothing, `without_back_chain` in a chain of any length
--     without_back_wrong       so it leaves darts of an accepted map without a label, and `with_back_all`, ours, leaves none
--     wrong_bytes              a word whose numbers are held in bytes
--     in_bytes_wrong           n, m and such signatures may be equal where there is no matching
--     first_dart_wrong         maps that have a matching need not have one word from dart 1
--     wrong_clash              rule 6 without its test for 0: `clash_wrong`, it refuses an accepted map
--     unsewn_given             rule 6 passes every unsewn edge
--     WrongMatching            a matching that is asked of the sewn edges alone: `sewn_alone_wrong`, it is none
--     matching_unsewn          an edge is unsewn exactly when a matching takes it to an unsewn one
-- What begins `wrong` is a wrong reading, and cited nowhere else. Assumes nothing.
use Prim.Native.Nat.{ℕ, zero, suc, ◌-◌, ◌%◌, ◌≤◌, ◌<◌}
use mathlib.Core.Path.{◌≡◌, refl, sym, ap, ◌∙◌}
use mathlib.Core.Bool.{Bool, true, false, ◌&&◌}
use mathlib.Core.List.{List, [], ◌∷◌, map}
use mathlib.Core.Logic.{◌↔◌}
use native.Mathlib.Omega.{arith}
use lib.Dec.{eqb, ltb}
use lib.ListN.{length}
use Rattle.maps.specs.Least.{nth, up_to, some}
use Rattle.maps.specs.Map.{Map, IsDart, sew}
use Rattle.maps.specs.Accepted.{OpenMap, Accepted}
use Rattle.maps.specs.Matching.{Matching, Matched}
use Rattle.maps.specs.Given.{Given, lent, map_of}
use Rattle.maps.specs.Verdict.{accepted, refused}
use Rattle.maps.specs.Rules.{given_before}
use Rattle.maps.proofs.Least.{Tested, passes, fails, tested, nth-zero, map_append, true_not_false}
use Rattle.maps.proofs.Map.{sew_zero, sew_beta, sew_high}
use Rattle.maps.proofs.Matching.{image_zero}
use Rattle.labels.specs.Queue.{label_in, visits, labelling}
use Rattle.labels.specs.Judging.{check_answer}
use Rattle.labels.specs.Theorems.{CheckAccepts}
use Rattle.labels.proofs.Queue.{visit_nothing, visits-append}
use Rattle.labels.proofs.Reached.{labelling_numbers}
use Rattle.labels.proofs.Theorems.{check_accepts}
use Rattle.words.specs.Words.{word, signature}
use Rattle.words.proofs.Opened.{opened}
use Rattle.words.proofs.Meaning.{signature_complete}
use Rattle.words.specs.Match.{match_answer}
use Rattle.matches.specs.Judge.{bad_image, parts, judge_answer}
use Rattle.matches.specs.Bench.{case_c, case_d, matched}
use Rattle.matches.proofs.Chains.{label_in-up_to, chain, chain_unlooped, Last, chain_last, chain_accepted, chain_labelling, chain_read}

-- a table that the plain check passes is that of an accepted map
pub checked_accepted : (g : Given) → check_answer g ≡ accepted → Accepted (map_of g)
unfolding CheckAccepts
checked_accepted g passed = ((check_accepts g).0 passed).1

-- an edge is unsewn exactly when a matching takes it to an unsewn one (the last reading, and the third)
pub matching_unsewn : {M M' : Map} {f : List ℕ} → OpenMap M → Matching M M' f →
    (i d : ℕ) → 1 ≤ i → IsDart M d → (sew M i d ≡ 0) ↔ (sew M' i (nth f d) ≡ 0)
matching_unsewn {M} {M'} {f} o m i d low h =
    let kept = m.keeps i d low h in
    (λ z. sym kept ∙ ap (nth f) z ∙ nth-zero f, λ z. image_zero m (sew M i d) (o.to_darts i d) (kept ∙ z))

-- 01: "Comparing words without n: C and D share 0,1."

pub c_accepted : Accepted (map_of case_c)
unfolding opened case_c
c_accepted = checked_accepted case_c refl

pub d_accepted : Accepted (map_of case_d)
unfolding opened case_d
d_accepted = checked_accepted case_d refl

pub c_signature : signature (map_of case_c) ≡ 0 ∷ 1 ∷ []
unfolding opened case_c
c_signature = refl

pub d_signature : signature (map_of case_d) ≡ 0 ∷ 1 ∷ []
unfolding opened case_d
d_signature = refl

-- maps of two dimensions have no matching
pub without_dim_unmatched : (M M' : Map) → ¬ (M.dim ≡ M'.dim) → ¬ Matched M M'
unfolding Matched
without_dim_unmatched M M' apart m = apart m.1.same_dim

pub c_d_unmatched : ¬ Matched (map_of case_c) (map_of case_d)
unfolding opened case_c case_d
c_d_unmatched = without_dim_unmatched (map_of case_c) (map_of case_d) (λ e. omega arith)

pub c_d_answer : matched case_c case_d ≡ refused 10 0
unfolding opened matched case_c case_d match_answer
c_d_answer = refl

pub without_dim_wrong : ¬ ((M M' : Map) → Accepted M → Accepted M' → signature M ≡ signature M' → Matched M M')
without_dim_wrong reading = c_d_unmatched (reading (map_of case_c) (map_of case_d) c_accepted d_accepted (c_signature ∙ sym d_signature))

-- 01: "Labelling without β0: a start at the end of an open chain finds nothing."

-- `labelling`, but that a served dart tries β1, .. βn alone
unfoldable pub wrong_serve : Map → List ℕ → ℕ → List ℕ
wrong_serve M q d = visits q (map (λ i. sew M i d) (up_to M.dim))

unfoldable pub wrong_served : Map → ℕ → ℕ → List ℕ
wrong_served M d zero = d ∷ []
wrong_served M d (suc k) =
    let q = wrong_served M d k in
    wrong_serve M q (nth q (suc k))

unfoldable pub wrong_labelling : Map → ℕ → List ℕ
wrong_labelling M d = wrong_served M d M.darts

visits_nothing : (M : Map) (q : List ℕ) (d : ℕ) → Last M d → (k : ℕ) → visits q (map (λ i. sew M i d) (up_to k)) ≡ q
unfolding visits up_to
visits_nothing M q d none zero = refl
visits_nothing M q d none (suc k) =
    rw (map_append (λ i. sew M i d) (up_to k) (suc k ∷ []))
    (visits-append q (map (λ i. sew M i d) (up_to k)) (sew M (suc k) d ∷ [])
    ∙ visit_nothing _ (sew M (suc k) d) (none (suc k) (omega arith))
    ∙ visits_nothing M q d none k)

wrong_serve_nothing : (M : Map) (q : List ℕ) (d : ℕ) → Last M d → wrong_serve M q d ≡ q
unfolding wrong_serve
wrong_serve_nothing M q d none = visits_nothing M q d none M.dim

module _ (M : Map) (d : ℕ) (none : Last M d) where
  -- the start is served, and then nothing
  next : (k : ℕ) → Last M (nth (d ∷ []) (suc k))
  unfolding nth
  next zero i low = none i low
  next (suc k) i low = sew_zero M i 0

  wrong_served_nothing : (k : ℕ) → wrong_served M d k ≡ d ∷ []
  unfolding wrong_served
  wrong_served_nothing zero = refl
  wrong_served_nothing (suc k) = rw (wrong_served_nothing k) (wrong_serve_nothing M (d ∷ []) (nth (d ∷ []) (suc k)) (next k))

  -- from a dart with no sewing but β0 it finds nothing
  pub without_back_nothing : wrong_labelling M d ≡ d ∷ []
  unfolding wrong_labelling
  without_back_nothing = wrong_served_nothing M.darts

-- so from the end of an open chain, of any length, where ours finds every dart
pub without_back_chain : (m : ℕ) → 1 ≤ m → (wrong_labelling (chain m false) 1 ≡ 1 ∷ []) × (labelling (chain m false) 1 ≡ up_to m)
without_back_chain m least = (without_back_nothing (chain m false) 1 (chain_last m least), chain_labelling m false least)

pub without_back_c : (wrong_labelling (map_of case_c) 2 ≡ 2 ∷ []) × (labelling (map_of case_c) 2 ≡ 2 ∷ 1 ∷ [])
unfolding opened case_c wrong_serve wrong_served wrong_labelling
without_back_c = (refl, refl)

pub without_back_wrong : ¬ ((M : Map) (d : ℕ) → Accepted M → IsDart M d → length (wrong_labelling M d) ≡ M.darts)
unfolding opened case_c wrong_serve wrong_served wrong_labelling
without_back_wrong reading = let one-two : ◌≡◌ {A = ℕ} 1 2 = reading (map_of case_c) 2 c_accepted (omega arith) in omega arith

-- ours labels every dart of an accepted map
pub with_back_all : (M : Map) (d : ℕ) → Accepted M → IsDart M d → length (labelling M d) ≡ M.darts
with_back_all M d a h = (labelling_numbers a d h).long

-- 01: "Labels in a byte: dart 256 reads as unsewn."

-- a word whose numbers are held in bytes
unfoldable pub wrong_bytes : List ℕ → List ℕ
wrong_bytes = map (λ k. k % 256)

-- in a chain of 256 darts, dart 256 has label 256
pub in_bytes_label : (looped : Bool) → label_in (labelling (chain 256 looped) 1) 256 ≡ 256
in_bytes_label looped = rw (chain_labelling 256 looped (omega arith)) (label_in-up_to 256 256 (omega arith) (omega arith))

pub chain256_accepted : (looped : Bool) → Accepted (chain 256 looped)
chain256_accepted looped = chain_accepted 256 looped (omega arith) (omega arith)

-- β2 sews dart 256 to itself, or to nothing: in bytes that is one signature
pub in_bytes_signature : wrong_bytes (signature (chain 256 true)) ≡ wrong_bytes (signature (chain 256 false))
unfolding wrong_bytes
in_bytes_signature = chain_read (λ k. k % 256) 256 (omega arith) refl (omega arith)

-- but there is no matching
pub in_bytes_unmatched : ¬ Matched (chain 256 true) (chain 256 false)
unfolding Matched
in_bytes_unmatched m = omega (arith, unsewn, sew_beta (chain 256 true) 2 256 last (omega arith) (omega arith))
  where
    last : IsDart (chain 256 true) 256
    last = omega arith

    unsewn : sew (chain 256 true) 2 256 ≡ 0
    unsewn = (matching_unsewn (chain256_accepted true).open_map m.1 2 256 (omega arith) last).1 (chain_unlooped 256 (nth m.0 256))

pub in_bytes_wrong : ¬ ((M M' : Map) → Accepted M → Accepted M' → M.dim ≡ M'.dim → M.darts ≡ M'.darts →
    wrong_bytes (signature M) ≡ wrong_bytes (signature M') → Matched M M')
in_bytes_wrong reading =
    in_bytes_unmatched (reading (chain 256 true) (chain 256 false) (chain256_accepted true) (chain256_accepted false) refl refl in_bytes_signature)

-- 01: "Starting only from dart 1: the word then depends on how the die was numbered."

-- C with its two darts numbered the other way round
unfoldable pub turned_c : Given
turned_c = lent 1 2 (0 ∷ 1 ∷ [])

pub turned_c_accepted : Accepted (map_of turned_c)
unfolding opened turned_c
turned_c_accepted = checked_accepted turned_c refl

pub first_dart_words : (word (map_of case_c) 1 ≡ 2 ∷ 0 ∷ []) × (word (map_of turned_c) 1 ≡ 0 ∷ 1 ∷ [])
unfolding opened case_c turned_c
first_dart_words = (refl, refl)

pub first_dart_signature : signature (map_of case_c) ≡ signature (map_of turned_c)
unfolding opened case_c turned_c
first_dart_signature = refl

pub first_dart_matched : Matched (map_of case_c) (map_of turned_c)
unfolding opened case_c turned_c
first_dart_matched = (signature_complete c_accepted turned_c_accepted).0 (refl, refl, first_dart_signature)

pub first_dart_wrong : ¬ ((M M' : Map) → Accepted M → Accepted M' → Matched M M' → word M 1 ≡ word M' 1)
first_dart_wrong reading =
    let same = reading (map_of case_c) (map_of turned_c) c_accepted turned_c_accepted first_dart_matched in
    let z : ◌≡◌ {A = ℕ} 0 1 = cc (first_dart_words.0, first_dart_words.1, same) in
    omega arith

-- 01: "Counting two unsewn edges as a β1 clash."

-- `given_before`, without its test that β1(d) is not 0
unfoldable pub wrong_clash : Map → ℕ → ℕ → Bool
wrong_clash M d i = eqb i 1 && some (d - 1) (λ e. eqb (sew M 1 e) (sew M 1 d))

-- two darts that β2 sews to one another, and β1 to nothing
unfoldable pub pair : Given
pair = lent 2 2 (0 ∷ 2 ∷ 0 ∷ 1 ∷ [])

pub pair_accepted : Accepted (map_of pair)
unfolding opened pair
pair_accepted = checked_accepted pair refl

pub clash_pair : (wrong_clash (map_of pair) 2 1 ≡ true) × (given_before (map_of pair) 2 1 ≡ false)
unfolding opened pair wrong_clash
clash_pair = (refl, refl)

pub clash_wrong : ¬ ((M : Map) (d i : ℕ) → Accepted M → wrong_clash M d i ≡ false)
clash_wrong reading = true_not_false clash_pair.0 (reading (map_of pair) 2 1 pair_accepted)

-- rule 6 passes every unsewn edge
pub unsewn_given : (M : Map) (d i : ℕ) → sew M 1 d ≡ 0 → given_before M d i ≡ false
unfolding given_before
unsewn_given M d i z = at (tested (eqb i 1))
  where
    at : Tested (eqb i 1) → eqb i 1 && ltb 0 (sew M 1 d) && some (d - 1) (λ e. eqb (sew M 1 e) (sew M 1 d)) ≡ false
    at (passes e) = simp (e, z)
    at (fails e) = simp e

-- 01: "Matching an unsewn edge to a sewn one."

-- a one-to-one list of images, as a matching is, that is asked to keep the sewn edges alone
pub record WrongMatching (M M' : Map) (f : List ℕ) : Type 0 where
  pub same_dim : M.dim ≡ M'.dim
  pub same_darts : M.darts ≡ M'.darts
  pub long : length f ≡ M.darts
  pub one_to_one_onto : bad_image M.darts f ≡ 0
  pub keeps_sewn : (i d : ℕ) → 1 ≤ i → IsDart M d → 0 < sew M i d → nth f (sew M i d) ≡ sew M' i (nth f d)

-- A's dart is sewn to nothing, B's to itself
unfoldable pub case_a : Given
case_a = lent 1 1 (0 ∷ [])

unfoldable pub case_b : Given
case_b = lent 1 1 (1 ∷ [])

pub a_accepted : Accepted (map_of case_a)
unfolding opened case_a
a_accepted = checked_accepted case_a refl

pub b_accepted : Accepted (map_of case_b)
unfolding opened case_b
b_accepted = checked_accepted case_b refl

a_unsewn : (i d : ℕ) → 1 ≤ i → IsDart (map_of case_a) d → sew (map_of case_a) i d ≡ 0
unfolding opened case_a
a_unsewn zero d low h = absurd (omega arith)
a_unsewn (suc zero) d low h = let one : d ≡ 1 = omega arith in rw one
a_unsewn (suc (suc i)) d low h = sew_high (map_of case_a) (suc (suc i)) d (omega arith)

pub sewn_alone_matching : WrongMatching (map_of case_a) (map_of case_b) (1 ∷ [])
unfolding opened case_a case_b bad_image
sewn_alone_matching =
    record {
      same_dim = refl;
      same_darts = refl;
      long = refl;
      one_to_one_onto = refl;
      keeps_sewn = λ i d low h pos. absurd (omega (arith, a_unsewn i d low h));
    }

pub sewn_alone_unmatched : ¬ Matched (map_of case_a) (map_of case_b)
unfolding opened Matched case_a case_b
sewn_alone_unmatched m = omega (arith, rw one at unsewn)
  where
    one : nth m.0 1 ≡ 1
    one = omega (arith, m.1.to_darts 1 (omega arith))

    unsewn : sew (map_of case_b) 1 (nth m.0 1) ≡ 0
    unsewn = (matching_unsewn a_accepted.open_map m.1 1 1 (omega arith) (omega arith)).0 refl

-- the match gives 10, and the judging of the list 12
pub sewn_alone_answers : (matched case_a case_b ≡ refused 10 0) × (judge_answer case_a case_b (1 ∷ []) ≡ refused 12 1)
unfolding opened matched case_a case_b bad_image parts judge_answer
sewn_alone_answers = (refl, refl)

pub sewn_alone_wrong : ¬ ((M M' : Map) (f : List ℕ) → Accepted M → Accepted M' → WrongMatching M M' f → Matched M M')
sewn_alone_wrong reading = sewn_alone_unmatched (reading (map_of case_a) (map_of case_b) (1 ∷ []) a_accepted b_accepted sewn_alone_matching)
