-- The laws behind writing: a word put number by number behind a record's fields, and the record of a map's signature.
--     begun, begun_..       a record under way: its fields, numbers of its word, and zeros
--     room_enough           an output with room for every word is as good as none
--     made_refused, made_accepted, made_passed
--                           the answer of making a record, from what the signature call answers
--     signed_bounds, signed_fits, signed_shaped
--                           what an accepted map's word is written with
-- Assumes nothing.
use Prim.Native.Nat.{ℕ, zero, suc, ◌+◌, ◌-◌, ◌*◌, ◌/◌, ◌%◌, ◌≤◌, ◌<◌}
use mathlib.Core.Path.{◌≡◌, refl, sym, ap, ap₂, ◌∙◌}
use mathlib.Core.Bool.{true, false}
use mathlib.Core.List.{List, [], ◌∷◌, ◌++◌, flat_map, append-nil, append_assoc}
use native.Mathlib.Omega.{arith}
use native.Mathlib.Nat.{sub-zero}
use native.Mathlib.Numerals.{add-one}
use borrow.Author.Tests.{eq-eqb, eqb-true, le-leb}
use lib.Dec.{eqb}
use lib.Seq.{set_at, append_snoc, length-take-le, take_all, take-suc}
use Rattle.std.specs.Prelude.{Result, Ok, Err}
use Rattle.std.specs.Int.{w16, w32, to_le_bytes}
use Rattle.std.proofs.Math.Nat.{div-div-eq-div-mul}
use lib.ListN.{length, get_or, set, take, drop, replicate, length-append}
use Rattle.maps.specs.Given.{Given, Shaped, lent, map_of}
use Rattle.maps.specs.Accepted.{InBounds}
use Rattle.maps.specs.Verdict.{Verdict, accepted, accepts, in_order}
use Rattle.maps.specs.Rules.{judge_shape, judge_output}
use Rattle.maps.specs.Shown.{shown_refusal}
use Rattle.maps.specs.declared.Refusal.{Refusal}
use Rattle.maps.specs.declared.Output.TheVariants as output
use Rattle.maps.proofs.Answer.{refusal_refuses}
use Rattle.maps.proofs.Least.{Tested, passes, fails, tested}
use Rattle.maps.proofs.Verdict.{in_order_refused, in_order-accepts, unless_passed}
use Rattle.maps.proofs.Lines.{shows_clear, shape_shows, shape_clear}
use Rattle.labels.specs.Judging.{judge_map, table_answer, check_answer}
use Rattle.labels.proofs.Judging.{table_whole}
use Rattle.words.specs.Words.{signature}
use Rattle.words.specs.Sign.{SignatureAnswer, shown_signed, signature_answer, signature_output, SignsAs}
use Rattle.words.specs.declared.found.Signature.{Signature}
use Rattle.words.proofs.Sign.{over_front, over_long, length-signature, signing_shaped, signing_accepted, signing_room}
use Rattle.drawer.specs.Record.{to_bytes, record_size, record_bytes}
use Rattle.drawer.specs.Drawer.{layout_of}
use Rattle.drawer.proofs.Record.{length-to_bytes, table_bytes, length_table_bytes}

table_bytes_append : (v w : List ℕ) → table_bytes (v ++ w) ≡ table_bytes v ++ table_bytes w
unfolding flat_map
table_bytes_append [] w = refl
table_bytes_append (x ∷ v) w = rw (table_bytes_append v w) (sym (append_assoc (to_bytes 2 x) (table_bytes v) (table_bytes w)))

table_bytes_suc : (w : List ℕ) (i : ℕ) → i < length w → table_bytes (take (i + 1) w) ≡ table_bytes (take i w) ++ to_bytes 2 (get_or w i 0)
unfolding flat_map
table_bytes_suc w i inside =
    rw (add-one i, take-suc w i 0 inside)
    (table_bytes_append (take i w) (get_or w i 0 ∷ []) ∙ ap (λ (l : List ℕ). table_bytes (take i w) ++ l) (append-nil (to_bytes 2 (get_or w i 0))))

drop-replicate : (k n x : ℕ) → drop k (replicate n x) ≡ replicate (n - k) x
drop-replicate zero n x = rw (sub-zero n)
drop-replicate (suc k) zero x = let none : 0 - suc k ≡ 0 = omega arith in rw none
drop-replicate (suc k) (suc n) x =
    let less : suc n - suc k ≡ n - k = omega arith in
    rw less (drop-replicate k n x)

-- the fields of a record
abbrev head : ℕ → ℕ → ℕ → List ℕ
head die n m = to_bytes 4 die ++ to_bytes 1 n ++ (0 ∷ []) ++ to_bytes 2 m

-- the first i numbers of the word behind them, and zeros
abbrev pub begun : ℕ → ℕ → ℕ → List ℕ → ℕ → List ℕ
begun die n m word i = head die n m ++ table_bytes (take i word) ++ replicate (2040 - 2 * i) 0

-- d and l are the bytes of the die number and of m
pub begun_fields : (die n m : ℕ) (word d l filed : List ℕ) → n < 256 → d ≡ to_le_bytes w32 die → l ≡ to_le_bytes w16 m →
    filed ≡ (get_or d 0 0 ∷ get_or d 1 0 ∷ get_or d 2 0 ∷ get_or d 3 0 ∷ n ∷ 0 ∷ get_or l 0 0 ∷ get_or l 1 0 ∷ []) ++ drop 8 (replicate 2048 0) →
    filed ≡ begun die n m word 0
unfolding to_bytes flat_map
begun_fields die n m word d l filed h is_d is_l is =
    let two : die / 256 / 256 ≡ die / 65536 = div-div-eq-div-mul die 256 256 in
    let three : die / 256 / 256 / 256 ≡ die / 16777216 = ap (λ (k : ℕ). k / 256) two ∙ div-div-eq-div-mul die 65536 256 in
    let small : n % 256 ≡ n = omega arith in
    let bytes : List ℕ = die % 256 ∷ die / 256 % 256 ∷ die / 65536 % 256 ∷ die / 16777216 % 256 ∷ n ∷ 0 ∷ m % 256 ∷ m / 256 % 256 ∷ [] in
    let here : filed ≡ bytes ++ drop 8 (replicate 2048 0) = rw (is_d, is_l) at is in
    let fields : bytes ≡ head die n m ++ [] = λ i. die % 256 ∷ die / 256 % 256 ∷ (sym two i) % 256 ∷ (sym three i) % 256 ∷ sym small i ∷ 0 ∷ m % 256 ∷ m / 256 % 256 ∷ [] in
    here ∙ ap₂ (λ (a b : List ℕ). a ++ b) fields (drop-replicate 8 2048 0)

-- b is the bytes of the number x
pub begun_turn : (die n m : ℕ) (word : List ℕ) (i x : ℕ) (filed b : List ℕ) → filed ≡ begun die n m word i → i < length word → length word ≤ 1020 → x ≡ get_or word i 0 →
    b ≡ to_le_bytes w16 x → set (set filed (8 + 2 * i) (get_or b 0 0)) (9 + 2 * i) (get_or b 1 0) ≡ begun die n m word (i + 1)
unfolding to_bytes
begun_turn die n m word i x filed b so_far inside few is_x is =
    let at : ℕ = 8 + 2 * i in
    let front : List ℕ = head die n m ++ table_bytes (take i word) in
    let zeros : List ℕ = replicate (2040 - 2 * (i + 1)) 0 in
    let low : ℕ = x % 256 in
    let high : ℕ = x / 256 % 256 in
    let long : length front ≡ at = simp (length-append, length-to_bytes, length_table_bytes) (omega (arith, length-take-le i word (omega arith))) in
    let next : 9 + 2 * i ≡ at + 1 = omega arith in
    let left : 2040 - 2 * i ≡ suc (suc (2040 - 2 * (i + 1))) = omega arith in
    let here : filed ≡ front ++ (0 ∷ 0 ∷ zeros) = so_far ∙ ap (λ (k : ℕ). front ++ replicate k 0) left in
    let first : set filed at low ≡ front ++ (low ∷ 0 ∷ zeros) = ap (λ (l : List ℕ). set l at low) here ∙ set_at front 0 (0 ∷ zeros) low at long in
    let second : set (set filed at low) (9 + 2 * i) high ≡ (front ++ (low ∷ [])) ++ (high ∷ zeros) =
    rw (first, next, ← append_snoc front low (0 ∷ zeros)) (set_at (front ++ (low ∷ [])) 0 zeros high (at + 1) (simp length-append (omega (arith, long)))) in
    let more : front ++ to_bytes 2 x ≡ head die n m ++ table_bytes (take (i + 1) word) =
    append_assoc (head die n m) (table_bytes (take i word)) (to_bytes 2 x)
    ∙ ap (λ (l : List ℕ). head die n m ++ l) (sym (table_bytes_suc word i inside ∙ ap (λ (k : ℕ). table_bytes (take i word) ++ to_bytes 2 k) (sym is_x))) in
    rw is
    (second
    ∙ append_snoc front low (high ∷ zeros)
    ∙ sym (append_assoc front (to_bytes 2 x) zeros)
    ∙ ap (λ (l : List ℕ). l ++ zeros) more)

pub begun_whole : (die n m : ℕ) (word filed : List ℕ) (i : ℕ) → filed ≡ begun die n m word i → i ≡ length word → length word ≡ n * m →
    filed ≡ record_bytes (record { die = die; layout = lent n m word })
unfolding record_bytes record_size
begun_whole die n m word filed i is all long =
    let left : 2040 - 2 * i ≡ 2048 - 8 - 2 * (n * m) = omega arith in
    is ∙ ap₂ (λ (w : List ℕ) (k : ℕ). head die n m ++ table_bytes w ++ replicate k 0) (take_all i word (omega arith)) left

-- an output with room for 1,020 numbers is as good as none: 2 comes before 4
pub room_enough : (g : Given) (room : ℕ) → 1020 ≤ room → table_answer (output.Word room) g ≡ check_answer g
unfolding check_answer table_answer judge_output judge_shape
room_enough g room enough = at (tested (accepts (judge_shape g)))
  where
    at : Tested (accepts (judge_shape g)) → table_answer (output.Word room) g ≡ check_answer g
    at (fails e) = in_order_refused _ _ e ∙ sym (in_order_refused _ _ e)
    at (passes e) =
        let shaped = (shape_clear g).0 (shows_clear (shape_shows g) (in_order-accepts _ e)) in
        let small = shaped.bounds.table_most in
        ap (λ (v : Verdict). in_order (judge_shape g ∷ v ∷ judge_map (map_of g) ∷ [])) (unless_passed _ 4 0 (le-leb (g.n * g.m) room (omega arith)))

-- the number of the signature call's answer is that of the verdict on its table and output, and the place too
answer_number : (g : Given) (room : ℕ) → (signature_answer g room).number ≡ (table_answer (output.Word room) g).number
unfolding signature_answer accepts
answer_number g room = at (tested (accepts (table_answer (output.Word room) g)))
  where
    at : Tested (accepts (table_answer (output.Word room) g)) → (signature_answer g room).number ≡ (table_answer (output.Word room) g).number
    at (passes e) = simp e (sym (eqb-true _ 0 e))
    at (fails e) = simp e

answer_place : (g : Given) (room : ℕ) → accepts (table_answer (output.Word room) g) ≡ false → (signature_answer g room).place ≡ (table_answer (output.Word room) g).place
unfolding signature_answer
answer_place g room e = simp e

-- where the signature call has written its word to an output with room enough
module _ (g : Given) (held : List ℕ) (enough : 1020 ≤ length held) {s : Result Signature Refusal} {word : List ℕ} (signs : SignsAs g held s word) where
  -- the call's verdict
  abbrev v : Verdict
  v = table_answer (output.Word (length held)) g

  same_verdict : v ≡ check_answer g
  same_verdict = room_enough g (length held) enough

  pub made_refused : (e : Refusal) → s ≡ Err e → shown_refusal e ≡ check_answer g
  unfolding accepts
  made_refused e is =
      let shown : shown_signed (Err e) ≡ signature_answer g (length held) = ap shown_signed (sym is) ∙ signs.answer in
      let number : (shown_refusal e).number ≡ v.number = ap (λ (a : SignatureAnswer). a.number) shown ∙ answer_number g (length held) in
      let refuses : accepts v ≡ false = sym (ap (λ (k : ℕ). eqb k 0) number) ∙ refusal_refuses e in
      let place : (shown_refusal e).place ≡ v.place = ap (λ (a : SignatureAnswer). a.place) shown ∙ answer_place g (length held) refuses in
      (λ i. record { number = number i; place = place i }) ∙ same_verdict

  module _ (a : Signature) (is : s ≡ Ok a) where
    accepting : accepts v ≡ true
    unfolding accepts
    accepting =
        let number : v.number ≡ 0 = sym (answer_number g (length held)) ∙ sym (ap (λ (b : SignatureAnswer). b.number) (ap shown_signed (sym is) ∙ signs.answer)) in
        eq-eqb v.number 0 number

    pub made_accepted : check_answer g ≡ accepted
    made_accepted = sym same_verdict ∙ table_whole (output.Word (length held)) g accepting

    pub signed_bounds : InBounds g.n g.m
    signed_bounds = (signing_shaped g held accepting).bounds

    signature_long : length (signature (map_of g)) ≡ g.n * g.m
    unfolding map_of
    signature_long = length-signature (signing_accepted g held accepting)

    signed_long : length word ≡ length held
    unfolding signature_output
    signed_long = ap length signs.written ∙ simp accepting (over_long (signature (map_of g)) held (rw signature_long (signing_room g held accepting)))

    pub signed_fits : g.n * g.m ≤ length word
    signed_fits = omega (arith, signed_long, signed_bounds.table_most)

    -- the word is a table of n and m
    pub signed_shaped : Shaped (lent g.n g.m (take (g.n * g.m) word))
    signed_shaped = record { bounds = signed_bounds; long = length-take-le (g.n * g.m) word signed_fits }

    -- the signature stands in front
    signature_front : take (g.n * g.m) word ≡ signature (map_of g)
    unfolding signature_output
    signature_front = ap (take (g.n * g.m)) signs.written ∙ simp accepting (over_front (signature (map_of g)) held (g.n * g.m) signature_long)

    pub made_passed : (die : ℕ) (filed : List ℕ) → filed ≡ record_bytes (record { die = die; layout = lent g.n g.m (take (g.n * g.m) word) }) →
        filed ≡ record_bytes (record { die = die; layout = layout_of g })
    unfolding layout_of
    made_passed die filed put = put ∙ ap (λ (w : List ℕ). record_bytes (record { die = die; layout = lent g.n g.m w })) signature_front
