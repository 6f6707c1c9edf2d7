-- The laws of `specs/Sign.antt`: what `signature` answers, from the verdict on its table and output.
--     take-replicate           the first of equal numbers
--     over_front, over_long    what is written over a list stands in front, and keeps its length
--     signed_refused           a refusal: its number and place, and the output as it was
--     length-signature         a signature has n·m numbers
--     signed_run               what the run has found, copied to the output, is the answer
--     signing_room             where the verdict accepts, the output is long enough
--     shown_only               an answer is told by its numbers
--     signed_of                the answer that stands for numbers
--     shown-signed, shown_answer
--                              an answer's numbers are those of the definition, and all others are 0 in a refused one
--     signed_back              and every answer is the one that its numbers stand for
--     signed_only              no second answer fits
--     signing_shows            they are what the call's lines show
-- Assumes nothing.
use Prim.Native.Nat.{ℕ, zero, suc, ◌*◌, ◌≤◌}
use mathlib.Core.Path.{◌≡◌, refl, sym, ap, ◌∙◌}
use mathlib.Core.Bool.{true, false, cond}
use mathlib.Core.List.{List, ◌∷◌, ◌++◌}
use native.Mathlib.Omega.{arith}
use native.Mathlib.Nat.{le_of_suc-le-suc}
use borrow.Author.Tests.{eq-eqb, ne_eqb, leb-true}
use lib.Dec.{eqb}
use lib.ListN.{length, take, drop, replicate, length-append, length-drop}
use lib.Seq.{take-append_seam}
use Rattle.maps.specs.Map.{Map}
use Rattle.maps.specs.Accepted.{Accepted}
use Rattle.maps.specs.Given.{Given, map_of, Shaped}
use Rattle.maps.specs.Verdict.{Verdict, accepted, refused, accepts}
use Rattle.maps.specs.Lines.{Shows, table_lines}
use Rattle.maps.specs.Rules.{judge_output}
use Rattle.std.specs.Prelude.{Result, Ok, Err}
use Rattle.maps.specs.Shown.{shown_refusal}
use Rattle.maps.specs.declared.Refusal.{Refusal}
use Rattle.maps.specs.declared.Output.TheVariants as output
use Rattle.maps.proofs.Least.{Tested, passes, fails, tested}
use Rattle.maps.proofs.Verdict.{unless-accepts}
use Rattle.maps.proofs.Answer.{refusal_only, refusal_low, refusal_at, refusal_back, Answered, answers_ok, answers_err, err_refuses}
use Rattle.labels.specs.Judging.{table_answer}
use Rattle.labels.proofs.Judging.{table_shows, table_clear, table_whole, table_answered}
use Rattle.words.specs.Words.{signature}
use Rattle.words.specs.Sign.{SignatureAnswer, shown_signed, signature_answer, signature_output, over, SignsAs}
use Rattle.words.specs.Inside.{Signs}
use Rattle.words.specs.declared.found.Signature.{Signature}
use Rattle.words.proofs.Words.{length_word}
use Rattle.words.proofs.Order.{signature_one}

pub take-replicate : (k n x : ℕ) → k ≤ n → take k (replicate n x) ≡ replicate k x
take-replicate zero n x h = refl
take-replicate (suc k) zero x h = absurd (omega arith)
take-replicate (suc k) (suc n) x h = ap (λ (l : List ℕ). x ∷ l) (take-replicate k n x (le_of_suc-le-suc h))

-- what stands in front after writing over
pub over_front : (w held : List ℕ) (k : ℕ) → length w ≡ k → take k (over w held) ≡ w
unfolding over
over_front w held k e = rw (← e) (take-append_seam w (drop (length w) held))

pub over_long : (w held : List ℕ) → length w ≤ length held → length (over w held) ≡ length held
unfolding over
over_long w held fits = simp (length-append, length-drop) (omega arith)

-- a signature has n·m numbers
pub length-signature : {M : Map} → Accepted M → length (signature M) ≡ M.dim * M.darts
length-signature {M} a =
    let one = signature_one M a.bounds.darts_least in
    ap length (sym one.2) ∙ length_word a one.0 one.1

module _ (g : Given) (out : List ℕ) where
  -- the verdict on the table and the output
  abbrev v : Verdict
  v = table_answer (output.Word (length out)) g

  pub signed_refused : (r : Refusal) → shown_refusal r ≡ v → SignsAs g out (Err r) out
  unfolding signature_answer signature_output
  signed_refused r is =
      let refuses : accepts v ≡ false = err_refuses r is in
      record {
        answer = simp refuses (λ i. record { number = (is i).number; place = (is i).place; start = 0; symmetries = 0 });
        written = simp refuses;
      }

  module _ (accepting : accepts v ≡ true) where
    cleared : (judge_output (output.Word (length out)) g.n g.m ≡ accepted) × Shaped g × Accepted (map_of g)
    cleared = table_clear (output.Word (length out)) g (table_whole (output.Word (length out)) g accepting)

    pub signing_shaped : Shaped g
    signing_shaped = cleared.1

    pub signing_accepted : Accepted (map_of g)
    signing_accepted = cleared.2

    pub signing_room : g.n * g.m ≤ length out
    unfolding judge_output accepts accepted
    signing_room = leb-true (g.n * g.m) (length out) (sym (unless-accepts _ 4 0 (omega arith)) ∙ ap accepts cleared.0)

    -- what the run has found, copied to the output, is the call's answer
    pub signed_run : {held out' : List ℕ} {r : Signature} → Signs g held r → out' ≡ take (g.n * g.m) held ++ drop (g.n * g.m) out → SignsAs g out (Ok r) out'
    unfolding map_of over signature_answer signature_output
    signed_run found copied =
        let long : length (signature (map_of g)) ≡ g.n * g.m = length-signature signing_accepted in
        record {
          answer = rw (found.first, found.alike) (simp accepting);
          written =
              copied
              ∙ ap (λ (l : List ℕ). l ++ drop (g.n * g.m) out) found.is_least_word
              ∙ ap (λ (j : ℕ). signature (map_of g) ++ drop j out) (sym long)
              ∙ simp accepting;
        }

-- an answer is told by its numbers
pub shown_only : (r s : Result Signature Refusal) → shown_signed r ≡ shown_signed s → r ≡ s
shown_only (Ok a) (Ok b) e =
    let first = ap (λ (x : SignatureAnswer). x.start) e in
    let alike = ap (λ (x : SignatureAnswer). x.symmetries) e in
    λ i. Ok (record { start = first i; symmetries = alike i })
shown_only (Ok a) (Err s) e = absurd (omega (arith, ap (λ (x : SignatureAnswer). x.number) e, refusal_low s))
shown_only (Err r) (Ok b) e = absurd (omega (arith, ap (λ (x : SignatureAnswer). x.number) e, refusal_low r))
shown_only (Err r) (Err s) e =
    let number = ap (λ (x : SignatureAnswer). x.number) e in
    let place = ap (λ (x : SignatureAnswer). x.place) e in
    ap Err (refusal_only r s (λ i. record { number = number i; place = place i }))

-- the answer that stands for numbers
unfoldable pub signed_of : SignatureAnswer → Result Signature Refusal
signed_of a = cond (eqb a.number 0) (Ok (record { start = a.start; symmetries = a.symmetries })) (Err (refusal_at a.number a.place))

-- an answer's numbers are those that it stands for, where some refusal has the number and the place, or both are 0
pub shown-signed : (a : SignatureAnswer) → Answered shown_refusal (refused a.number a.place) → ((a.number ≡ 0 → ⊥) → (a.start ≡ 0) × (a.symmetries ≡ 0)) → shown_signed (signed_of a) ≡ a
unfolding signed_of refused accepted
shown-signed a (answers_ok is) none =
    let number : a.number ≡ 0 = ap (λ (v : Verdict). v.number) is in
    let place : a.place ≡ 0 = ap (λ (v : Verdict). v.place) is in
    simp (eq-eqb a.number 0 number) (λ i. record { number = sym number i; place = sym place i; start = a.start; symmetries = a.symmetries })
shown-signed a (answers_err r is) none =
    let number : a.number ≡ (shown_refusal r).number = ap (λ (v : Verdict). v.number) is in
    let place : a.place ≡ (shown_refusal r).place = ap (λ (v : Verdict). v.place) is in
    let some : a.number ≡ 0 → ⊥ = λ z. omega (arith, refusal_low r) in
    let back : refusal_at a.number a.place ≡ r = (λ i. refusal_at (number i) (place i)) ∙ refusal_back r in
    let rest = none some in
    simp (ne_eqb a.number 0 some, back) (λ i. record { number = sym number i; place = sym place i; start = sym rest.0 i; symmetries = sym rest.1 i })

-- and every answer is the one that its numbers stand for
pub signed_back : (r : Result Signature Refusal) → signed_of (shown_signed r) ≡ r
unfolding signed_of
signed_back (Ok _) = refl
signed_back (Err r) = simp (ne_eqb (shown_refusal r).number 0 (λ z. omega (arith, refusal_low r)), refusal_back r)

-- no second answer fits: neither another answer nor another output
pub signed_only : (g : Given) (out : List ℕ) (r s : Result Signature Refusal) (o p : List ℕ) → SignsAs g out r o → SignsAs g out s p → (r ≡ s) × (o ≡ p)
signed_only g out r s o p a b = (shown_only r s (a.answer ∙ sym b.answer), a.written ∙ sym b.written)

module _ (g : Given) (room : ℕ) where
  abbrev w : Verdict
  w = table_answer (output.Word room) g

  -- the numbers of the call's answer are the definition's
  pub shown_answer : shown_signed (signed_of (signature_answer g room)) ≡ signature_answer g room
  unfolding signature_answer accepted refused
  shown_answer = shown-signed (signature_answer g room) (at (tested (accepts w))) (rest (tested (accepts w)))
    where
      at : Tested (accepts w) → Answered shown_refusal (refused (signature_answer g room).number (signature_answer g room).place)
      at (passes e) = answers_ok (simp e)
      at (fails e) = simp e (table_answered (output.Word room) g)

      rest : Tested (accepts w) → ((signature_answer g room).number ≡ 0 → ⊥) → ((signature_answer g room).start ≡ 0) × ((signature_answer g room).symmetries ≡ 0)
      rest (passes e) some = absurd (some (simp e))
      rest (fails e) some = (simp e, simp e)

  -- they are what the call's lines show
  pub signing_shows : Shows (table_lines (output.Word room) g) (refused (signature_answer g room).number (signature_answer g room).place)
  unfolding signature_answer accepts accepted refused
  signing_shows = at (tested (accepts w))
    where
      at : Tested (accepts w) → Shows (table_lines (output.Word room) g) (refused (signature_answer g room).number (signature_answer g room).place)
      at (passes e) = simp (e, e) (rw (table_whole (output.Word room) g e) at (table_shows (output.Word room) g))
      at (fails e) = simp (e, e) (table_shows (output.Word room) g)
