-- What the signature call answers and what it leaves in its output, for every input (01, "Numbers the display can show").
--     SignatureAnswer     number, place, start and symmetries, as the display shows them
--     shown_signed        the numbers of an answer of `src/`
--     signature_answer    the answer, of the map lent and the output's length
--     signature_output    the output's contents afterwards
--     over w out          out with w in its first places: nothing beyond is written
--     SignsAs             what `signature` answers and leaves in its output
-- Assumes nothing.
use Rattle.std.specs.Prelude.{ℕ, ◌≡◌, cond, List, ◌++◌, length, drop, Result, Ok, Err}
use Rattle.maps.specs.Given.{Given, map_of}
use Rattle.maps.specs.Verdict.{accepts}
use Rattle.maps.specs.Shown.{shown_refusal}
use Rattle.maps.specs.declared.Refusal.{Refusal}
use Rattle.maps.specs.declared.Output.TheVariants as output
use Rattle.labels.specs.Judging.{table_answer}
use Rattle.words.specs.Words.{signature, start, symmetries}
use Rattle.words.specs.declared.found.Signature.{Signature}

pub record SignatureAnswer : Type 0 where
  pub number : ℕ
  pub place : ℕ
  pub start : ℕ
  pub symmetries : ℕ

-- the numbers that an answer stands for
abbrev pub shown_signed : Result Signature Refusal → SignatureAnswer
shown_signed (Ok s) = record { number = 0; place = 0; start = s.start; symmetries = s.symmetries }
shown_signed (Err r) = record { number = (shown_refusal r).number; place = (shown_refusal r).place; start = 0; symmetries = 0 }

-- 01: "All other numbers in a refused answer are 0"
unfoldable pub signature_answer : Given → ℕ → SignatureAnswer
signature_answer g room =
    let v = table_answer (output.Word room) g in
    let M = map_of g in
    cond (accepts v)
    (record { number = 0; place = 0; start = start M; symmetries = symmetries M })
    (record { number = v.number; place = v.place; start = 0; symmetries = 0 })

-- 01: "writes the first [..] numbers of its output and nothing beyond"
unfoldable pub over : List ℕ → List ℕ → List ℕ
over w out = w ++ drop (length w) out

-- 01: "Every refusal leaves all lent buffers with the contents they had"
unfoldable pub signature_output : Given → List ℕ → List ℕ
signature_output g out =
    cond (accepts (table_answer (output.Word (length out)) g))
    (over (signature (map_of g)) out)
    out

-- the answer r, and `after` in the output that held `before`
pub record SignsAs (g : Given) (before : List ℕ) (r : Result Signature Refusal) (after : List ℕ) : Type 0 where
  pub answer : shown_signed r ≡ signature_answer g (length before)
  pub written : after ≡ signature_output g before
