-- The laws behind a line: a number's digits, the zeros in front, and the whole line.
--     decimal_is        std's digits of a number are those of the definitions
--     zeros_before      what is put before text leaves zeros in front
--     printed           a line's text is what is printed
-- Assumes nothing.
use Rattle.std.proofs.Common.{◌≡◌, ℕ, suc, ◌-◌, ◌^◌, ◌<◌, ◌≤◌, List, length, take, replicate, refl, sym, ap, ◌∙◌, arith}
use borrow.Author.Tests.{lt-ltb, le-ltb}
use Rattle.std.specs.Fmt as std
use Rattle.std.proofs.lemmas.Fmt.{AppendsLastDigit, decimal_from_appends, length-decimal-le_succ, length-decimal-le}
use Rattle.std.proofs.lemmas.List.{take-replicate, take-take, take-append-drop, length-drop}
use Rattle.lister.specs.Listing.{digits, decimal}
use Rattle.lister.specs.Answer.{PrintedAs}
use Rattle.lister.specs.Inside.{text_of}
use Rattle.lister.specs.declared.line.Line.{Line}

digits_append : AppendsLastDigit digits
unfolding digits
digits_append = record { one = λ k n few. simp (lt-ltb n 10 few); more = λ k n many. simp (le-ltb n 10 many) }

pub decimal_is : (x : ℕ) → x < 2 ^ 64 → decimal x ≡ std.decimal x
unfolding decimal
decimal_is x fits = decimal_from_appends digits digits_append (suc x) x fits (omega (arith, length-decimal-le_succ x fits))

-- what the digits of a number of 64 bits are, and how many
pub most_digits : (x : ℕ) → x < 2 ^ 64 → length (std.decimal x) ≤ 20
most_digits x fits = length-decimal-le 20 x (omega arith) (omega arith) fits

pub ruleset digits_put = (decimal_is, most_digits)

pub zeros_before : (line after : List ℕ) (start at : ℕ) → start ≤ at → take at line ≡ replicate at 0 → take start after ≡ take start line → take start after ≡ replicate start 0
zeros_before line after start at low zeros same = same ∙ sym (take-take start at line low) ∙ ap (take start) zeros ∙ take-replicate start at 0 low

pub printed : (l : List ℕ) (r : Line) → length r.bytes ≡ 128 → text_of r ≡ l → PrintedAs l r
printed l r long is =
    let size : length r.bytes - r.start ≡ length l = sym (length-drop r.start r.bytes) ∙ ap length is in
    record { begins = omega arith; printed = sym (take-append-drop r.start r.bytes) ∙ rw (r.zeros, is) refl }
