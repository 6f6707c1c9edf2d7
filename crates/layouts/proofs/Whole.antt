-- The lines that the program asks for are the whole output (`Whole` of `specs/Whole.antt`). Assumes nothing.
use Prim.Native.Nat.{ℕ, zero, suc, ◌+◌, ◌-◌, ◌*◌, ◌/◌, ◌%◌, ◌≤◌}
use mathlib.Core.Path.{◌≡◌, refl, sym, ap, ap₂, ◌∙◌}
use mathlib.Core.List.{List, ◌++◌}
use native.Mathlib.Omega.{arith}
use lib.ListN.{length, drop, length-drop}
use lib.Seq.{length-take-le, take_all}
use Rattle.drawer.specs.Record.{record_size}
use Rattle.drawer.specs.Drawer.{record_at}
use Rattle.lister.specs.Listing.{line_of, lines_to, short_end, line_from, listing}
use Rattle.lister.proofs.Listed.{from_short, from_record}
use Rattle.layouts.specs.Whole.{handed_over, Whole}

-- a record inside the bytes has 2,048
record_long : (k : ℕ) (bytes : List ℕ) → suc k * 2048 ≤ length bytes → length (record_at bytes (suc k)) ≡ 2048
unfolding record_at record_size
record_long k bytes inside = length-take-le 2048 (drop ((suc k - 1) * 2048) bytes) (rw length-drop (omega (arith, inside)))

-- so its line is that of the definitions
record_line : (k : ℕ) (bytes : List ℕ) → suc k * 2048 ≤ length bytes →
    line_from (suc k) (record_at bytes (suc k)) ≡ line_of (suc k) (record_at bytes (suc k))
record_line k bytes inside =
    let r = record_at bytes (suc k) in
    let long = record_long k bytes inside in
    sym (from_record (suc k) r (omega (arith, long))) ∙ ap (line_of (suc k)) (take_all 2048 r (omega (arith, long)))

records_lines : (k : ℕ) (bytes : List ℕ) → k * 2048 ≤ length bytes → handed_over k bytes ≡ lines_to k bytes
unfolding handed_over lines_to
records_lines zero bytes inside = refl
records_lines (suc k) bytes inside =
    ap₂ (λ (s t : List ℕ). s ++ t) (records_lines k bytes (omega (arith, inside))) (record_line k bytes inside)

pub whole : Whole
unfolding Whole listing record_size
whole p bytes few all =
    let k = p.records in
    let rest = drop (k * 2048) bytes in
    let rest-long : length rest ≡ p.bytes = length-drop (k * 2048) bytes ∙ omega (arith, all) in
    let count : k ≡ length bytes / 2048 = omega (arith, all, few) in
    let left : p.bytes ≡ length bytes % 2048 = omega (arith, all, few) in
    ap₂
    (λ (s t : List ℕ). s ++ t)
    (records_lines k bytes (omega (arith, all)) ∙ ap (λ (j : ℕ). lines_to j bytes) count)
    (sym (from_short (k + 1) rest (omega (arith, rest-long, few))) ∙ ap short_end (rest-long ∙ left))
