-- The laws of `specs/Boundary.antt`: no second answer of a call of the C boundary fits its promise.
--     shown_only                      a verdict
--     signature_only, match_only      the signature call, the match
--     found_only, filed_only          search, filing
--     judged_shown, match_shown, list_shown, drawer_shown
--                                     a verdict is that of the answer that it shows
--     signed_as, found_as, filed_as   the same for the signature call, search and filing
-- Assumes nothing.
use Prim.Native.Nat.{ℕ}
use mathlib.Core.Path.{◌≡◌, sym, ap, ◌∙◌}
use mathlib.Core.List.{List}
use lib.ListN.{length}
use Rattle.std.specs.Prelude.{Result, Ok, Err}
use Rattle.maps.specs.Given.{Given}
use Rattle.maps.specs.Verdict.{Verdict}
use Rattle.maps.specs.Shown.{shown_refusal, verdict_of}
use Rattle.maps.specs.declared.Refusal.{Refusal}
use Rattle.words.specs.Sign.{SignatureAnswer, shown_signed, signature_answer, SignsAs}
use Rattle.words.specs.Match.{shown_mismatch, match_verdict}
use Rattle.words.specs.declared.found.Signature.{Signature}
use Rattle.words.specs.declared.matching.Mismatch.{Mismatch}
use Rattle.matches.specs.Shown.{shown_list_refusal, list_verdict_of}
use Rattle.matches.specs.declared.ListRefusal.{ListRefusal}
use Rattle.drawer.specs.Drawer.{Drawer, SearchAnswer, search_answer, FilingAnswer, filing_answer}
use Rattle.drawer.specs.Answers.{shown_search, shown_filing, FilesAs}
use Rattle.drawer.specs.Shown.{shown_drawer, drawer_verdict}
use Rattle.drawer.specs.declared.records.Found.{Found}
use Rattle.drawer.specs.declared.refusal.DrawerRefusal.{DrawerRefusal}
use Rattle.reader.specs.Boundary.{ShownAs, SignedAs, MatchedAs, FoundAs, FiledAs}
use Rattle.reader.specs.Numbers.{Shows, signed_numbers, found_numbers, filed_numbers}
use Rattle.reader.specs.declared.DuftheimVerdict.{DuftheimVerdict}
use Rattle.reader.specs.declared.DuftheimSigned.{DuftheimSigned}
use Rattle.reader.specs.declared.DuftheimFound.{DuftheimFound}
use Rattle.reader.specs.declared.DuftheimFiled.{DuftheimFiled}

pub signature_only : (g : Given) (before : List ℕ) (r s : DuftheimSigned) (o p : List ℕ) → SignedAs g before r o → SignedAs g before s p → (r ≡ s) × (o ≡ p)
signature_only g before r s o p a b = (
  λ i. record {
    number = (a.number ∙ sym b.number) i;
    place = (a.place ∙ sym b.place) i;
    start = (a.start ∙ sym b.start) i;
    symmetries = (a.symmetries ∙ sym b.symmetries) i;
  },
  a.written ∙ sym b.written,
)

pub shown_only : (v : Verdict) (r s : DuftheimVerdict) → ShownAs v r → ShownAs v s → r ≡ s
shown_only v r s a b = λ i. record { number = (a.number ∙ sym b.number) i; place = (a.place ∙ sym b.place) i }

pub match_only : (a b : Given) (before : List ℕ) (r s : DuftheimVerdict) (o p : List ℕ) → MatchedAs a b before r o → MatchedAs a b before s p → (r ≡ s) × (o ≡ p)
match_only a b before r s o p x y = (shown_only _ r s x.answer y.answer, x.written ∙ sym y.written)

pub found_only : (g : Given) (D : Drawer) (r s : DuftheimFound) → FoundAs g D r → FoundAs g D s → r ≡ s
found_only g D r s a b =
    λ i. record {
      number = (a.number ∙ sym b.number) i;
      place = (a.place ∙ sym b.place) i;
      die = (a.die ∙ sym b.die) i;
      «record» = (a.record_number ∙ sym b.record_number) i;
    }

pub filed_only : (die : ℕ) (g : Given) (D : Drawer) (r s : DuftheimFiled) (o p : List ℕ) → FiledAs die g D r o → FiledAs die g D s p → (r ≡ s) × (o ≡ p)
filed_only die g D r s o p a b = (
  λ i. record {
    number = (a.number ∙ sym b.number) i;
    place = (a.place ∙ sym b.place) i;
    count = (a.count ∙ sym b.count) i;
  },
  a.written ∙ sym b.written,
)

-- a verdict is that of the answer that it shows
pub judged_shown : (answer : Result Unit Refusal) (v : Verdict) (r : DuftheimVerdict) → Shows shown_refusal answer r → verdict_of answer ≡ v → ShownAs v r
judged_shown (Ok _) v r shows e = rw (sym e) shows
judged_shown (Err _) v r shows e = rw (sym e) shows

pub match_shown : (answer : Result Unit Mismatch) (v : Verdict) (r : DuftheimVerdict) → Shows shown_mismatch answer r → match_verdict answer ≡ v → ShownAs v r
match_shown (Ok _) v r shows e = rw (sym e) shows
match_shown (Err _) v r shows e = rw (sym e) shows

pub list_shown : (answer : Result Unit ListRefusal) (v : Verdict) (r : DuftheimVerdict) → Shows shown_list_refusal answer r → list_verdict_of answer ≡ v → ShownAs v r
list_shown (Ok _) v r shows e = rw (sym e) shows
list_shown (Err _) v r shows e = rw (sym e) shows

pub drawer_shown : (answer : Result Unit DrawerRefusal) (v : Verdict) (r : DuftheimVerdict) → Shows shown_drawer answer r → drawer_verdict answer ≡ v → ShownAs v r
drawer_shown (Ok _) v r shows e = rw (sym e) shows
drawer_shown (Err _) v r shows e = rw (sym e) shows

pub signed_as : (g : Given) (before after : List ℕ) (answer : Result Signature Refusal) (r : DuftheimSigned) →
    signed_numbers r ≡ shown_signed answer →
    SignsAs g before answer after → SignedAs g before r after
signed_as g before after answer r shown signs =
    let e : signed_numbers r ≡ signature_answer g (length before) = shown ∙ signs.answer in
    record {
      number = ap (λ (a : SignatureAnswer). a.number) e;
      place = ap (λ (a : SignatureAnswer). a.place) e;
      start = ap (λ (a : SignatureAnswer). a.start) e;
      symmetries = ap (λ (a : SignatureAnswer). a.symmetries) e;
      written = signs.written;
    }

pub found_as : (g : Given) (D : Drawer) (answer : Result Found DrawerRefusal) (r : DuftheimFound) →
    found_numbers r ≡ shown_search answer →
    shown_search answer ≡ search_answer g D → FoundAs g D r
found_as g D answer r shown found =
    let e : found_numbers r ≡ search_answer g D = shown ∙ found in
    record {
      number = ap (λ (a : SearchAnswer). a.number) e;
      place = ap (λ (a : SearchAnswer). a.place) e;
      die = ap (λ (a : SearchAnswer). a.die) e;
      record_number = ap (λ (a : SearchAnswer). a.at) e;
    }

pub filed_as : (die : ℕ) (g : Given) (D : Drawer) (after : List ℕ) (answer : Result ℕ DrawerRefusal) (r : DuftheimFiled) →
    filed_numbers r ≡ shown_filing answer →
    FilesAs die g D answer after → FiledAs die g D r after
filed_as die g D after answer r shown files =
    let e : filed_numbers r ≡ filing_answer die g D = shown ∙ files.answer in
    record {
      number = ap (λ (a : FilingAnswer). a.number) e;
      place = ap (λ (a : FilingAnswer). a.place) e;
      count = ap (λ (a : FilingAnswer). a.count) e;
      written = files.written;
    }
