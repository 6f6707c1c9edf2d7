-- What the calls of the C boundary promise: the numbers of the definitions, field by field, and what is left in every buffer.
--     ShownAs           a verdict: its number and its place
--     CheckedAs         the plain check
--     SignedAs          the signature call
--     MatchedAs         the match
--     ListJudgedAs      the judging of a handed-in list
--     DrawerCheckedAs   the drawer check
--     FoundAs           search
--     FiledAs           filing
-- Assumes nothing.
use Rattle.std.specs.Prelude.{◌≡◌, List, ℕ, length}
use Rattle.maps.specs.Given.{Given}
use Rattle.maps.specs.Verdict.{Verdict}
use Rattle.labels.specs.Judging.{check_answer}
use Rattle.words.specs.Sign.{signature_answer, signature_output}
use Rattle.words.specs.Match.{match_answer, match_output}
use Rattle.matches.specs.Judge.{judge_answer}
use Rattle.drawer.specs.Drawer.{Drawer, drawer_answer, search_answer, filing_answer, filed_bytes}
use Rattle.reader.specs.declared.DuftheimSigned.{DuftheimSigned}
use Rattle.reader.specs.declared.DuftheimVerdict.{DuftheimVerdict}
use Rattle.reader.specs.declared.DuftheimFound.{DuftheimFound}
use Rattle.reader.specs.declared.DuftheimFiled.{DuftheimFiled}

-- r is the answer, and `after` what the output holds that held `before`
pub record SignedAs (g : Given) (before : List ℕ) (r : DuftheimSigned) (after : List ℕ) : Type 0 where
  pub number : r.number ≡ (signature_answer g (length before)).number
  pub place : r.place ≡ (signature_answer g (length before)).place
  pub start : r.start ≡ (signature_answer g (length before)).start
  pub symmetries : r.symmetries ≡ (signature_answer g (length before)).symmetries
  pub written : after ≡ signature_output g before

-- r shows the verdict v
pub record ShownAs (v : Verdict) (r : DuftheimVerdict) : Type 0 where
  pub number : r.number ≡ v.number
  pub place : r.place ≡ v.place

abbrev pub CheckedAs : Given → DuftheimVerdict → Type 0
CheckedAs g r = ShownAs (check_answer g) r

-- r is the answer, and `after` what the output holds that held `before`
pub record MatchedAs (a b : Given) (before : List ℕ) (r : DuftheimVerdict) (after : List ℕ) : Type 0 where
  pub answer : ShownAs (match_answer a b (length before)) r
  pub written : after ≡ match_output a b before

abbrev pub ListJudgedAs : Given → Given → List ℕ → DuftheimVerdict → Type 0
ListJudgedAs a b f r = ShownAs (judge_answer a b f) r

abbrev pub DrawerCheckedAs : Drawer → DuftheimVerdict → Type 0
DrawerCheckedAs D r = ShownAs (drawer_answer D) r

-- r is the answer of search
pub record FoundAs (g : Given) (D : Drawer) (r : DuftheimFound) : Type 0 where
  pub number : r.number ≡ (search_answer g D).number
  pub place : r.place ≡ (search_answer g D).place
  pub die : r.die ≡ (search_answer g D).die
  pub record_number : r.record ≡ (search_answer g D).at

-- r is the answer of filing, and `after` the bytes that it leaves in the drawer D
pub record FiledAs (die : ℕ) (g : Given) (D : Drawer) (r : DuftheimFiled) (after : List ℕ) : Type 0 where
  pub number : r.number ≡ (filing_answer die g D).number
  pub place : r.place ≡ (filing_answer die g D).place
  pub count : r.count ≡ (filing_answer die g D).count
  pub written : after ≡ filed_bytes die g D
