-- Cases A to M of document 01 as one table (01, "Bench cases"), with the places of document 02's wish 1.
--     Expected   what document 01 says of one: a refusal, an answer of the signature call, of the match
--     bench      the cases
--     right      a case holds, by the definitions of the calls
-- That every case is right is the theorem `bench-right` in `proofs/`. Assumes nothing.
use Rattle.std.specs.Prelude.{ℕ, ◌*◌, Bool, true, ◌&&◌, List, [], ◌∷◌, eqb, replicate}
use Rattle.maps.specs.Verdict.{Verdict}
use Rattle.maps.specs.Given.{Given, lent}
use Rattle.labels.specs.Judging.{check_answer}
use Rattle.words.specs.Words.{same}
use Rattle.words.specs.Sign.{SignatureAnswer, signature_answer, signature_output}
use Rattle.words.specs.Match.{match_answer, match_output}

pub data Expected : Type 0 where
  -- the plain check refuses with this number, at this place
  is_refused : ℕ → ℕ → Expected
  -- the plain check accepts
  is_accepted : Expected
  -- the signature call writes this word, with this start and these symmetries
  signs : List ℕ → ℕ → ℕ → Expected
  -- matched with this table, it shows these images
  shows : Given → List ℕ → Expected
  -- matched with this table, the answer is 10
  differs : Given → Expected

pub record Case : Type 0 where
  pub given : Given
  pub expected : Expected

unfoldable pub case : Given → Expected → Case
case g e = record { given = g; expected = e }

-- C, D, E and F are named: other cases speak of them
unfoldable pub case_c : Given
case_c = lent 1 2 (2 ∷ 0 ∷ [])

unfoldable pub case_d : Given
case_d = lent 2 1 (0 ∷ 1 ∷ [])

unfoldable pub case_e : Given
case_e = lent 2 3 (2 ∷ 0 ∷ 3 ∷ 0 ∷ 1 ∷ 0 ∷ [])

unfoldable pub case_f : Given
case_f = lent 2 7 (2 ∷ 0 ∷ 3 ∷ 0 ∷ 4 ∷ 5 ∷ 1 ∷ 0 ∷ 6 ∷ 3 ∷ 7 ∷ 0 ∷ 5 ∷ 0 ∷ [])

unfoldable pub signature_e : List ℕ
signature_e = 3 ∷ 0 ∷ 1 ∷ 0 ∷ 2 ∷ 0 ∷ []

unfoldable pub signature_f : List ℕ
signature_f = 3 ∷ 0 ∷ 1 ∷ 0 ∷ 2 ∷ 4 ∷ 6 ∷ 3 ∷ 4 ∷ 0 ∷ 7 ∷ 0 ∷ 5 ∷ 0 ∷ []

-- a start that document 01 leaves out is 1, of a map with one dart; symmetries that it leaves out are 1, and of G those of F
unfoldable pub bench : List Case
bench =
    -- A
    case (lent 1 1 (0 ∷ [])) (signs (0 ∷ []) 1 1)
    -- B
    ∷ case (lent 1 1 (1 ∷ [])) (signs (1 ∷ []) 1 1)
    -- C
    ∷ case case_c (signs (0 ∷ 1 ∷ []) 2 1)
    -- D
    ∷ case case_d (signs (0 ∷ 1 ∷ []) 1 1)
    -- C against D
    ∷ case case_c (differs case_d)
    -- E
    ∷ case case_e (signs signature_e 1 3)
    ∷ case case_e (shows (lent 2 3 signature_e) (1 ∷ 3 ∷ 2 ∷ []))
    -- F: 000, figure 3, a..g as 1..7
    ∷ case case_f (signs signature_f 7 1)
    -- G: F's signature as a table
    ∷ case (lent 2 7 signature_f) (signs signature_f 1 1)
    -- H
    ∷ case (lent 2 2 (3 ∷ 0 ∷ 1 ∷ 0 ∷ [])) (is_refused 5 1)
    -- I
    ∷ case (lent 1 2 (1 ∷ 1 ∷ [])) (is_refused 6 2)
    -- J: 02, "J becomes 7 at 2 and L becomes 8 at 3"
    ∷ case (lent 2 2 (0 ∷ 2 ∷ 0 ∷ 0 ∷ [])) (is_refused 7 2)
    -- K
    ∷ case (lent 1 2 (1 ∷ 2 ∷ [])) (is_refused 9 2)
    -- L
    ∷ case (lent 3 3 (0 ∷ 0 ∷ 2 ∷ 3 ∷ 0 ∷ 1 ∷ 0 ∷ 0 ∷ 0 ∷ [])) (is_refused 8 3)
    -- M
    ∷ case (lent 3 3 (0 ∷ 0 ∷ 2 ∷ 0 ∷ 0 ∷ 1 ∷ 2 ∷ 0 ∷ 0 ∷ [])) is_accepted
    ∷ []

-- an output of k numbers
unfoldable pub blank : ℕ → List ℕ
blank k = replicate k 0

-- the verdict v is number k at place p
unfoldable pub gives : Verdict → ℕ → ℕ → Bool
gives v k p = eqb v.number k && eqb v.place p

-- the answer a accepts, with start s and symmetries k
unfoldable pub gives_start : SignatureAnswer → ℕ → ℕ → Bool
gives_start a s k = eqb a.number 0 && eqb a.place 0 && eqb a.start s && eqb a.symmetries k

-- the signature call and the match, with an output of just the length needed
unfoldable pub signed : Given → SignatureAnswer
signed g = signature_answer g (g.n * g.m)

unfoldable pub signed_word : Given → List ℕ
signed_word g = signature_output g (blank (g.n * g.m))

unfoldable pub matched : Given → Given → Verdict
matched a b = match_answer a b a.m

unfoldable pub matched_images : Given → Given → List ℕ
matched_images a b = match_output a b (blank a.m)

-- what the case expects is what the calls answer
unfoldable pub holds : Given → Expected → Bool
holds t (is_refused k p) = gives (check_answer t) k p
holds t is_accepted = gives (check_answer t) 0 0
holds t (signs w s k) = gives_start (signed t) s k && same (signed_word t) w
holds t (shows u f) = gives (matched t u) 0 0 && same (matched_images t u) f
holds t (differs u) = gives (matched t u) 10 0

unfoldable pub right : Case → Bool
right c = holds c.given c.expected

unfoldable pub every : List Case → Bool
every [] = true
every (c ∷ cs) = right c && every cs
