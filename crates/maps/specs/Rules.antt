-- The rules of one map, in the order of their numbers (01, "Numbers the display can show", 1 to 8), as tests that compute.
--     judge_shape     1, 2 and 3
--     judge_output    4, of the output that a call is lent
--     Rule            a number, and which entries of the table break it
--     rules           5, 6, 7 and 8: `over_rule`, `clash_rule`, `reverse_rule`, `compose_rule`
--     wrong_entry     the place in the table of the least entry that breaks a rule, or 0
--     shown_place     what the display shows of a wrong entry: its place in the table
--     judged_by       a rule's verdict on a map
--     judge_entries   5 to 8
--     judge_sewing    1 to 8
-- An entry is βi(d): d is its dart, i its sewing. Rule 9 is `labels`'. Assumes nothing.
use Rattle.std.specs.Prelude.{ℕ, ◌+◌, ◌-◌, ◌*◌, ◌/◌, ◌%◌, Bool, not, ◌&&◌, List, [], ◌∷◌, map, eqb, leb, ltb, length}
use Rattle.maps.specs.Least.{least, some}
use Rattle.maps.specs.Map.{Map, sew}
use Rattle.maps.specs.Given.{Given, map_of}
use Rattle.maps.specs.Verdict.{Verdict, accepted, unless, in_order}
use Rattle.maps.specs.declared.Output.{Output}
use Rattle.maps.specs.declared.Output.TheVariants.{Nothing, Word, Images}

-- 1: "n outside 1..4"
unfoldable pub judge_dimension : Given → Verdict
judge_dimension g = unless (leb 1 g.n && leb g.n 4) 1 0

-- 2: "m = 0 or n·m > 1,020"
unfoldable pub judge_size : Given → Verdict
judge_size g = unless (leb 1 g.m && leb (g.n * g.m) 1020) 2 0

-- 3: "table length is not n·m"
unfoldable pub judge_length : Given → Verdict
judge_length g = unless (eqb (length g.table) (g.n * g.m)) 3 0

unfoldable pub judge_shape : Given → Verdict
judge_shape g = in_order (judge_dimension g ∷ judge_size g ∷ judge_length g ∷ [])

-- 4: "output shorter than n·m (signature) or m (match)"; a call that is lent none never gives it
unfoldable pub judge_output : Output → ℕ → ℕ → Verdict
judge_output Nothing n m = accepted
judge_output (Word room) n m = unless (leb (n * m) room) 4 0
judge_output (Images room) n m = unless (leb m room) 4 0

-- a rule is judged by the entry that breaks it
pub record Rule : Type 0 where
  pub number : ℕ
  pub broken : Map → ℕ → ℕ → Bool

-- 5: "an entry exceeds m"
unfoldable pub exceeds : Map → ℕ → ℕ → Bool
exceeds M d i = ltb M.darts (sew M i d)

-- 6: "β1 gives a dart that a lower dart's β1 gives"
unfoldable pub given_before : Map → ℕ → ℕ → Bool
given_before M d i = eqb i 1 && ltb 0 (sew M 1 d) && some (d - 1) (λ e. eqb (sew M 1 e) (sew M 1 d))

-- 7: "βi, i ≥ 2, fails the rule above": βi(d) = e is not 0, and βi(e) is not d
unfoldable pub unanswered : Map → ℕ → ℕ → Bool
unanswered M d i = leb 2 i && ltb 0 (sew M i d) && not (eqb (sew M i (sew M i d)) d)

-- e = βi(βj(d)) is not 0, and βi(βj(e)) is not d
unfoldable pub parted : Map → ℕ → ℕ → ℕ → Bool
parted M i j d =
    let e = sew M i (sew M j d) in
    ltb 0 e && not (eqb (sew M i (sew M j e)) d)

-- 8: "a composition fails": one with j, for some i from 1 to j−2
unfoldable pub composes_wrong : Map → ℕ → ℕ → Bool
composes_wrong M d j = some (j - 2) (λ i. parted M i j d)

abbrev pub over_rule : Rule
over_rule = record { number = 5; broken = exceeds }

abbrev pub clash_rule : Rule
clash_rule = record { number = 6; broken = given_before }

abbrev pub reverse_rule : Rule
reverse_rule = record { number = 7; broken = unanswered }

abbrev pub compose_rule : Rule
compose_rule = record { number = 8; broken = composes_wrong }

-- the rules of the table's entries, in the order of their numbers
unfoldable pub rules : List Rule
rules = over_rule ∷ clash_rule ∷ reverse_rule ∷ compose_rule ∷ []

-- the dart and the sewing of the entry at place p, counted from 1, in a table of dimension n: `place_of` turned round
unfoldable pub dart_at : ℕ → ℕ → ℕ
dart_at n p = (p - 1) / n + 1

unfoldable pub sewing_at : ℕ → ℕ → ℕ
sewing_at n p = (p - 1) % n + 1

-- the place in the table of the least entry that breaks the rule, or 0 where none does
unfoldable pub wrong_entry : Map → Rule → ℕ
wrong_entry M r = least (M.dim * M.darts) (λ p. r.broken M (dart_at M.dim p) (sewing_at M.dim p))

-- 02, wish 1: "the place becomes that of the least wrong entry in the dart table, counted from 1"
unfoldable pub shown_place : Map → ℕ → ℕ
shown_place M p = p

unfoldable pub judged_by : Map → Rule → Verdict
judged_by M r =
    let p = wrong_entry M r in
    unless (eqb p 0) r.number (shown_place M p)

unfoldable pub judge_entries : Map → Verdict
judge_entries M = in_order (map (judged_by M) rules)

-- 01: "Within one map the lower number comes first"
unfoldable pub judge_sewing : Output → Given → Verdict
judge_sewing o g = in_order (judge_shape g ∷ judge_output o g.n g.m ∷ judge_entries (map_of g) ∷ [])
