-- The drawer as a plain list of (die, layout), and runs of calls on both (01, "The drawer", its last sentence).
--     Call, Answer     a call that is lent a drawer, and what it answers
--     drawer_run       the answers of a run of calls on a drawer, each lent what the last left
--     plain_run        the answers of the same run on a plain list that may hold so many
--     PlainList        from an empty drawer they are the same answers: the statement
-- Assumes nothing.
use Rattle.std.specs.Prelude.{ℕ, ◌+◌, ◌-◌, ◌/◌, min, ◌≡◌, Bool, true, cond, ◌&&◌, List, [], ◌∷◌, ◌++◌, T, leb, length, get_or}
use Rattle.maps.specs.Verdict.{Verdict, accepted, accepts, unless, at_least, in_order}
use Rattle.maps.specs.Given.{Given, lent}
use Rattle.labels.specs.Queue.{further}
use Rattle.labels.specs.Judging.{check_answer}
use Rattle.drawer.specs.Record.{Filed, record_size, record_bytes}
use Rattle.drawer.specs.Drawer.{Drawer, drawer, most_records, layout_of, has_die, has_layout, SearchAnswer, FilingAnswer, drawer_answer, search_answer, own_bytes, judge_filing, filing_answer, filed_bytes}

-- a call that is lent a drawer; a filing names its die first
pub data Call : Type 0 where
  checks : Call
  searches : Given → Call
  fetches : Given → Call
  files : ℕ → Given → Call

pub data Answer : Type 0 where
  checked : Verdict → Answer
  searched : SearchAnswer → Answer
  fetched : List ℕ → Answer
  filed : FilingAnswer → Answer

-- what a caller can hand in: a die number has 4 bytes
unfoldable pub fits : Call → Bool
fits checks = true
fits (searches g) = true
fits (fetches g) = true
fits (files die g) = leb die 4294967295

unfoldable pub all_fit : List Call → Bool
all_fit [] = true
all_fit (c ∷ cs) = fits c && all_fit cs

unfoldable pub drawer_step : Call → Drawer → Answer
drawer_step checks D = checked (drawer_answer D)
drawer_step (searches g) D = searched (search_answer g D)
drawer_step (fetches g) D = fetched (own_bytes g D)
drawer_step (files die g) D = filed (filing_answer die g D)

-- 01: "lent the count that the last accepted filing answered (0 before any) and the bytes last left"
unfoldable pub drawer_after : Call → Drawer → Drawer
drawer_after checks D = D
drawer_after (searches g) D = D
drawer_after (fetches g) D = D
drawer_after (files die g) D =
    record {
      count =
          cond (accepts (judge_filing die g D))
          (filing_answer die g D).count
          D.count;
      bytes = filed_bytes die g D;
    }

unfoldable pub drawer_run : Drawer → List Call → List Answer
drawer_run D [] = []
drawer_run D (c ∷ cs) = drawer_step c D ∷ drawer_run (drawer_after c D) cs

-- the plain list: the place of its first entry that passes a test, counted from 1, or 0
unfoldable pub first_place : (Filed → Bool) → List Filed → ℕ
first_place p [] = 0
first_place p (f ∷ fs) = cond (p f) 1 (further (first_place p fs))

unfoldable pub no_entry : Filed
no_entry = record { die = 0; layout = lent 0 0 [] }

unfoldable pub filed_at : List Filed → ℕ → Filed
filed_at fs k = get_or fs (k - 1) no_entry

unfoldable pub judge_plain_search : Given → List Filed → Verdict
judge_plain_search g fs =
    in_order (check_answer g ∷ unless (leb 1 (first_place (has_layout (layout_of g)) fs)) 15 0 ∷ [])

unfoldable pub plain_search : Given → List Filed → SearchAnswer
plain_search g fs =
    let v = judge_plain_search g fs in
    let k = first_place (has_layout (layout_of g)) fs in
    cond (accepts v)
    (record { number = 0; place = 0; die = (filed_at fs k).die; at = k })
    (record { number = v.number; place = v.place; die = 0; at = 0 })

unfoldable pub plain_fetch : Given → List Filed → List ℕ
plain_fetch g fs =
    cond (accepts (judge_plain_search g fs))
    (record_bytes (filed_at fs (first_place (has_layout (layout_of g)) fs)))
    []

-- a plain list that may hold `room` entries refuses as the drawer does, and has no bytes to judge
unfoldable pub judge_plain_filing : ℕ → ℕ → Given → List Filed → Verdict
judge_plain_filing room die g fs =
    in_order
    (check_answer g
    ∷ unless (leb 1 die) 16 0
    ∷ at_least 16 (first_place (has_die die) fs)
    ∷ at_least 17 (first_place (has_layout (layout_of g)) fs)
    ∷ unless (leb (length fs + 1) room) 18 0
    ∷ [])

unfoldable pub plain_filing : ℕ → ℕ → Given → List Filed → FilingAnswer
plain_filing room die g fs =
    let v = judge_plain_filing room die g fs in
    cond (accepts v)
    (record { number = 0; place = 0; count = length fs + 1 })
    (record { number = v.number; place = v.place; count = 0 })

unfoldable pub plain_step : ℕ → Call → List Filed → Answer
plain_step room checks fs = checked accepted
plain_step room (searches g) fs = searched (plain_search g fs)
plain_step room (fetches g) fs = fetched (plain_fetch g fs)
plain_step room (files die g) fs = filed (plain_filing room die g fs)

-- an accepted filing puts the layout at the list's end
unfoldable pub plain_after : ℕ → Call → List Filed → List Filed
plain_after room checks fs = fs
plain_after room (searches g) fs = fs
plain_after room (fetches g) fs = fs
plain_after room (files die g) fs =
    cond (accepts (judge_plain_filing room die g fs))
    (fs ++ (record { die = die; layout = layout_of g } ∷ []))
    fs

unfoldable pub plain_run : ℕ → List Filed → List Call → List Answer
plain_run room fs [] = []
plain_run room fs (c ∷ cs) = plain_step room c fs ∷ plain_run room (plain_after room c fs) cs

-- how many records the lent bytes may hold
unfoldable pub room_in : List ℕ → ℕ
room_in bytes = min most_records (length bytes / record_size)

-- 01: "the drawer behaves as a plain list of (die, layout)", over any calls from an empty drawer
unfoldable pub PlainList : Type 0
PlainList =
    (bytes : List ℕ) (calls : List Call) → T (all_fit calls)
    → drawer_run (drawer 0 bytes) calls ≡ plain_run (room_in bytes) [] calls
