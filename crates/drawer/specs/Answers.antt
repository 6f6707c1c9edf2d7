-- What the calls answer, by the types of `src/`, and what they leave in what they are lent.
--     fault_of                  the definitions' name of a fault
--     reading_of h r            the reading of the record r that an answer stands for
--     entry_of, shown_entry     what `read_table` answers: the die number as it stands, and the reading; and what its answer stands for
--     ReadsAs                   what it answers and leaves in the list that it is lent
--     shown_search              the numbers that an answer of search stands for
--     shown_filing              the same for a filing
--     FilesAs                   what `file_layout` answers and leaves in the drawer
-- Assumes nothing.
use Rattle.std.specs.Prelude.{ℕ, ◌*◌, ◌≡◌, Bool, cond, ◌&&◌, Option, None, Some, Result, Ok, Err, List, eqb, leb, length, drop}
use Rattle.maps.specs.Given.{Given, lent}
use Rattle.maps.specs.Shown.{shown_refusal}
use Rattle.words.specs.Sign.{over}
use Rattle.drawer.specs.Record.{Reading, Fault, good, bad, wrong_dimension, wrong_size, no_die, zero_byte, filling, no_map, other_word, numbers, record_size, filed_in, read_table}
use Rattle.drawer.specs.Drawer.{Drawer, SearchAnswer, FilingAnswer, filing_answer, filed_bytes}
use Rattle.drawer.specs.declared.fields.Layout.{Layout}
use Rattle.drawer.specs.declared.fields.RecordFault.{RecordFault}
use Rattle.drawer.specs.declared.fields.RecordFault.TheVariants.{Dimension, Size, NoDie, ZeroByte, Filling, NoMap, OtherWord}
use Rattle.drawer.specs.declared.table.Entry.{Entry}
use Rattle.drawer.specs.declared.records.Found.{Found}
use Rattle.drawer.specs.declared.refusal.DrawerRefusal.{DrawerRefusal}
use Rattle.drawer.specs.Shown.{shown_drawer}

-- the definitions' name of a fault
unfoldable pub fault_of : RecordFault → Fault
fault_of Dimension = wrong_dimension
fault_of Size = wrong_size
fault_of NoDie = no_die
fault_of ZeroByte = zero_byte
fault_of Filling = filling
fault_of (NoMap refusal) = no_map (shown_refusal refusal)
fault_of OtherWord = other_word

-- the reading that an answer of `src/` stands for, of the record r, where the word stays: no two answers stand for one
unfoldable pub reading_of : Result Layout RecordFault → List ℕ → Reading
reading_of (Ok l) r = good (record { die = l.die; layout = lent l.n l.m (numbers (l.n * l.m) (drop 8 r)) })
reading_of (Err f) r = bad (fault_of f)

-- the bytes r are a record's, and the list has room for any table
unfoldable pub is_read : List ℕ → List ℕ → Bool
is_read r before = eqb (length r) record_size && leb 1020 (length before)

-- the die number as it stands and the reading, where they are
unfoldable pub entry_of : List ℕ → List ℕ → Option (ℕ × Reading)
entry_of r before = cond (is_read r before) (Some ((filed_in r).die, read_table r)) None

-- what an answer of `src/` stands for
unfoldable pub shown_entry : Option Entry → List ℕ → Option (ℕ × Reading)
shown_entry None r = None
shown_entry (Some e) r = Some (e.die, reading_of e.reading r)

-- the list afterwards: the table of a filed layout is put in front
unfoldable pub table_over : Reading → List ℕ → List ℕ
table_over (good f) before = over f.layout.table before
table_over (bad f) before = before

-- the answer e, and `after` in the list that held `before`
pub record ReadsAs (r before : List ℕ) (e : Option Entry) (after : List ℕ) : Type 0 where
  pub answer : shown_entry e r ≡ entry_of r before
  pub written : after ≡ cond (is_read r before) (table_over (read_table r) before) before

-- the numbers that an answer of search stands for
abbrev pub shown_search : Result Found DrawerRefusal → SearchAnswer
shown_search (Ok f) = record { number = 0; place = 0; die = f.die; at = f.at }
shown_search (Err r) = record { number = (shown_drawer r).number; place = (shown_drawer r).place; die = 0; at = 0 }

-- the numbers that an answer of filing, the new count, stands for
abbrev pub shown_filing : Result ℕ DrawerRefusal → FilingAnswer
shown_filing (Ok count) = record { number = 0; place = 0; count = count }
shown_filing (Err r) = record { number = (shown_drawer r).number; place = (shown_drawer r).place; count = 0 }

-- the answer r, and `after` in the bytes of the drawer D
pub record FilesAs (die : ℕ) (g : Given) (D : Drawer) (r : Result ℕ DrawerRefusal) (after : List ℕ) : Type 0 where
  pub answer : shown_filing r ≡ filing_answer die g D
  pub written : after ≡ filed_bytes die g D
