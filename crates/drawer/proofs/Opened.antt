-- `unfolding opened` opens every definition of this crate and of those below it, for a statement that is proved by computing.
-- Assumes nothing.
use Rattle.words.proofs.Opened.{opened as words_opened}
use Rattle.drawer.specs.Record.{same_layout, to_bytes, from_bytes, numbers, record_size, record_bytes, filed_in, zero_byte_in, filling_in, all_zero, provided, read_table, as_signed, read_record}
use Rattle.drawer.specs.Drawer.{most_records, record_at, entry_at, is_bad, has_die, has_layout, repeats, bad_record, judge_count, judge_records, drawer_answer, layout_of, record_of, record_of_die, judge_search, search_answer, own_bytes, judge_next, judge_filing, filing_answer, filed_bytes}
use Rattle.drawer.specs.Plain.{fits, all_fit, drawer_step, drawer_after, drawer_run, first_place, no_entry, filed_at, judge_plain_search, plain_search, plain_fetch, judge_plain_filing, plain_filing, plain_step, plain_after, plain_run, room_in}
use Rattle.drawer.specs.Theorems.{drawer_left, plain_left, holding}

unfoldable pub opened : Unit {0}
unfolding words_opened same_layout to_bytes from_bytes numbers record_size record_bytes filed_in zero_byte_in filling_in all_zero provided read_table as_signed read_record most_records record_at entry_at is_bad has_die has_layout repeats bad_record judge_count judge_records drawer_answer layout_of record_of record_of_die judge_search search_answer own_bytes judge_next judge_filing filing_answer filed_bytes fits all_fit drawer_step drawer_after drawer_run first_place no_entry filed_at judge_plain_search plain_search plain_fetch judge_plain_filing plain_filing plain_step plain_after plain_run room_in drawer_left plain_left holding
opened = tt
