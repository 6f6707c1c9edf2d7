-- The theorems of `specs/Theorems.antt`. Assumes nothing.
use mathlib.Core.Path.{refl}
use native.Mathlib.Omega.{arith}
use Rattle.maps.specs.Lines.{shape_lines, room_lines, entry_lines, map_lines, table_lines, check_lines}
use Rattle.maps.specs.Rules.{judge_output}
use Rattle.maps.proofs.Lines.{has_number, shows_without, shows_most}
use Rattle.maps.proofs.Base.{base_shows}
use Rattle.labels.specs.Judging.{check_answer}
use Rattle.labels.specs.Theorems.{QueueDarts, LabelledReached, AllLabelled, CheckAccepts, TableShows, CheckShows, CheckNumbers, BaseReadOff}
use Rattle.labels.proofs.Queue.{labelling_queue, labelling_closed, queue_zero}
use Rattle.labels.proofs.Reached.{labelled_reached, reached_labelled, labelling_numbers}
use Rattle.labels.proofs.Judging.{table_shows, table_clear, clear_table}

pub queue_darts : QueueDarts
unfolding QueueDarts
queue_darts M to_darts d dart =
    let q = labelling_queue M to_darts d dart in
    (λ k low high. (q.of_darts k low high, q.once k low high), labelling_closed M to_darts d dart)

pub labelled_is_reached : LabelledReached
unfolding LabelledReached
labelled_is_reached M to_darts d dart e = (labelled_reached M d e, reached_labelled M to_darts d dart e)

pub all_labelled : AllLabelled
unfolding AllLabelled
all_labelled M a d dart =
    let n = labelling_numbers a d dart in (
      n.long,
      queue_zero (labelling_queue M a.open_map.to_darts d dart),
      λ e there. (n.label_low e there, n.label_high e, n.at_label e there),
      λ k low high. (n.dart_there k low high, n.label_of k low high),
    )

pub check_accepts : CheckAccepts
unfolding CheckAccepts check_answer judge_output
check_accepts g = (λ is. let h = table_clear _ g is in (h.1.long, h.2), λ h. clear_table _ g refl h.0 h.1)

pub the_table_shows : TableShows
unfolding TableShows
the_table_shows o g = table_shows o g

pub check_shows : CheckShows
unfolding CheckShows check_lines check_answer
check_shows g = table_shows _ g

pub check_numbers : CheckNumbers
unfolding CheckNumbers check_lines table_lines shape_lines room_lines map_lines entry_lines has_number CheckShows
check_numbers g = (shows_most 9 (check_shows g) (omega arith), shows_without 4 (omega arith) refl (check_shows g))

pub base_read_off : BaseReadOff
unfolding BaseReadOff
base_read_off o g = base_shows o g (table_shows o g)
