-- The theorems of `specs/JudgeTheorems.antt`. Assumes nothing.
use mathlib.Core.Path.{refl}
use native.Mathlib.Omega.{arith}
use Rattle.maps.specs.Lines.{raised, shape_lines, room_lines, entry_lines, map_lines, table_lines, check_lines}
use Rattle.maps.proofs.Lines.{has_number, shows_without}
use Rattle.matches.specs.Judge.{judge_lines}
use Rattle.matches.specs.JudgeTheorems.{JudgeAccepts, JudgeShows, JudgeNumbers}
use Rattle.matches.proofs.Judge.{judge_shows, judge_clear, clear_judge}

pub judge_accepts : JudgeAccepts
unfolding JudgeAccepts
judge_accepts a b f = (judge_clear a b f, λ h. clear_judge a b f h.0 h.1 h.2)

pub the_judge_shows : JudgeShows
unfolding JudgeShows
the_judge_shows = judge_shows

pub judge_numbers : JudgeNumbers
unfolding JudgeNumbers judge_lines raised check_lines table_lines shape_lines room_lines map_lines entry_lines has_number
judge_numbers a b f = (shows_without 4 (omega arith) refl (judge_shows a b f), shows_without 24 (omega arith) refl (judge_shows a b f))
