-- `unfolding opened` opens every definition of this crate, for a statement that is proved by computing. Assumes nothing.
use Rattle.maps.specs.Least.{nth, up_to, least, some, count}
use Rattle.maps.specs.Map.{is_dart, back, sew}
use Rattle.maps.specs.Given.{place_of, map_of}
use Rattle.maps.specs.Verdict.{accepted, refused, accepts, unless, at_least, in_order, of_second}
use Rattle.maps.specs.Rules.{judge_dimension, judge_size, judge_length, judge_shape, judge_output, exceeds, given_before, unanswered, parted, composes_wrong, rules, dart_at, sewing_at, wrong_entry, shown_place, judged_by, judge_entries, judge_sewing}

unfoldable pub opened : Unit {0}
unfolding nth up_to least some count is_dart back sew place_of map_of accepted refused accepts unless at_least in_order of_second judge_dimension judge_size judge_length judge_shape judge_output exceeds given_before unanswered parted composes_wrong rules dart_at sewing_at wrong_entry shown_place judged_by judge_entries judge_sewing
opened = tt
