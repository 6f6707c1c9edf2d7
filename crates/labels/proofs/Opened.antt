-- `unfolding opened` opens every definition of this crate and of those below it, for a statement that is proved by computing.
-- Assumes nothing.
use Rattle.maps.proofs.Opened.{opened as maps-opened}
use Rattle.labels.specs.Queue.{further, label_in, visit, visits, tried, serve, served, labelling}
use Rattle.labels.specs.Judging.{not_reached, judge_map, table_answer, check_answer}

unfoldable pub opened : Unit {0}
unfolding maps-opened further label_in visit visits tried serve served labelling not_reached judge_map table_answer check_answer
opened = tt
