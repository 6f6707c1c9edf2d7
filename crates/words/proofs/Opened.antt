-- `unfolding opened` opens every definition of this crate and of those below it, for a statement that is proved by computing.
-- Assumes nothing.
use mathlib.Core.List.{flat_map}
use Rattle.labels.proofs.Opened.{opened as labels-opened}
use Rattle.words.specs.Words.{row, word_of, word, same, less, lesser, least_word, signature, yields, start, symmetries, by_labels}
use Rattle.words.specs.Sign.{signature_answer, over, signature_output}
use Rattle.words.specs.Match.{image_of_first, shown, judge_pair, judge_matching, match_answer, match_output}

unfoldable pub opened : Unit {0}
unfolding labels-opened flat_map row word_of word same less lesser least_word signature yields start symmetries by_labels signature_answer over signature_output image_of_first shown judge_pair judge_matching match_answer match_output
opened = tt
