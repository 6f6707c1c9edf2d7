use Rattle.words.proofs.Spelling.{spelt_out, spelt_already}
use Rattle.words.proofs.least_word.spell_out.Goals as goal

pub returns-then-rows-m : goal.returns-then-rows-m
returns-then-rows-m c = spelt_out c.args.map c.requires c.told-word c.if-rows-m.true c.try_start.ensures

pub returns-else-rows-m : goal.returns-else-rows-m
returns-else-rows-m c = spelt_already c.args.map c.requires c.if-rows-m.false c.args.queue.now
