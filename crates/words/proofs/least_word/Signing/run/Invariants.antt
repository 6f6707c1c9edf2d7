use Rattle.std.proofs.Common.{◌≡◌, length}
use Rattle.words.proofs.Usable.{map_held}
use Rattle.words.proofs.Trying.{Trying}
use Rattle.words.proofs.least_word.Signing.run.Given as goal

abbrev pub invariant-loop-d : goal.invariant-loop-d
invariant-loop-d l =
    record {
      so_far : Trying (map_held l.map) l.least l.lead l.forest.up l.self.word l.start l.rows l.d;
      long_lead : length l.lead ≡ 1020;
      long_word : length l.self.word ≡ 1020;
    }
