-- With each dart passed, β0 is known of what β1 takes it to, and rule 6 holds so far.
use Rattle.maps.specs.Given.{map_of}
use Rattle.maps.specs.Shown.{given}
use Rattle.maps.proofs.Answer.{Sewing}
use Rattle.maps.proofs.shape.InShape.sew_back.Given as goal

abbrev pub invariant-loop-d : goal.invariant-loop-d
invariant-loop-d l = Sewing (map_of (given l.self.table)) l.d l.back
