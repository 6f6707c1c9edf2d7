-- every dart before has a label
use Rattle.std.proofs.Common.{◌+◌, ◌-◌, get_or, eqb}
use Rattle.maps.proofs.Least.{Passed}
use Rattle.labels.proofs.not_labelled.Given as goal

abbrev pub invariant-loop-i : goal.invariant-loop-i
invariant-loop-i l = Passed (λ d. eqb (get_or l.labels (d - 1) 0) 0) (l.i + 1)
