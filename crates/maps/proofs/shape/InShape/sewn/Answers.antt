-- Outside the darts nothing is sewn, and inside the entry is read from the table.
use Rattle.std.proofs.Common.{◌+◌, ◌-◌, ◌%◌, ◌≡◌, sym, ◌∙◌, arith}
use mathlib.Core.Logic.{inl, inr, ⊎_elim}
use native.Mathlib.Nat.{eq-zero-or-pos}
use Rattle.maps.specs.Given.{map_of}
use Rattle.maps.proofs.Map.{sew_none}
use Rattle.maps.proofs.Given.{table_sew}
use Rattle.maps.proofs.shape.InShape.sewn.Goals as goal

pub returns-then-self-at : goal.returns-then-self-at
unfolding map_of
returns-then-self-at c =
    sym (sew_none _ _ _ (⊎_elim (λ zero. inl zero) (λ some. inr (omega arith)) (eq-zero-or-pos c.args.d)))

pub returns : goal.returns
returns c =
    let here : (c.args.d + 18446744073709551615) % 18446744073709551616 ≡ c.args.d - 1 = omega arith in
    c.from.ensures ∙ rw here (sym (table_sew c.args.self.shaped c.args.d c.args.i (omega arith) (omega arith) (omega arith) (omega arith)))
