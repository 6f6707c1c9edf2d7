use Rattle.std.proofs.Common.{◌≡◌, ◌+◌, ◌-◌, ◌*◌, ◌≤◌, length, rules, arith}
use Rattle.labels.proofs.Inside.{row_inside, row_is}
use Rattle.labels.proofs.SewnTable.row.Goals as goal

pub slice_bounds-result-end : goal.slice_bounds-result-end
slice_bounds-result-end c =
    let t = c.args.self.table in
    let inside : (c.from.result - 1) * t.n + t.n ≤ length t.numbers.now = rw c.from.ensures (row_inside c.args.self.shaped c.requires) in
    search rules

pub returns : goal.returns
returns c =
    let t = c.args.self.table in
    let long : (c.args.d - 1) * t.n + t.n - (c.args.d - 1) * t.n ≡ t.n = omega arith in
    rw (c.from.ensures, long) (row_is c.args.self.shaped c.requires)
