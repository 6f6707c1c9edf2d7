-- What search comes to where a record has the layout. Assumes nothing.
use mathlib.Core.Path.{sym}
use native.Mathlib.Omega.{arith}
use Rattle.maps.proofs.Least.{some_is}
use Rattle.drawer.proofs.Calls.{made_layout, search_passed}
use Rattle.drawer.proofs.search.search.Goals as goal

pub returns-in-Some : goal.returns-in-Some
returns-in-Some c =
    let made = c.in_ok-sought.ensures in
    let good = c.in_ok-held.ensures in
    let is = rw (good.0, made.1, made_layout 0 _ (omega arith) made.0) at c.in-Some.ensures in
    (good.0, (some_is is).1, sym (some_is is).0, search_passed _ _ made.0 good.1 _ is)
