-- The part that `drawer::search::found` hands back. Assumes nothing.
use mathlib.Core.Path.{◌∙◌}
use Rattle.drawer.proofs.Calls.{own_found, own_none}
use Rattle.drawer.proofs.search.found.Goals as goal

pub returns-in-Ok : goal.returns-in-Ok
returns-in-Ok c =
    let e = c.in-Ok.ensures in
    c.record.ensures ∙ rw e.0 (own_found _ _ e.3 _ e.2)

pub returns-in-Err : goal.returns-in-Err
returns-in-Err c = own_none _ _ _ c.in-Err.ensures
