-- What the display shows of an answer of `src/` on a drawer (01, "Numbers the display can show").
--     lent_drawer r        the definitions' record of what a caller lends
--     shown_drawer r       the number and the place of a refusal
--     drawer_verdict r     the number and the place of the drawer check's answer: 0 and 0 where it accepts
-- Assumes nothing.
use Rattle.std.specs.Prelude.{Result, Ok, Err}
use Rattle.maps.specs.Verdict.{Verdict, accepted, refused}
use Rattle.maps.specs.Shown.{shown_refusal}
use Rattle.drawer.specs.Drawer.{Drawer, drawer}
use Rattle.drawer.specs.declared.records.Records.{Records}
use Rattle.drawer.specs.declared.refusal.DrawerRefusal.{DrawerRefusal}
use Rattle.drawer.specs.declared.refusal.DrawerRefusal.TheVariants.{Map, Short, Bad, NotFound, Die, Layout, Full}

-- the drawer that a caller lends, as the definitions take it
abbrev pub lent_drawer : Records → Drawer
lent_drawer r = drawer r.count r.bytes.now

-- the number and the place of a refusal
abbrev pub shown_drawer : DrawerRefusal → Verdict
shown_drawer (Map refusal) = shown_refusal refusal
shown_drawer Short = refused 13 0
shown_drawer (Bad at) = refused 14 at
shown_drawer NotFound = refused 15 0
shown_drawer (Die at) = refused 16 at
shown_drawer (Layout at) = refused 17 at
shown_drawer Full = refused 18 0

-- the number and the place of the drawer check's answer
abbrev pub drawer_verdict : Result Unit DrawerRefusal → Verdict
drawer_verdict (Ok _) = accepted
drawer_verdict (Err r) = shown_drawer r
