-- The length, the first bad dart and the least dart that is not kept, in this order.
use Rattle.std.proofs.Common.{sym}
use Rattle.maps.proofs.Least.{none_is}
use Rattle.matches.proofs.Inside.{good_images, images_long, images_bad, images_parted, images_kept}
use Rattle.matches.proofs.Pair.judge.Goals as goal

pub returns-then-list-self : goal.returns-then-list-self
returns-then-list-self c = sym (images_long _ _ _ c.if-list-self.true)

pub returns-in-Some : goal.returns-in-Some
returns-in-Some c = sym (images_bad _ _ _ c.if-list-self.false c.in-Some.dart c.in-Some.ensures)

pub invariant_of-images : goal.invariant_of-images
invariant_of-images c = record { to_darts = rw c.if-list-self.false at (good_images _ _ (none_is c.in_default.ensures)) }

pub returns-in-Some-first_not_kept : goal.returns-in-Some-first_not_kept
returns-in-Some-first_not_kept c =
    sym (images_parted _ _ _ c.if-list-self.false c.in_default.ensures c.in-Some-first_not_kept.dart c.in-Some-first_not_kept.ensures)

pub returns : goal.returns
returns c = sym (images_kept _ _ _ c.if-list-self.false c.in_default.ensures c.in_default-first_not_kept.ensures)
