-- `walk::pieces::climb_of` meets its contract.
-- Assumes nothing.
use mir.Facts.{to_z-of_z}
use Rattle.walk.proofs.Footings.{climb_below, climb_above}
use Rattle.walk.proofs.pieces.climb_of.Goals as goal

pub returns-then-grade-lt0 : goal.returns-then-grade-lt0
returns-then-grade-lt0 c =
    let back = to_z-of_z c.ranges.grade in
    rw (c.from.ensures, c.from-2.ensures, c.unsigned_abs.ensures.value, back) (climb_below c.args.grade c.args.step (rw back at c.if-grade-lt0.true))

pub returns : goal.returns
returns c =
    let back = to_z-of_z c.ranges.grade in
    rw (c.from.ensures, c.from-2.ensures, c.unsigned_abs.ensures.value, back) (climb_above c.args.grade c.args.step (rw back at c.if-grade-lt0.false))
