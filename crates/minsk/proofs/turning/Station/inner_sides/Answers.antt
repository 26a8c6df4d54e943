-- `minsk::turning::Station::inner_sides` meets its contract.
-- Assumes nothing.
use mathlib.Core.Path.{◌∙◌}
use Prim.Native.Nat.{◌+◌, ◌*◌, ◌-◌}
use native.Mathlib.Omega.{arith}
use mir.Syntax.{w32}
use mir.Facts.{to_z-of_z}
use Rattle.rounding.specs.Nearest.{Sized}
use Rattle.minsk.specs.Reckoning.{inner_sides}
use Rattle.minsk.proofs.RowLines.{inner_edge_above, inner_strip_above, inner_brow_above}
use Rattle.minsk.proofs.Fields.{same_sides}
use Rattle.minsk.proofs.turning.Station.inner_sides.Goals as goal
use Rattle.minsk.proofs.turning.Station.inner_sides.Goals.{After-at_least-kept}

-- the inner brow with what is kept of the shoulder as the call gives it
brow_sized :
    (c : After-at_least-kept) →
    let a = c.args in
    let r = a.self.runoff in
    let over = r.growth.over in
    let both = ((r.half_width + r.strip_width) * over + a.wide) * a.s.inner in
    let side = (c.at_least-kept.result - r.strip_width * over) * a.s.shoulder in
    Sized (a.axis.rest * (over * a.s.outer.over) + 0) (both + side) (over * a.s.outer.over) a.axis.unit
brow_sized c = rw c.at_least-kept.ensures (inner_brow_above c.args.self c.requires.slopes c.requires.wide c.args.axis).sized

pub overflow_mul-both-2 : goal.overflow_mul-both-2
overflow_mul-both-2 c = record { fits = omega (arith, (inner_strip_above c.args.self c.requires.slopes c.requires.wide c.args.axis).sized) }

pub overflow_mul-side-2 : goal.overflow_mul-side-2
overflow_mul-side-2 c = record { fits = omega (arith, brow_sized (goal.at.overflow_mul-side-2 c).After-at_least-kept) }

pub overflow_add-both-3 : goal.overflow_add-both-3
overflow_add-both-3 c = record { fits = omega (arith, brow_sized (goal.at.overflow_add-both-3 c).After-at_least-kept) }

pub returns : goal.returns
unfolding inner_sides
returns c =
    same_sides
    (to_z-of_z {w = w32} (record { sfits = c.height-edge.type_inv })
    ∙ c.height-edge.ensures
    ∙ (inner_edge_above c.args.self c.requires.slopes c.requires.wide c.args.axis).counted)
    (to_z-of_z {w = w32} (record { sfits = c.height-strip.type_inv })
    ∙ c.height-strip.ensures
    ∙ (inner_strip_above c.args.self c.requires.slopes c.requires.wide c.args.axis).counted)
    (to_z-of_z {w = w32} (record { sfits = c.height-brow.type_inv })
    ∙ (rw c.at_least-kept.ensures at c.height-brow.ensures)
    ∙ (inner_brow_above c.args.self c.requires.slopes c.requires.wide c.args.axis).counted)
