-- `runoff::turning::Station::inner_sides` meets its contract.
-- Assumes nothing.
use mathlib.Core.Path.{◌∙◌}
use Prim.Native.Nat.{◌+◌, ◌*◌}
use native.Mathlib.Omega.{arith}
use mir.Syntax.{w32}
use mir.Facts.{to_z-of_z}
use Rattle.rounding.specs.Nearest.{Sized}
use Rattle.runoff.specs.Reckoning.{inner_sides}
use Rattle.runoff.proofs.RowLines.{inner_edge_above, inner_brow_above}
use Rattle.runoff.proofs.Fields.{same_sides}
use Rattle.runoff.proofs.turning.Station.inner_sides.Goals as goal
use Rattle.runoff.proofs.turning.Station.inner_sides.Goals.{After-at_least-kept}

-- the inner brow with what is kept of the shoulder as the call gives it
brow_sized :
    (c : After-at_least-kept) →
    let a = c.args in
    let r = a.self.runoff in
    let lane = (r.half_width * r.clothoid + r.full_widening * a.self.d) * a.s.inner in
    Sized (a.axis.rest * (r.clothoid * a.s.outer.over) + 0) (lane + c.at_least-kept.result * a.s.shoulder) (r.clothoid * a.s.outer.over) a.axis.unit
brow_sized c = rw c.at_least-kept.ensures (inner_brow_above c.args.self c.requires c.args.axis).sized

pub overflow_add-lane-2 : goal.overflow_add-lane-2
overflow_add-lane-2 c = record { fits = omega (arith, brow_sized (goal.at.overflow_add-lane-2 c).After-at_least-kept) }

pub returns : goal.returns
unfolding inner_sides
returns c =
    same_sides
    (to_z-of_z {w = w32} (record { sfits = c.height-brow.type_inv })
    ∙ (rw c.at_least-kept.ensures at c.height-brow.ensures)
    ∙ (inner_brow_above c.args.self c.requires c.args.axis).counted)
    (to_z-of_z {w = w32} (record { sfits = c.height-edge.type_inv }) ∙ c.height-edge.ensures ∙ (inner_edge_above c.args.self c.requires c.args.axis).counted)
