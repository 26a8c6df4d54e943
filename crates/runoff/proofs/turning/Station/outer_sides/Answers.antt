-- `runoff::turning::Station::outer_sides` meets its contract.
-- Assumes nothing.
use mathlib.Core.Path.{◌∙◌}
use mir.Syntax.{w32}
use mir.Facts.{to_z-of_z}
use Rattle.runoff.specs.Reckoning.{outer_sides}
use Rattle.runoff.proofs.RowLines.{outer_edge_above, outer_brow_above}
use Rattle.runoff.proofs.Fields.{same_sides}
use Rattle.runoff.proofs.turning.Station.outer_sides.Goals as goal

pub returns : goal.returns
unfolding outer_sides
returns c =
    same_sides
    (to_z-of_z {w = w32} (record { sfits = c.height-brow.type_inv }) ∙ c.height-brow.ensures ∙ (outer_brow_above c.args.self c.requires c.args.axis).counted)
    (to_z-of_z {w = w32} (record { sfits = c.height-edge.type_inv }) ∙ c.height-edge.ensures ∙ (outer_edge_above c.args.self c.requires c.args.axis).counted)
