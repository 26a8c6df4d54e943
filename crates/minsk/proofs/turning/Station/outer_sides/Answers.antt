-- `minsk::turning::Station::outer_sides` meets its contract.
-- Assumes nothing.
use mathlib.Core.Path.{◌∙◌}
use mir.Syntax.{w32}
use mir.Facts.{to_z-of_z}
use Rattle.minsk.specs.Reckoning.{outer_sides}
use Rattle.minsk.proofs.RowLines.{outer_edge_above, outer_strip_above, outer_brow_above}
use Rattle.minsk.proofs.Fields.{same_sides}
use Rattle.minsk.proofs.turning.Station.outer_sides.Goals as goal

pub returns : goal.returns
unfolding outer_sides
returns c =
    same_sides
    (to_z-of_z {w = w32} (record { sfits = c.height-edge.type_inv }) ∙ c.height-edge.ensures ∙ (outer_edge_above c.args.self c.requires c.args.axis).counted)
    (to_z-of_z {w = w32} (record { sfits = c.height-strip.type_inv }) ∙ c.height-strip.ensures ∙ (outer_strip_above c.args.self c.requires c.args.axis).counted)
    (to_z-of_z {w = w32} (record { sfits = c.height-brow.type_inv }) ∙ c.height-brow.ensures ∙ (outer_brow_above c.args.self c.requires c.args.axis).counted)
