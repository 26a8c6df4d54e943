-- `minsk::turning::Station::widened` meets its contract.
-- Assumes nothing.
use mathlib.Core.Path.{◌∙◌}
use mir.Syntax.{w32}
use mir.Facts.{to_z-of_z}
use Rattle.rounding.proofs.Parts.{counted}
use Rattle.card.specs.Rows.{tie}
use Rattle.heights.proofs.Counts.{count_is}
use Rattle.minsk.proofs.RowLines.{widening_line, not_widened}
use Rattle.minsk.proofs.turning.Station.widened.Goals as goal

pub returns-then-wide-eq0 : goal.returns-then-wide-eq0
returns-then-wide-eq0 c = not_widened c.requires c.args.axis.unit_least c.args.axis.unit_most c.if-wide-eq0.true

pub returns : goal.returns
returns c =
    let line = widening_line c.requires c.args.axis.unit_least c.args.axis.unit_most in
    to_z-of_z {w = w32} (record { sfits = c.height.type_inv })
    ∙ c.height.ensures
    ∙ count_is line.sized
    ∙ counted (tie c.args.axis.unit) line
