-- `runoff::turning::Station::widening` meets its contract.
-- Assumes nothing.
use mathlib.Core.Path.{◌∙◌}
use mir.Syntax.{w32}
use mir.Facts.{to_z-of_z}
use Rattle.rounding.proofs.Parts.{counted}
use Rattle.card.specs.Rows.{tie}
use Rattle.heights.proofs.Counts.{count_is}
use Rattle.runoff.proofs.RowLines.{widening_line, not_widened}
use Rattle.runoff.proofs.turning.Station.widening.Goals as goal

pub returns-then-w-eq0 : goal.returns-then-w-eq0
returns-then-w-eq0 c = not_widened c.args.self c.args.axis.unit_least c.args.axis.unit_most c.if-w-eq0.true

pub returns : goal.returns
returns c =
    to_z-of_z {w = w32} (record { sfits = c.height.type_inv })
    ∙ c.height.ensures
    ∙ (let line = widening_line c.args.self c.args.axis.unit_least c.args.axis.unit_most in count_is line.sized ∙ counted (tie c.args.axis.unit) line)
