-- `heights::axis::Axis::number` meets its contract: the axis itself is within the sizes.
-- Assumes nothing.
use mathlib.Core.Path.{◌∙◌}
use native.Mathlib.Omega.{arith}
use mir.Syntax.{w32}
use mir.Facts.{to_z-of_z}
use Rattle.heights.proofs.OnAxis.{above_is}
use Rattle.heights.proofs.axis.Axis.number.Goals as goal

pub returns : goal.returns
returns c =
    let a = c.args.self in
    to_z-of_z {w = w32} (record { sfits = c.height.type_inv })
    ∙ c.height.ensures
    ∙ above_is a 0 0 1 (omega (arith, a.rest_most, a.unit_least, a.unit_most))
