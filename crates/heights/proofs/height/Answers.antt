-- `heights::height` meets its contract.
-- Assumes nothing.
use mathlib.Core.Path.{ap, ◌∙◌}
use lib.IntN.{ℤ}
use mir.Syntax.{w32, w64}
use mir.Facts.{to_z-of_z}
use Rattle.rounding.specs.Nearest.{nearest_of}
use Rattle.card.specs.Rows.{tie}
use Rattle.heights.specs.Counts.{net, count_of}
use Rattle.heights.proofs.height.Goals as goal

pub returns : goal.returns
unfolding count_of net
returns c =
    to_z-of_z {w = w32} (record { sfits = c.in_units.type_inv })
    ∙ c.in_units.ensures
    ∙ ap (λ (n : ℤ). nearest_of (tie c.args.unit) c.args.unit n c.args.over) (to_z-of_z {w = w64} (record { sfits = c.cast_signed-net.type_inv }) ∙ c.cast_signed-net.ensures)
