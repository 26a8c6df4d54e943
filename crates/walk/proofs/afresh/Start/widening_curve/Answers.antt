-- `walk::afresh::Start::widening_curve` meets its contract.
-- Assumes nothing.
use mathlib.Core.Path.{◌∙◌}
use Rattle.exact.proofs.Ring.{zero_times, zero_plus}
use Rattle.walk.specs.Gains.{height_curve, widening_curve}
use Rattle.walk.proofs.Raises.{widening_raised}
use Rattle.walk.proofs.afresh.Start.widening_curve.Goals as goal

pub curve-requires : goal.curve-requires
curve-requires c = widening_raised c.args.self

pub returns : goal.returns
unfolding height_curve widening_curve
returns c = c.curve.ensures ∙ simp (zero_times, zero_plus)
