-- `walk::afresh::Start::outer_curves` meets its contract.
-- Assumes nothing.
use native.Mathlib.Omega.{arith}
use Rattle.walk.specs.Gains.{outer_curves}
use Rattle.walk.proofs.SameCurves.{same_curves}
use Rattle.walk.proofs.afresh.Start.outer_curves.Goals as goal

pub outer_curve-requires-clause-narrow : goal.outer_curve-requires-clause-narrow
outer_curve-requires-clause-narrow c =
    let limits = c.args.self.station.limits in
    omega (arith, limits.half_most, limits.shoulder_most)

pub outer_curve-requires-2-clause-narrow : goal.outer_curve-requires-2-clause-narrow
outer_curve-requires-2-clause-narrow c = omega (arith, c.args.self.station.limits.half_most)

pub returns : goal.returns
unfolding outer_curves
returns c = same_curves c.outer_curve.ensures c.outer_curve-2.ensures
