-- `walk::afresh::Start::inner_curves` meets its contract.
-- Assumes nothing.
use native.Mathlib.Omega.{arith}
use Rattle.walk.specs.Gains.{inner_curves}
use Rattle.walk.proofs.Raises.{inner_few, shoulder_few, inner_edge_raised, inner_brow_raised}
use Rattle.walk.proofs.SameCurves.{same_curves}
use Rattle.walk.proofs.afresh.Start.inner_curves.Goals as goal

pub overflow_mul-lane : goal.overflow_mul-lane
overflow_mul-lane c = record { fits = omega (arith, inner_brow_raised c.args.self c.requires) }

pub overflow_mul-lane_rise : goal.overflow_mul-lane_rise
overflow_mul-lane_rise c = record { fits = omega (arith, inner_brow_raised c.args.self c.requires) }

pub overflow_add-lane_rise : goal.overflow_add-lane_rise
overflow_add-lane_rise c = record { fits = omega (arith, inner_few c.args.self c.requires) }

pub overflow_mul-lane_rise-2 : goal.overflow_mul-lane_rise-2
overflow_mul-lane_rise-2 c = record { fits = omega (arith, inner_brow_raised c.args.self c.requires) }

pub overflow_add-lane_rise-2 : goal.overflow_add-lane_rise-2
overflow_add-lane_rise-2 c = record { fits = omega (arith, inner_brow_raised c.args.self c.requires) }

pub overflow_mul-lane_bend : goal.overflow_mul-lane_bend
overflow_mul-lane_bend c = record { fits = omega (arith, inner_brow_raised c.args.self c.requires) }

pub overflow_mul-lane_bend-2 : goal.overflow_mul-lane_bend-2
overflow_mul-lane_bend-2 c = record { fits = omega (arith, inner_brow_raised c.args.self c.requires) }

pub overflow_mul-side : goal.overflow_mul-side
overflow_mul-side c = record { fits = rw c.at_least-kept.ensures (omega (arith, inner_brow_raised c.args.self c.requires)) }

pub overflow_add-side : goal.overflow_add-side
overflow_add-side c = record { fits = rw c.at_least-kept.ensures (omega (arith, inner_brow_raised c.args.self c.requires)) }

pub overflow_add-rise : goal.overflow_add-rise
overflow_add-rise c = record { fits = omega (arith, shoulder_few c.args.self c.requires) }

pub overflow_mul-rise : goal.overflow_mul-rise
overflow_mul-rise c = record { fits = omega (arith, inner_brow_raised c.args.self c.requires) }

pub overflow_mul-rise-2 : goal.overflow_mul-rise-2
overflow_mul-rise-2 c = record { fits = rw c.at_least-kept.ensures (omega (arith, inner_brow_raised c.args.self c.requires)) }

pub overflow_add-rise-2 : goal.overflow_add-rise-2
overflow_add-rise-2 c = record { fits = rw c.at_least-kept.ensures (omega (arith, inner_brow_raised c.args.self c.requires)) }

pub overflow_mul-bend : goal.overflow_mul-bend
overflow_mul-bend c = record { fits = omega (arith, inner_brow_raised c.args.self c.requires) }

pub overflow_mul-bend-2 : goal.overflow_mul-bend-2
overflow_mul-bend-2 c = record { fits = omega (arith, inner_brow_raised c.args.self c.requires) }

pub overflow_mul-full : goal.overflow_mul-full
overflow_mul-full c = record { fits = omega (arith, inner_brow_raised c.args.self c.requires) }

pub curve-requires : goal.curve-requires
curve-requires c = rw c.at_least-kept.ensures (inner_brow_raised c.args.self c.requires)

pub below-requires : goal.below-requires
below-requires c = inner_edge_raised c.args.self c.requires

pub returns : goal.returns
unfolding inner_curves
returns c = same_curves (rw c.at_least-kept.ensures at c.curve.ensures) c.below.ensures
