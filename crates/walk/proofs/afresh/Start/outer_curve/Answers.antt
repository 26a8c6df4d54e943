-- `walk::afresh::Start::outer_curve` meets its contract.
-- Assumes nothing.
use native.Mathlib.Omega.{arith}
use Rattle.walk.proofs.Raises.{outer_raised}
use Rattle.walk.proofs.afresh.Start.outer_curve.Goals as goal

pub overflow_mul-at : goal.overflow_mul-at
overflow_mul-at c = record { fits = omega (arith, outer_raised c.args.self c.requires.slopes c.args.width c.requires.narrow) }

pub overflow_mul-at-2 : goal.overflow_mul-at-2
overflow_mul-at-2 c = record { fits = omega (arith, outer_raised c.args.self c.requires.slopes c.args.width c.requires.narrow) }

pub overflow_mul-rise : goal.overflow_mul-rise
overflow_mul-rise c = record { fits = omega (arith, outer_raised c.args.self c.requires.slopes c.args.width c.requires.narrow) }

pub curve-requires : goal.curve-requires
curve-requires c = outer_raised c.args.self c.requires.slopes c.args.width c.requires.narrow
