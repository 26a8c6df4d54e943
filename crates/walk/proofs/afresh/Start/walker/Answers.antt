-- `walk::afresh::Start::walker` meets its contract.
-- Assumes nothing.
use mathlib.Core.Path.{refl}
use Rattle.walk.specs.Gains.{walker_by}
use Rattle.walk.proofs.afresh.Start.walker.Goals as goal

pub returns : goal.returns
unfolding walker_by
returns c =
    rw (c.widening_curve.ensures, c.curve.ensures, c.inner_curves-inner.ensures, c.outer_curves-outer.ensures, c.slopes-s.ensures) refl
