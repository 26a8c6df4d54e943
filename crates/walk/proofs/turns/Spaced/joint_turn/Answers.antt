-- `walk::turns::Spaced::joint_turn` meets its contract.
-- Assumes nothing.
use mathlib.Core.Path.{refl}
use Rattle.walk.specs.Turns.{joint_turn}
use Rattle.walk.proofs.Stages.{even_stages, two_stages}
use Rattle.walk.proofs.turns.Spaced.joint_turn.Goals as goal

pub returns-in-Even : goal.returns-in-Even
unfolding joint_turn
returns-in-Even c = rw (even_stages c.args.self.limits c.in-Even.is) refl

pub returns-in-TwoStage : goal.returns-in-TwoStage
unfolding joint_turn
returns-in-TwoStage c =
    let two = two_stages c.args.self.limits c.in-TwoStage.is in
    rw (c.row_past.ensures, two.not_even, two.num, two.den) refl
