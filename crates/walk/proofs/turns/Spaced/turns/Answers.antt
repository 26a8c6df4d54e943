-- `walk::turns::Spaced::turns` meets its contract.
-- Assumes nothing.
use mathlib.Core.Path.{refl}
use Rattle.walk.specs.Turns.{turns_in}
use Rattle.walk.proofs.turns.Spaced.turns.Goals as goal

pub returns : goal.returns
unfolding turns_in
returns c = rw (c.joint_turn.ensures, c.inner_turn.ensures, c.shoulder_turn.ensures, c.kept_turn.ensures) refl
