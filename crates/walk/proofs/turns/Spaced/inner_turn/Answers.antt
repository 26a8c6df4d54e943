-- `walk::turns::Spaced::inner_turn` meets its contract.
-- Assumes nothing.
use mathlib.Core.Path.{refl}
use borrow.Author.Tests.{lt-ltb, le-ltb}
use Rattle.changes.specs.Closed.{changes, change_num, change_den}
use Rattle.walk.specs.Turns.{turn}
use Rattle.walk.proofs.Stages.{even_stages, two_stages}
use Rattle.walk.proofs.turns.Spaced.inner_turn.Goals as goal

pub returns-then-r : goal.returns-then-r
unfolding turn changes
returns-then-r c = rw (le-ltb _ _ c.if-r.true) refl

pub returns-in-Even : goal.returns-in-Even
unfolding turn changes change_num change_den
returns-in-Even c = rw (c.row_past.ensures, lt-ltb _ _ c.if-r.false, even_stages c.args.self.limits c.in-Even.is) refl

pub returns-in-TwoStage : goal.returns-in-TwoStage
unfolding turn changes change_num change_den
returns-in-TwoStage c =
    let two = two_stages c.args.self.limits c.in-TwoStage.is in
    rw (c.row_past-in-TwoStage.ensures, lt-ltb _ _ c.if-r.false, two.not_even, two.num, two.den) refl
