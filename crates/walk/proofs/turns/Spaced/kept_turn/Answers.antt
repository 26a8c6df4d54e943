-- `walk::turns::Spaced::kept_turn` meets its contract.
-- Assumes nothing.
use mathlib.Core.Path.{refl}
use borrow.Author.Tests.{lt-ltb, le-ltb}
use Rattle.changes.specs.Closed.{changes, change_num, change_den}
use Rattle.walk.specs.Turns.{turn}
use Rattle.walk.proofs.turns.Spaced.kept_turn.Goals as goal

pub returns-then-r : goal.returns-then-r
unfolding turn changes
returns-then-r c = rw (le-ltb _ _ c.if-r.true) refl

pub returns : goal.returns
unfolding turn changes change_num change_den
returns c = rw (c.row_past.ensures, lt-ltb _ _ c.if-r.false) refl
