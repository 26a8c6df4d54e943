-- The invariant of the loop of `walk::pieces::Accepted::write_rows`: the rows up to row i are written, and so many of them were worked afresh.
-- Assumes nothing.
use Rattle.std.proofs.Common.{◌-◌}
use Rattle.walk.proofs.RowsFresh.{Written}
use Rattle.walk.proofs.pieces.Accepted.write_rows.Given as goal

abbrev pub invariant-loop-i : goal.invariant-loop-i
invariant-loop-i l = Written l.self.card l.i l.fresh l.initial.table l.table

abbrev pub decreases-loop-i : goal.decreases-loop-i
decreases-loop-i l = l.self.count - l.i
