-- The invariant of the loop of `runoff::rows::Accepted::write_absolute`: the first i rows are written, and past them stands what stood there.
-- Assumes nothing.
use Rattle.std.proofs.Common.{◌≡◌}
use Rattle.runoff.proofs.RowsWritten.{so_far}
use Rattle.runoff.proofs.rows.Accepted.write_absolute.Given as goal

abbrev pub invariant-loop-i : goal.invariant-loop-i
invariant-loop-i l = l.table ≡ so_far l.self.card l.i l.initial.table
