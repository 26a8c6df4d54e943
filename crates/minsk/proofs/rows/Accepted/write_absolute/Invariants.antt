-- The invariant of the loop of `minsk::rows::Accepted::write_absolute`: the first i rows are written, and past them stands what stood there.
-- Assumes nothing.
use Rattle.std.proofs.Common.{◌≡◌}
use Rattle.card.proofs.RowsInto.{so_far}
use Rattle.minsk.specs.Rows.{row_width}
use Rattle.minsk.proofs.CardRows.{block, length_block}
use Rattle.minsk.proofs.rows.Accepted.write_absolute.Given as goal

abbrev pub invariant-loop-i : goal.invariant-loop-i
invariant-loop-i l = l.table ≡ so_far row_width (block l.self.card) (length_block l.self.card) l.i l.initial.table
