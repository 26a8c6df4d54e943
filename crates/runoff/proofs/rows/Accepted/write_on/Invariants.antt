-- The invariant of the loop of `runoff::rows::Accepted::write_on`: the rows from the first up to row i are written.
-- Assumes nothing.
use Rattle.std.proofs.Common.{◌≡◌, ◌-◌}
use Rattle.card.specs.RowsInto.{with_rows}
use Rattle.runoff.specs.Rows.{row_width}
use Rattle.runoff.specs.Reckoning.{section_in, rows_on}
use Rattle.runoff.proofs.rows.Accepted.write_on.Given as goal

abbrev pub invariant-loop-i : goal.invariant-loop-i
invariant-loop-i l =
    let card = l.self.card in
    l.table ≡ with_rows row_width (rows_on l.axis l.number (section_in l.self.runoff) card.clothoid card.step) l.first (l.i - l.first) l.initial.table
