-- The invariant of the loop of `minsk::rows::Accepted::write_on`: the rows from the first up to row i are written.
-- Assumes nothing.
use Rattle.std.proofs.Common.{◌≡◌, ◌-◌}
use Rattle.card.specs.RowsInto.{with_rows}
use Rattle.minsk.specs.Rows.{row_width}
use Rattle.minsk.specs.Reckoning.{section_in, rows_on}
use Rattle.minsk.proofs.rows.Accepted.write_on.Given as goal

abbrev pub invariant-loop-i : goal.invariant-loop-i
invariant-loop-i l =
    let card = l.self.card in
    l.table ≡ with_rows row_width (rows_on l.axis l.number (section_in l.self.runoff) card.clothoid card.step) l.first (l.i - l.first) l.initial.table
