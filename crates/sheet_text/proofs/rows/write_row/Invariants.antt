-- `sheet_text::rows::write_row`: the numbers so far are written.
-- Assumes nothing.
use Rattle.std.proofs.Common.{drop}
use Rattle.decimal.proofs.Rests.{Rest}
use Rattle.sheet_text.specs.Text.{row_text}
use Rattle.sheet_text.proofs.rows.write_row.Given as goal

abbrev pub invariant-loop-i : goal.invariant-loop-i
invariant-loop-i l = Rest l.fn.place l.place (row_text l.row) (row_text (drop l.i l.row))
