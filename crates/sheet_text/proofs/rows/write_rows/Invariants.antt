-- `sheet_text::rows::write_rows`: the rows so far are written.
-- Assumes nothing.
use Rattle.std.proofs.Common.{drop, flat_map}
use Rattle.decimal.proofs.Rests.{Rest}
use Rattle.sheet_text.specs.Text.{row_text}
use Rattle.sheet_text.proofs.rows.write_rows.Given as goal

abbrev pub invariant-loop-row : goal.invariant-loop-row
invariant-loop-row l = Rest l.fn.place l.place (flat_map row_text l.rows) (flat_map row_text (drop l.row-index l.rows))
