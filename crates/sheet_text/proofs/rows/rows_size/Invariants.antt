-- `sheet_text::rows::rows_size`: the rows so far are measured.
-- Assumes nothing.
use Rattle.std.proofs.Common.{◌≡◌, ◌+◌, ◌≤◌, drop, flat_map, length}
use Rattle.sheet_text.specs.Text.{row_text}
use Rattle.sheet_text.proofs.rows.rows_size.Given as goal

abbrev pub invariant-loop-row : goal.invariant-loop-row
invariant-loop-row l = record {
  fits : l.size ≤ l.room;
  counted : l.size + length (flat_map row_text (drop l.row-index l.rows)) ≡ l.done + length (flat_map row_text l.rows);
}
