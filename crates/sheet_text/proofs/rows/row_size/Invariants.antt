-- `sheet_text::rows::row_size`: the bytes of the numbers so far are counted.
-- Assumes nothing.
use Rattle.std.proofs.Common.{◌≡◌, ◌+◌, ◌*◌, ◌≤◌, length, drop}
use Rattle.sheet_text.specs.Text.{row_text}
use Rattle.sheet_text.proofs.rows.row_size.Given as goal

abbrev pub invariant-loop-v : goal.invariant-loop-v
invariant-loop-v l = record {
  few : l.size ≤ 12 * l.v-index;
  counted : l.size + length (row_text (drop l.v-index l.row)) ≡ length (row_text l.row);
}
