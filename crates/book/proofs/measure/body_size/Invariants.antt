-- `book::measure::body_size`: the bytes of the numbers so far are counted.
-- Assumes nothing.
use Rattle.std.proofs.Common.{drop, length, ◌*◌, ◌+◌, ◌≡◌, ◌≤◌}
use Rattle.book.specs.Printed.{numbers_text, shown_numbers}
use Rattle.book.proofs.measure.body_size.Given as goal

abbrev pub invariant-loop-i : goal.invariant-loop-i
invariant-loop-i l = record {
  few : l.size ≤ 9 * l.i;
  counted : l.size + length (numbers_text (drop l.i (shown_numbers l.numbers))) ≡ length (numbers_text (shown_numbers l.numbers));
}
