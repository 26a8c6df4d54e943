-- `book::measure::book_size`: the lines of the curves so far are counted.
-- Assumes nothing.
use Rattle.std.proofs.Common.{◌*◌, ◌+◌, ◌≤◌}
use Rattle.book.proofs.WriterCurves.{SizesAfter}
use Rattle.book.proofs.measure.book_size.Given as goal

abbrev pub invariant-loop-i : goal.invariant-loop-i
invariant-loop-i l = record {
  few : l.size ≤ 11 + 4294967500 * l.i;
  counted : SizesAfter l.curves.numbers.now l.i l.size;
}
