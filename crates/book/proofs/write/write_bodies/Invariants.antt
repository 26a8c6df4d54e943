-- `book::write::write_bodies`: the bodies so far are written.
-- Assumes nothing.
use Rattle.std.proofs.Common.{drop, false, ◌≡◌}
use Rattle.decimal.proofs.Rests.{Rest}
use Rattle.book.specs.WriterSteps.{bodies_left, cards_in}
use Rattle.book.specs.Writing.{some_unfit}
use Rattle.book.proofs.write.write_bodies.Given as goal

abbrev pub invariant-loop-curve : goal.invariant-loop-curve
invariant-loop-curve l = record {
  fit : some_unfit (cards_in (drop l.curve-index l.curves.numbers.now)) ≡ false;
  left : Rest l.fn.place l.place (bodies_left l.curves.numbers.now 0) (bodies_left l.curves.numbers.now l.curve-index);
}
