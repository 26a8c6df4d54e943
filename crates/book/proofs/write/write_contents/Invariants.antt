-- `book::write::write_contents`: the contents lines so far are written.
-- Assumes nothing.
use Rattle.decimal.proofs.Rests.{Rest}
use Rattle.book.specs.WriterSteps.{contents_left}
use Rattle.book.proofs.write.write_contents.Given as goal

abbrev pub invariant-loop-i : goal.invariant-loop-i
invariant-loop-i l = Rest l.fn.place l.place (contents_left l.curves.names.now l.curves.numbers.now 0) (contents_left l.curves.names.now l.curves.numbers.now l.i)
