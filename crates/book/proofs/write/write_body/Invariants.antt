-- `book::write::write_body`: the numbers so far are written.
-- Assumes nothing.
use Rattle.std.proofs.Common.{drop}
use Rattle.decimal.proofs.Rests.{Rest}
use Rattle.book.specs.Printed.{body_text, numbers_text, shown_numbers}
use Rattle.book.proofs.write.write_body.Given as goal

abbrev pub invariant-loop-i : goal.invariant-loop-i
invariant-loop-i l = Rest l.fn.place l.place (body_text l.numbers) (numbers_text (drop l.i (shown_numbers l.numbers)))
