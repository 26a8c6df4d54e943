-- The loop of `readings::books::Book::append_once` goes on through the text.
-- Assumes nothing.
use Rattle.std.proofs.Common.{length}
use Rattle.readings.proofs.books.Book.append_once.Given as goal

abbrev pub decreases-loop-first : goal.decreases-loop-first
decreases-loop-first l = length l.text
