-- `book::reply::contents`: the contents lines left are read from here on, and the names so far are kept.
-- Assumes nothing.
use Rattle.std.proofs.Common.{◌≡◌, ◌-◌, [], length}
use Rattle.book.specs.Book.{most_curves, contents_from}
use Rattle.book.specs.Reading.{headings_from}
use Rattle.book.proofs.Kept.{Kept}
use Rattle.book.proofs.reply.contents.Given as goal

abbrev pub invariant-loop-i : goal.invariant-loop-i
invariant-loop-i l = record {
  names_len : length l.names ≡ most_curves;
  kept : Kept l.text l.first l.i l.names l.at;
  rest : contents_from l.n l.text l.n [] l.first ≡ contents_from (l.n - l.i) l.text l.n (headings_from l.i l.text l.first) l.at;
}
