-- `book::lines::absolute_last` meets its contract.
-- Assumes nothing.
use Rattle.std.proofs.Common.{lit<, sym}
use Rattle.book.proofs.NumberText.{number_read}
use Rattle.book.proofs.lines.absolute_last.Goals as goal

pub read_height-requires : goal.read_height-requires
read_height-requires c = (number_read c.args.text.now 32 (lit< tt) c.args.at _ _ (sym c.in_ok-unit.ensures)).0
