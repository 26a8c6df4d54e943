-- `book::text::read_minus` meets its contract.
-- Assumes nothing.
use Rattle.std.proofs.Common.{sym}
use Rattle.book.proofs.NumberText.{number_read}
use Rattle.book.specs.Reading.{byte_of}
use Rattle.book.proofs.Places.{end_some}
use Rattle.book.proofs.text.read_minus.Goals as goal

pub plain-size-requires : goal.plain-size-requires
plain-size-requires c = (number_read c.args.text.now (byte_of c.args.end) (end_some c.args.end) _ _ _ (sym c.in_ok-value.ensures)).0
