-- `sheet::print_book` meets its contract. The line of every refused book fits the buffer.
-- Assumes nothing.
use Rattle.std.proofs.Common.{length, arith}
use Rattle.book.specs.Book.{BookReply}
use Rattle.sheet_text.specs.Text.{book_line}
use Rattle.sheet_text.proofs.Buffers.{fits_said}
use Rattle.sheet_text.proofs.Sheets.{sheets}
use Rattle.sheet.proofs.print_book.Goals as goal

pub print_written-requires : goal.print_written-requires
print_written-requires g c =
    let w = c.book_text-written in
    let reply : BookReply = record { number = c.number.result; count = 0; line = c.args.refusal.line } in
    fits_said (length (book_line reply)) (length c.args.buffer.now) w.ensures.value w.auto.buffer (omega (arith, sheets.line reply, c.requires))
