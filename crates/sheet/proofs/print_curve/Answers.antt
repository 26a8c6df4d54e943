-- `sheet::print_curve` meets its contract. The text of every curve that a book counts fits the buffer.
-- Assumes nothing.
use Rattle.std.proofs.Common.{◌≤◌, List, ℤ, pos, length, replicate, sym, subst, arith}
use Rattle.book.specs.Book.{least_list}
use Rattle.sheet_text.specs.Sheet.{enough_bytes, part_of}
use Rattle.sheet_text.proofs.Buffers.{fits_said}
use Rattle.sheet_text.proofs.Sheets.{sheets}
use Rattle.sheet.proofs.print_curve.Goals as goal

pub print_written-requires : goal.print_written-requires
print_written-requires g c =
    let w = c.write_curve-written in
    let a = c.args in
    let text = a.text.now in
    let asked = c.requires.enough_numbers_in_bounds in
    let short : length (part_of text a.list.now a.curve a.table.now) ≤ enough_bytes =
    subst (λ (l : List ℤ). length (part_of text l a.curve a.table.now) ≤ enough_bytes) (sym c.requires.list_value)
    (sheets.fits text (replicate least_list (pos 0)) a.curve a.table.now c.requires.curve_bound asked.0) in
    fits_said (length (part_of text a.list.now a.curve a.table.now)) (length a.buffer.now) w.ensures.value w.auto.buffer (omega (arith, short, asked.1))
