-- The theorem of `specs/LineMeaning.antt`: what the definitions of a book's lines mean.
-- Assumes nothing.
use Rattle.std.proofs.Common.{ℕ, ◌≡◌, List, ℤ, Ok}
use Rattle.book.specs.Body.{front_numbers, body_from, numbers_at}
use Rattle.book.specs.Printed.{IsBody, shown_numbers, body_text}
use Rattle.book.specs.LineMeaning.{Stands, LineTheorem}
use Rattle.book.proofs.NumberText.{number_read, number_reads}
use Rattle.book.proofs.SignedText.{signed_read, signed_reads}
use Rattle.book.proofs.ContentsLineText.{heading_read, heading_reads}
use Rattle.book.proofs.BodyText.{body_read, body_reads}
use Rattle.book.proofs.TwinText.{twin_found, twin_none}

whole_read : (text : List ℕ) (at next : ℕ) → body_from front_numbers text at ≡ Ok next
    → IsBody (numbers_at front_numbers text at) × Stands text at (body_text (numbers_at front_numbers text at)) next
unfolding body_text shown_numbers
whole_read text at next e =
    let r = body_read text front_numbers at next e in
    (record { eleven = r.0.count; eight = r.0.front; datum = r.0.datum }, r.1)

whole_reads : (text : List ℕ) (at : ℕ) (numbers : List ℤ) (next : ℕ) → IsBody numbers → Stands text at (body_text numbers) next
    → (body_from front_numbers text at ≡ Ok next) × (numbers_at front_numbers text at ≡ numbers)
unfolding body_text shown_numbers
whole_reads text at numbers next b s =
    body_reads text front_numbers numbers at next (record { count = b.eleven; front = b.eight; datum = b.datum }, s)

pub line_theorem : LineTheorem
line_theorem = record {
  number_read = λ text at end v next h. number_read text end h at v next;
  number_reads = number_reads;
  signed_read = λ text at end z next h. signed_read text end h at z next;
  signed_reads = λ text at end z next. signed_reads text at end z next;
  heading_read = heading_read;
  heading_reads = heading_reads;
  body_read = whole_read;
  body_reads = whole_reads;
  twin_found = λ text places names at name h n s. twin_found text at name n s places names h;
  twin_none = λ text places names at name h n s. twin_none text at name n s places names h;
}
