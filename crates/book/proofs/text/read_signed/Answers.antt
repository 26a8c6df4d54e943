-- `book::text::read_signed` meets its contract.
-- Assumes nothing.
use Rattle.std.proofs.Common.{Some, ap, refl, sym, ℤ, ◌∙◌, ◌≡◌}
use Rattle.book.proofs.NumberText.{number_read}
use Rattle.book.proofs.SignedText.{signed_minus, signed_plain}
use Rattle.book.proofs.Places.{read_back, end_some}
use Rattle.book.specs.Number.{byte_at}
use Rattle.book.specs.Reading.{byte_of}
use Rattle.book.proofs.text.read_signed.Goals as goal

pub returns-then-byte_at-eq45 : goal.returns-then-byte_at-eq45
returns-then-byte_at-eq45 c = c.read_minus.ensures ∙ sym (signed_minus c.args.text.now c.args.at (byte_of c.args.end) (sym c.byte_at.ensures ∙ c.if-byte_at-eq45.true) refl)

pub plain-requires : goal.plain-requires
plain-requires c = (number_read c.args.text.now (byte_of c.args.end) (end_some c.args.end) _ _ _ (sym c.in_ok-value.ensures)).0

pub returns-in_err-value : goal.returns-in_err-value
returns-in_err-value c =
    let a = c.args in
    let other : byte_at a.text.now a.at ≡ 45 → ⊥ = λ e. c.if-byte_at-eq45.false (c.byte_at.ensures ∙ e) in
    c.from_residual.ensures ∙ sym (signed_plain a.text.now a.at (byte_of a.end) other (sym c.read_number.ensures ∙ c.in_err-value.was))

pub returns : goal.returns
returns c =
    let a = c.args in
    let number = read_back c.plain.type_inv c.plain.ensures in
    let other : byte_at a.text.now a.at ≡ 45 → ⊥ = λ e. c.if-byte_at-eq45.false (c.byte_at.ensures ∙ e) in
    ap (λ (z : ℤ). Some (z, c.in_ok-value.next)) number ∙ sym (signed_plain a.text.now a.at (byte_of a.end) other (sym c.in_ok-value.ensures))
