-- `book::text::read_number` meets its contract.
-- Assumes nothing.
use Rattle.std.proofs.Common.{◌+◌, ap, arith, sym, ℕ, ◌∙◌}
use Rattle.book.proofs.Places.{digit_inside, digit_none, digit_some, field-none, field_some, field_zero}
use Rattle.book.specs.Number.{digits_at}
use Rattle.book.specs.Reading.{byte_of}
use Rattle.book.proofs.text.read_number.Goals as goal

pub returns-in_err-d : goal.returns-in_err-d
returns-in_err-d c =
    let a = c.args in
    c.from_residual.ensures ∙ sym (field-none a.text.now a.at (byte_of a.end) (digit_none a.text.now a.at (sym c.digit_at.ensures ∙ c.in_err-d.was)))

pub overflow_add-at : goal.overflow_add-at
overflow_add-at c =
    let a = c.args in
    omega (arith, digit_inside a.text.now a.at (digit_some a.text.now a.at c.in_ok-d.d c.in_ok-d.ensures).1)

pub overflow_add-at-2 : goal.overflow_add-at-2
overflow_add-at-2 c =
    let a = c.args in
    omega (arith, digit_inside a.text.now a.at (digit_some a.text.now a.at c.in_ok-d.d c.in_ok-d.ensures).1)

pub returns-then-d-eq0 : goal.returns-then-d-eq0
returns-then-d-eq0 c =
    let a = c.args in
    c.ended.ensures ∙ sym (field_zero a.text.now a.at (byte_of a.end) (omega (arith, (digit_some a.text.now a.at c.in_ok-d.d c.in_ok-d.ensures).0)))

pub digits-requires : goal.digits-requires
digits-requires c =
    let a = c.args in
    let d = digit_some a.text.now a.at c.in_ok-d.d c.in_ok-d.ensures in
    (omega (arith, digit_inside a.text.now a.at d.1), omega (arith, d.0, d.1))

pub returns : goal.returns
returns c =
    let a = c.args in
    let d = digit_some a.text.now a.at c.in_ok-d.d c.in_ok-d.ensures in
    c.digits.ensures
    ∙ ap (λ (x : ℕ). digits_at 6 a.text.now (a.at + 1) x (byte_of a.end)) (sym d.0)
    ∙ sym (field_some a.text.now a.at (byte_of a.end) d.1 (λ z. c.if-d-eq0.false (sym d.0 ∙ z)))
