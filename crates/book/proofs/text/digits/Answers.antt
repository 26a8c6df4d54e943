-- `book::text::digits` meets its contract.
-- Assumes nothing.
use Rattle.std.proofs.Common.{◌+◌, ◌-◌, ap, arith, lit<, sym, ℕ, ◌∙◌, ◌≡◌}
use Rattle.book.proofs.Places.{base_more, digit_none, digit_some, digits-stop, digits_none, digits_turn, power_wide}
use Rattle.book.specs.Number.{digits_at}
use Rattle.book.specs.Reading.{byte_of}
use Rattle.book.proofs.text.digits.Goals as goal

pub returns-in_default : goal.returns-in_default
returns-in_default c =
    let a = c.args in
    let l = c.loop-at in
    c.ended.ensures
    ∙ sym (l.invariant.rest ∙ digits-stop a.text.now l.at l.value (byte_of a.end) (a.from + 6 - l.at) (digit_none a.text.now l.at (sym c.digit_at.ensures ∙ c.in_default.is)))

pub overflow_mul-value : goal.overflow_mul-value
overflow_mul-value c = let l = c.loop-at in omega (arith, power_wide (l.at - c.args.from + 1) 7 l.value (lit< tt) (omega arith) l.invariant.small)

pub overflow_add-value : goal.overflow_add-value
overflow_add-value c =
    let l = c.loop-at in
    let d = digit_some c.args.text.now l.at c.in-Some.d c.in-Some.ensures in
    omega (arith, d.0, d.1, power_wide (l.at - c.args.from + 1) 7 l.value (lit< tt) (omega arith) l.invariant.small)

pub loop-at-preserved : goal.loop-at-preserved
loop-at-preserved c =
    let a = c.args in
    let s = a.text.now in
    let l = c.loop-at in
    let d = digit_some s l.at c.in-Some.d c.in-Some.ensures in
    let one : l.at + 1 - a.from + 1 ≡ l.at - a.from + 1 + 1 = omega arith in
    record {
      small = rw one (base_more (l.at - a.from + 1) l.value _ l.invariant.small (omega (arith, d.0, d.1)));
      rest = l.invariant.rest ∙ digits_turn s l.at l.value (byte_of a.end) (a.from + 6) c.in-Some.d c.loop-at-test.true c.in-Some.ensures;
    }

pub returns : goal.returns
returns c =
    let a = c.args in
    let l = c.loop-at in
    let z : a.from + 6 - l.at ≡ 0 = omega arith in
    let e : l.at ≡ a.from + 6 = omega arith in
    c.ended-2.ensures
    ∙ sym (digits_none a.text.now (a.from + 6) l.value (byte_of a.end))
    ∙ ap (λ (p : ℕ). digits_at 0 a.text.now p l.value (byte_of a.end)) (sym e)
    ∙ sym (l.invariant.rest ∙ ap (λ (k : ℕ). digits_at k a.text.now l.at l.value (byte_of a.end)) z)
