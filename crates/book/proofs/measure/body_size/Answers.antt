-- `book::measure::body_size` meets its contract.
-- Assumes nothing.
use Rattle.std.proofs.Common.{ap, arith, false, length, sym, ℤ, ◌∙◌, ◌≡◌, rules}
use Rattle.book.proofs.WriterBodies.{body_size_none, body_size_whole, shown_most, size_turn}
use Rattle.book.specs.Printed.{shown_numbers}
use Rattle.book.specs.Writing.{is_unfit}
use Rattle.card_list.specs.List.{number_of}
use Rattle.decimal.specs.Decimal.{signed_text}
use Rattle.book.proofs.measure.body_size.Goals as goal

pub returns-then-is_unfit-clause-value : goal.returns-then-is_unfit-clause-value
returns-then-is_unfit-clause-value c = body_size_none c.args.numbers.now (sym c.is_unfit.ensures ∙ c.if-is_unfit.true)

pub overflow_add-size-in-loop-i : goal.overflow_add-size-in-loop-i
overflow_add-size-in-loop-i c = omega (arith, c.shown_count-i-end.ensures, shown_most c.args.numbers.now (search rules), c.size.ensures.upper_bound)

pub loop-i-preserved : goal.loop-i-preserved
loop-i-preserved c =
    let numbers = c.args.numbers.now in
    let fit : is_unfit numbers ≡ false = sym c.is_unfit.ensures ∙ c.if-is_unfit.false in
    let size : c.size.result ≡ length (signed_text (number_of (shown_numbers numbers) c.loop-i.i)) = c.size.ensures.value ∙ ap (λ (z : ℤ). length (signed_text z)) (search rules) in
    let t = size_turn numbers (search rules) fit c.loop-i.i (omega (arith, c.shown_count-i-end.ensures)) size in
    record { few = omega (arith, t.0); counted = omega (arith, t.1) }

pub returns-clause-value : goal.returns-clause-value
returns-clause-value c =
    let numbers = c.args.numbers.now in
    let fit : is_unfit numbers ≡ false = sym c.is_unfit.ensures ∙ c.if-is_unfit.false in
    body_size_whole numbers (search rules) fit c.loop-i.i (omega (arith, c.shown_count-i-end.ensures)) c.loop-i.invariant.counted

pub returns-clause-upper_bound : goal.returns-clause-upper_bound
returns-clause-upper_bound c = omega (arith, c.shown_count-i-end.ensures, shown_most c.args.numbers.now (search rules))
