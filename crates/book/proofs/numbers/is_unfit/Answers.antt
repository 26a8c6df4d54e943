-- `book::numbers::is_unfit` meets its contract.
-- Assumes nothing.
use Rattle.std.proofs.Common.{nat_abs, pos, rules, tests}
use Rattle.std.proofs.lemmas.Iterator.{YieldsList-from_slice}
use Rattle.std.proofs.lemmas.Iterator.Search.{any_from_yields_List}
use lib.Signed.{lt_z}
use Rattle.card.specs.Words.{◌above◌}
use Rattle.book.specs.Printed.{eight_of}
use Rattle.book.proofs.WriterBodies.{unfit_datum, unfit_numbers}
use Rattle.book.proofs.numbers.is_unfit.Goals as goal

pub returns-then-below : goal.returns-then-below
returns-then-below c =
    let numbers = c.args.numbers.now in
    let long = any_from_yields_List (λ z. nat_abs z above 9999999) _ _ _ c.any-long.ensures.ran (YieldsList-from_slice numbers cc) (λ x b q k. search (rules, tests)) in
    let below = any_from_yields_List (λ z. lt_z z (pos 0)) _ _ _ c.any-below.ensures.ran (YieldsList-from_slice (eight_of numbers) cc) (λ x b q k. search (rules, tests)) in
    let unfit = unfit_numbers numbers long below c.if-below.either in
    rw unfit (search rules)

pub returns-else-below : goal.returns-else-below
returns-else-below c =
    let numbers = c.args.numbers.now in
    let long = any_from_yields_List (λ z. nat_abs z above 9999999) _ _ _ c.any-long.ensures.ran (YieldsList-from_slice numbers cc) (λ x b q k. search (rules, tests)) in
    let below = any_from_yields_List (λ z. lt_z z (pos 0)) _ _ _ c.any-below.ensures.ran (YieldsList-from_slice (eight_of numbers) cc) (λ x b q k. search (rules, tests)) in
    unfit_datum numbers long below c.if-below.false (search rules)
