-- `book::measure::book_size` meets its contract.
-- Assumes nothing.
use Rattle.std.proofs.Common.{[], get_or, ap, arith, rules, sym, ◌+◌, ◌<◌, ◌∙◌, ℕ}
use Rattle.book.proofs.WriterCurves.{last_eleven, sizes_first, sizes_last, sizes_turn, sizes_unfit}
use Rattle.card_list.specs.declared.NamePlace.{NamePlace}
use Rattle.book.specs.WriterSteps.{body_size}
use Rattle.book.proofs.measure.book_size.Goals as goal

pub loop-i-init : goal.loop-i-init
loop-i-init c =
    let count = c.size-size.ensures in
    record { few = omega (arith, count.upper_bound); counted = sizes_first c.args.curves.now.numbers.now _ c.args.curves.now.few (ap (λ (k : ℕ). k + 1) count.value) }

pub returns-in_err-body : goal.returns-in_err-body
returns-in_err-body c =
    let l = c.loop-i in
    let numbers = last_eleven (get_or c.args.curves.now.numbers.now l.i []) (search rules) c.last_chunk.ensures.cases c.unwrap.ensures in
    rw c.from_residual.ensures
    (sizes_unfit c.args.curves.now.numbers.now l.i l.size l.invariant.counted c.loop-i-test.true (sym c.in_err-body.was ∙ c.body_size.ensures.value ∙ ap body_size numbers))

pub loop-i-preserved : goal.loop-i-preserved
loop-i-preserved c =
    let l = c.loop-i in
    let place = c.name_of_curve-name in
    let numbers = last_eleven (get_or c.args.curves.now.numbers.now l.i []) (search rules) c.last_chunk.ensures.cases c.unwrap.ensures in
    let short : place.result.size < 4294967296 = search rules in
    record {
      few = omega (arith, short, c.size-line.ensures.upper_bound, c.in_ok-body.ensures.upper_bound);
      counted = sizes_turn c.args.curves.now.numbers.now l.i l.size l.invariant.counted c.loop-i-test.true place.result.size _ _ c.args.curves.now.few
          (ap (λ (p : NamePlace). p.size) place.ensures) c.size-line.ensures.value (sym c.in_ok-body.was ∙ c.body_size.ensures.value ∙ ap body_size numbers);
    }

pub returns : goal.returns
returns c = sizes_last c.args.curves.now.numbers.now c.loop-i.i c.loop-i.size c.loop-i.invariant.counted c.loop-i-test.false
