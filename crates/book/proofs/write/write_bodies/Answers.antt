-- `book::write::write_bodies` meets its contract.
-- Assumes nothing.
use Rattle.std.proofs.Common.{[], get_or, rules, ap, sym, ◌∙◌}
use Rattle.decimal.proofs.Choices.{or-none}
use Rattle.decimal.proofs.Rests.{rest_next, rest_none, rest_room}
use Rattle.book.proofs.WriterCurves.{bodies_none, bodies_turn, last_eleven, unfit_turn}
use Rattle.book.specs.Writing.{is_unfit}
use Rattle.book.proofs.write.write_bodies.Goals as goal

pub write_body-requires-clause-fit : goal.write_body-requires-clause-fit
write_body-requires-clause-fit c =
    let l = c.loop-curve in
    let numbers = last_eleven (get_or c.args.curves.now.numbers.now l.curve-index []) (search rules) c.last_chunk.ensures.cases c.unwrap.ensures in
    ap is_unfit numbers ∙ (or-none _ _ (sym (unfit_turn c.args.curves.now.numbers.now l.curve-index c.loop-curve-test.true) ∙ l.invariant.fit)).0

pub write_body-requires-clause-room : goal.write_body-requires-clause-room
write_body-requires-clause-room c =
    let l = c.loop-curve in
    let numbers = last_eleven (get_or c.args.curves.now.numbers.now l.curve-index []) (search rules) c.last_chunk.ensures.cases c.unwrap.ensures in
    let turn = bodies_turn c.args.curves.now.numbers.now l.curve-index c.loop-curve-test.true numbers in
    rest_room c.args.place.now l.place _ _ _ turn l.invariant.left c.requires.room

pub loop-curve-preserved : goal.loop-curve-preserved
loop-curve-preserved c =
    let l = c.loop-curve in
    let numbers = last_eleven (get_or c.args.curves.now.numbers.now l.curve-index []) (search rules) c.last_chunk.ensures.cases c.unwrap.ensures in
    let turn = bodies_turn c.args.curves.now.numbers.now l.curve-index c.loop-curve-test.true numbers in
    record {
      fit = (or-none _ _ (sym (unfit_turn c.args.curves.now.numbers.now l.curve-index c.loop-curve-test.true) ∙ l.invariant.fit)).1;
      left = rest_next c.args.place.now l.place _ _ _ turn l.invariant.left c.write_body.new.place c.write_body.ensures;
    }

pub returns : goal.returns
returns c =
    let l = c.loop-curve in
    rest_none c.args.place.now l.place _ (bodies_none c.args.curves.now.numbers.now l.curve-index c.loop-curve-test.false) l.invariant.left
