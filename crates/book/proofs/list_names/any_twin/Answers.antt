-- `book::list_names::any_twin` meets its contract.
-- Assumes nothing.
use Rattle.std.proofs.Common.{sym, ◌∙◌}
use Rattle.book.proofs.WriterNames.{twin_past, twin_turn}
use Rattle.book.proofs.list_names.any_twin.Goals as goal

pub returns-then-contains : goal.returns-then-contains
returns-then-contains c =
    let t = twin_turn c.args.keys.now c.loop-i.i c.loop-i-test.true c.contains.ensures.value in
    sym (c.loop-i.invariant ∙ t ∙ rw c.if-contains.true)

pub loop-i-preserved : goal.loop-i-preserved
loop-i-preserved c =
    let t = twin_turn c.args.keys.now c.loop-i.i c.loop-i-test.true c.contains.ensures.value in
    c.loop-i.invariant ∙ t ∙ rw c.if-contains.false

pub returns : goal.returns
returns c = sym (c.loop-i.invariant ∙ twin_past c.args.keys.now c.loop-i.i c.loop-i-test.false)
