-- `walk::pieces::Accepted::write_rows` meets its contract.
-- Assumes nothing.
use Rattle.std.proofs.Common.{◌<◌, arith}
use Rattle.runoff.specs.Rows.{row_count}
use Rattle.walk.specs.Fresh.{Afresh}
use Rattle.walk.proofs.Counting.{counted_most}
use Rattle.walk.proofs.PieceEnds.{piece_of}
use Rattle.walk.proofs.RowsFresh.{none, more, all_rows, all_counted}
use Rattle.walk.proofs.pieces.Accepted.write_rows.Goals as goal

pub loop-i-init : goal.loop-i-init
loop-i-init c = none c.args.self.card c.args.table.now

pub write_piece-i-requires-clause-due : goal.write_piece-i-requires-clause-due
write_piece-i-requires-clause-due c = c.loop-i.invariant.begun (omega (arith, c.args.self.counted, c.loop-i-test.true))

pub write_piece-i-requires-clause-few : goal.write_piece-i-requires-clause-few
write_piece-i-requires-clause-few c = counted_most (Afresh c.args.self.card) c.loop-i.i c.loop-i.fresh c.loop-i.invariant.counted

pub loop-i-smaller : goal.loop-i-smaller
loop-i-smaller c =
    let begun : c.loop-i.i < row_count c.args.self.card = omega (arith, c.args.self.counted, c.loop-i-test.true) in
    omega (arith, c.write_piece-i.ensures.end, (piece_of c.args.self.card c.loop-i.i begun).past, c.loop-i-test.true)

pub loop-i-preserved : goal.loop-i-preserved
loop-i-preserved c =
    let a = c.args.self in
    let begun : c.loop-i.i < row_count a.card = omega (arith, a.counted, c.loop-i-test.true) in
    rw c.write_piece-i.ensures.counted
    (more a.card c.args.table.now a.passes c.loop-i.i c.loop-i.fresh begun c.loop-i.invariant c.write_piece-i.ensures.end c.write_piece-i.ensures.rows)

pub returns-clause-rows : goal.returns-clause-rows
returns-clause-rows c = all_rows c.args.self.card c.args.table.now c.loop-i.invariant (omega (arith, c.args.self.counted, c.loop-i-test.false))

pub returns-clause-fresh : goal.returns-clause-fresh
returns-clause-fresh c = all_counted c.args.self.card c.args.table.now c.loop-i.invariant (omega (arith, c.args.self.counted, c.loop-i-test.false))
