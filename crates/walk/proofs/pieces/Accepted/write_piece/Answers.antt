-- `walk::pieces::Accepted::write_piece` meets its contract.
-- Assumes nothing.
use Rattle.std.proofs.Common.{◌≤◌, arith}
use native.Mathlib.Nat.{mul-le-mul_left}
use Rattle.runoff.specs.Rows.{row_width}
use Rattle.runoff.proofs.Accepts.{accepted_rule}
use Rattle.walk.proofs.PieceRows.{on, few, held, wrote}
use Rattle.walk.proofs.pieces.Accepted.write_piece.Goals as goal

module _ (c : goal.After-end_of-end) where
  on_part : c.args.i ≤ c.end_of-end.result
  on_part = on c.args.self.card c.args.i _ _ c.args.table.now c.end_of-end.ensures c.args.self.counted c.requires.row c.requires.room

pub overflow_mul-end : goal.overflow_mul-end
overflow_mul-end c =
    let a = c.args.self in
    record { fits = omega (arith, few a.card c.args.i _ _ c.args.table.now c.end_of-end.ensures a.counted c.requires.row c.requires.room, (accepted_rule a.card).few a.passes) }

pub slice_bounds-walk_rows-count : goal.slice_bounds-walk_rows-count
slice_bounds-walk_rows-count c = mul-le-mul_left row_width (on_part c)

pub slice_bounds-walk_rows-start : goal.slice_bounds-walk_rows-start
slice_bounds-walk_rows-start c = mul-le-mul_left row_width (on_part c)

pub slice_bounds-walk_rows-end : goal.slice_bounds-walk_rows-end
slice_bounds-walk_rows-end c = held c.args.self.card c.args.i _ _ c.args.table.now c.end_of-end.ensures c.args.self.counted c.requires.row c.requires.room

pub returns-clause-rows : goal.returns-clause-rows
returns-clause-rows c =
    let a = c.args.self in
    wrote a.card c.args.i _ _ c.args.table.now c.end_of-end.ensures a.counted c.requires.row c.requires.room _ c.begin-from.ensures.walks c.walk_rows.ensures
