-- `minsk::fill_table` meets its contract.
-- Assumes nothing.
use Rattle.std.proofs.Common.{◌*◌, ◌≤◌, length, sym, refl, arith}
use Rattle.std.proofs.lemmas.Result.{err_from_is_err_and}
use Rattle.card.proofs.Tests.{room_held}
use Rattle.card.proofs.Told.{not_nought}
use Rattle.minsk.specs.Rows.{row_width}
use Rattle.minsk.proofs.Accepts.{accepted_rule}
use Rattle.minsk.proofs.Replies.{refused, short, filled}
use Rattle.minsk.proofs.fill_table.Goals as goal

pub returns-in_err-check_card : goal.returns-in_err-check_card
returns-in_err-check_card c =
    let p = err_from_is_err_and c.from_residual.result c.from_residual.ensures.1 in
    let due = refused c.args.card c.args.table.now c.in_err-check_card.ensures (not_nought _) in
    rw (p.1, p.2) (record { value = due.0; table_after = due.1.0; climbing_table = tt })

pub overflow_cast-count : goal.overflow_cast-count
overflow_cast-count c =
    record { fits = omega (arith, c.row_count-rows.ensures, (accepted_rule _).few (sym c.in_ok-check_card.ensures)) }

pub returns-in_err-check_room : goal.returns-in_err-check_room
returns-in_err-check_room c =
    let p = err_from_is_err_and c.from_residual-in_err-check_room.result c.from_residual-in_err-check_room.ensures.1 in
    let due = short c.args.card c.args.table.now (sym c.in_ok-check_card.ensures) c.row_count-rows.ensures c.in_err-check_room.ensures (not_nought _) in
    rw (p.1, p.2) (record { value = due.0; table_after = due.1.0; climbing_table = tt })

pub write_rows-requires-clause-count_value : goal.write_rows-requires-clause-count_value
write_rows-requires-clause-count_value c = (c.row_count-rows.ensures, (room_held row_width _ _).0 (sym c.in_ok-check_room.ensures))

pub returns : goal.returns
returns c =
    let room : row_width * c.row_count-rows.result ≤ length c.args.table.now = (room_held row_width _ _).0 (sym c.in_ok-check_room.ensures) in
    let due = filled c.args.card c.args.table.now (sym c.in_ok-check_card.ensures) c.row_count-rows.ensures room c.write_rows.ensures in
    record { value = due.0; table_after = due.1.0; climbing_table = due.1.1 refl }
