-- `walk::walk_table` meets its contract.
-- Assumes nothing.
use Rattle.std.proofs.Common.{◌*◌, ◌≤◌, length, sym, refl, arith}
use Rattle.std.proofs.lemmas.Result.{err_from_is_err_and}
use Rattle.card.proofs.Tests.{room_held}
use Rattle.card.proofs.Told.{not_nought}
use Rattle.runoff.specs.Rows.{row_width}
use Rattle.runoff.proofs.Accepts.{accepted_rule}
use Rattle.runoff.proofs.MadeNumber.{made_accepted, made_refused}
use Rattle.runoff.proofs.Replies.{refused, short, filled}
use Rattle.walk.proofs.FreshReplies.{none_fresh, some_fresh}
use Rattle.walk.proofs.walk_table.Goals as goal

pub returns-in_err-r : goal.returns-in_err-r
returns-in_err-r c =
    let p = err_from_is_err_and c.from_residual.result c.from_residual.ensures.1 in
    let due = refused c.args.card c.args.table.now (made_refused _ _ c.in_err-r.ensures) (not_nought _) in
    rw (p.1, p.2) (record { value = due.0; fresh_rows = none_fresh _ _ due.0 (not_nought _); table_after = due.1.0; climbing_table = tt })

pub overflow_cast-count : goal.overflow_cast-count
overflow_cast-count c =
    let passes = made_accepted _ _ c.in_ok-r.ensures in
    record { fits = omega (arith, c.row_count-rows.ensures, (accepted_rule _).few passes.0) }

pub returns-in_err-check_room : goal.returns-in_err-check_room
returns-in_err-check_room c =
    let passes = made_accepted _ _ c.in_ok-r.ensures in
    let p = err_from_is_err_and c.from_residual-in_err-check_room.result c.from_residual-in_err-check_room.ensures.1 in
    let due = short c.args.card c.args.table.now passes.0 c.row_count-rows.ensures c.in_err-check_room.ensures (not_nought _) in
    rw (p.1, p.2) (record { value = due.0; fresh_rows = none_fresh _ _ due.0 (not_nought _); table_after = due.1.0; climbing_table = tt })

pub write_rows-fresh-requires-clause-card_value : goal.write_rows-fresh-requires-clause-card_value
write_rows-fresh-requires-clause-card_value c = made_accepted _ _ c.in_ok-r.ensures

pub write_rows-fresh-requires-clause-count_value : goal.write_rows-fresh-requires-clause-count_value
write_rows-fresh-requires-clause-count_value c = (c.row_count-rows.ensures, (room_held row_width _ _).0 (sym c.in_ok-check_room.ensures))

pub returns : goal.returns
returns c =
    let passes = made_accepted _ _ c.in_ok-r.ensures in
    let room : row_width * c.row_count-rows.result ≤ length c.args.table.now = (room_held row_width _ _).0 (sym c.in_ok-check_room.ensures) in
    let due = filled c.args.card c.args.table.now passes.0 c.row_count-rows.ensures room c.write_rows-fresh.ensures.rows in
    record { value = due.0; fresh_rows = some_fresh _ _ due.0 refl c.write_rows-fresh.ensures.fresh; table_after = due.1.0; climbing_table = due.1.1 refl }
