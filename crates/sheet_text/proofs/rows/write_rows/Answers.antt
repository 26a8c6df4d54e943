-- `sheet_text::rows::write_rows` meets its contract.
-- Assumes nothing.
use Rattle.decimal.proofs.Rests.{rest_next, rest_none, rest_room}
use Rattle.sheet_text.proofs.RowTexts.{rows_none, rows_turn}
use Rattle.sheet_text.proofs.rows.write_rows.Goals as goal

pub write_row-requires : goal.write_row-requires
write_row-requires c =
    let l = c.loop-row in
    rest_room c.args.place.now l.place _ _ _ (rows_turn c.args.rows.now l.row-index c.loop-row-test.true) l.invariant c.requires

pub loop-row-preserved : goal.loop-row-preserved
loop-row-preserved c =
    let l = c.loop-row in
    rest_next c.args.place.now l.place _ _ _ (rows_turn c.args.rows.now l.row-index c.loop-row-test.true) l.invariant c.write_row.new.place c.write_row.ensures

pub returns : goal.returns
returns c =
    let l = c.loop-row in
    rest_none c.args.place.now l.place _ (rows_none c.args.rows.now l.row-index c.loop-row-test.false) l.invariant
