-- `sheet_text::rows::rows_size` meets its contract.
-- Assumes nothing.
use Rattle.std.proofs.Common.{ap, arith, flat_map, length, sym, Some, ◌+◌, ◌<◌, ◌≡◌, ◌∙◌}
use Rattle.sheet_text.specs.Text.{row_text}
use Rattle.sheet_text.proofs.Buffers.{fits_of, over_of, sized_fits, sized_over}
use Rattle.sheet_text.proofs.RowTexts.{rows_none, rows_size_turn}
use Rattle.sheet_text.proofs.rows.rows_size.Goals as goal

pub returns-in_err-size : goal.returns-in_err-size
returns-in_err-size c =
    let a = c.args in
    let l = c.loop-row in
    let turn = rows_size_turn a.rows.now l.row-index c.loop-row-test.true in
    let over : a.room < a.done + length (flat_map row_text a.rows.now) = omega (arith, over_of _ _ c.in_err-size.ensures, c.row_size.ensures, turn, l.invariant.counted) in
    c.from_residual.ensures ∙ sym (sized_over (a.done + length (flat_map row_text a.rows.now)) a.room over)

pub loop-row-preserved : goal.loop-row-preserved
loop-row-preserved c =
    let l = c.loop-row in
    let turn = rows_size_turn c.args.rows.now l.row-index c.loop-row-test.true in
    let told = fits_of _ _ c.in_ok-size.ensures in
    record { fits = omega (arith, told.0, told.1); counted = omega (arith, told.1, c.row_size.ensures, turn, l.invariant.counted) }

pub returns : goal.returns
returns c =
    let a = c.args in
    let l = c.loop-row in
    let all : l.size ≡ a.done + length (flat_map row_text a.rows.now) = omega (arith, l.invariant.counted, ap length (rows_none a.rows.now l.row-index c.loop-row-test.false)) in
    ap Some all ∙ sym (sized_fits _ a.room (omega (arith, all, l.invariant.fits)))
