-- `minsk::rows::Accepted::write_on` meets its contract.
-- Assumes nothing.
use mathlib.Core.Path.{ap, ◌∙◌}
use Rattle.card.specs.RowsInto.{with_row}
use Rattle.card.proofs.RowsInto.{put_is, none_on, one_on}
use Rattle.minsk.specs.Rows.{cells, row_width}
use Rattle.minsk.proofs.rows.Accepted.write_on.Goals as goal

pub loop-i-init : goal.loop-i-init
loop-i-init c = none_on row_width _ c.args.first c.args.table.now

pub loop-i-preserved : goal.loop-i-preserved
loop-i-preserved c =
    let row = rw (c.station.ensures.runoff, c.station.ensures.d) at c.row-row.ensures in
    one_on row_width _ c.args.first c.loop-i.i c.args.table.now c.loop-i.auto.i c.loop-i.invariant
    (put_is row_width c.loop-i.i c.loop-i.table _ ∙ ap (with_row row_width c.loop-i.i c.loop-i.table) (c.copy_from_slice.ensures.after ∙ c.cells.ensures ∙ ap cells row))
