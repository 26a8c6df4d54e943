-- `walk::stepping::walk_rows` meets its contract.
-- Assumes nothing.
use mathlib.Core.Path.{ap, ◌∙◌}
use native.Mathlib.Omega.{arith}
use Rattle.card.specs.RowsInto.{with_row}
use Rattle.card.proofs.RowsInto.{put_is, none_on, one_on}
use Rattle.runoff.specs.Rows.{row_width}
use Rattle.walk.specs.Stepping.{cells_of, cells_on}
use Rattle.walk.proofs.RowsWalked.{first_row, next_row}
use Rattle.walk.proofs.stepping.walk_rows.Goals as goal

pub loop-k-init : goal.loop-k-init
loop-k-init c = (first_row c.args.from, none_on row_width _ 0 c.args.part.now)

pub loop-k-preserved : goal.loop-k-preserved
loop-k-preserved c =
    let k = c.loop-k.k in
    let cells = c.copy_from_slice.ensures.after ∙ c.cells.ensures ∙ ap cells_of c.loop-k.invariant.0 in
    let wrote = put_is row_width k c.loop-k.part c.copy_from_slice.new.self ∙ ap (with_row row_width k c.loop-k.part) cells in
    (c.next-row.ensures ∙ next_row k _ c.loop-k.invariant.0, one_on row_width (cells_on c.args.from) 0 k c.args.part.now (omega arith) c.loop-k.invariant.1 wrote)
