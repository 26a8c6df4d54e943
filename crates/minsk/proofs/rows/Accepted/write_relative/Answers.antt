-- `minsk::rows::Accepted::write_relative` meets its contract: all its rows are written on the axis that stays.
-- Assumes nothing.
use mathlib.Core.Path.{◌∙◌}
use Prim.Native.Nat.{ℕ}
use native.Mathlib.Omega.{arith}
use mir.Syntax.{w32}
use mir.Facts.{to_z-of_z}
use Rattle.exact.specs.Exact.{whole}
use Rattle.card.proofs.RowsInto.{all_on, all_written}
use Rattle.heights.proofs.OnAxis.{relative_axis}
use Rattle.heights.proofs.Passed.{stays_of}
use Rattle.minsk.specs.Rows.{row_width, row_count, station_of}
use Rattle.minsk.proofs.Accepts.{accepted}
use Rattle.minsk.proofs.CardRows.{block, length_block, all_rows, same_row_on}
use Rattle.minsk.proofs.rows.Accepted.write_relative.Goals as goal

pub returns : goal.returns
returns c =
    let a = c.args.self in
    let old = c.args.table.now in
    let stands = (rw c.from.ensures at c.still-axis.ensures).within (stays_of (accepted a.card a.passes).after (omega arith)) in
    -- the axis's number, as it is read back
    let number = to_z-of_z {w = w32} (record { sfits = c.number.type_inv }) ∙ c.number.ensures in
    let same = λ (i : ℕ). same_row_on a.card a.passes i a.made (relative_axis (whole (station_of a.card i)) c.requires.datum stands) number in
    c.write_on.ensures
    ∙ all_on row_width (block a.card) (length_block a.card) _ old same _
    ∙ all_written row_width (block a.card) (length_block a.card) (row_count a.card) (all_rows a.card) old (omega (arith, a.counted))
