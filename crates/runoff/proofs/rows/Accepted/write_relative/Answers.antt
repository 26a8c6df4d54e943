-- `runoff::rows::Accepted::write_relative` meets its contract: all its rows are written on the axis that stays.
-- Assumes nothing.
use mathlib.Core.Path.{◌∙◌}
use Prim.Native.Nat.{ℕ}
use native.Mathlib.Omega.{arith}
use mir.Syntax.{w32}
use mir.Facts.{to_z-of_z}
use Rattle.exact.specs.Exact.{whole}
use Rattle.heights.proofs.OnAxis.{relative_axis}
use Rattle.heights.proofs.Passed.{stays_of}
use Rattle.runoff.specs.Reckoning.{Limits}
use Rattle.runoff.specs.Rows.{station_of}
use Rattle.runoff.proofs.Accepts.{accepted}
use Rattle.runoff.proofs.Limits.{limits_of, axis_most}
use Rattle.runoff.proofs.RowsWritten.{all_on, all_written, same_row_on}
use Rattle.runoff.proofs.rows.Accepted.write_relative.Goals as goal

pub returns : goal.returns
returns c =
    let a = c.args.self in
    let limits : Limits a.runoff = rw a.made (limits_of a.card a.passes) in
    let stands = rw (c.from.ensures, c.axis_height.ensures, c.station.ensures.runoff) at c.still-axis.ensures.within (stays_of (accepted a.card a.passes).after (axis_most limits)) in
    -- the axis's number, as it is read back
    let number = to_z-of_z {w = w32} (record { sfits = c.number.type_inv }) ∙ c.number.ensures in
    let same = λ (i : ℕ). same_row_on a.card a.passes i a.made (relative_axis (whole (station_of a.card i)) c.requires.datum stands) number in
    c.write_on.ensures ∙ all_on a.card _ c.args.table.now same _ ∙ all_written a.card c.args.table.now (omega (arith, a.counted))
