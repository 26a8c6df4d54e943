-- `runoff::rows::Accepted::write_absolute` meets its contract.
-- Assumes nothing.
use mathlib.Core.Path.{◌≡◌, ◌∙◌}
use Prim.Native.Nat.{◌≤◌}
use native.Mathlib.Omega.{arith}
use mir.Syntax.{w32}
use mir.Val.{to_z, of_z}
use mir.Facts.{to_z-of_z}
use Rattle.card.specs.declared.Datum.TheVariants.{Absolute}
use Rattle.card.proofs.RowPlaces.{station_most}
use Rattle.section.specs.Lines.{axis}
use Rattle.heights.specs.Heights.{Climbs}
use Rattle.heights.proofs.OnAxis.{absolute_axis}
use Rattle.heights.proofs.Passed.{climbs_of}
use Rattle.runoff.specs.Rows.{station_of}
use Rattle.runoff.specs.Reckoning.{section_in}
use Rattle.runoff.proofs.Accepts.{accepted}
use Rattle.runoff.proofs.RowsWritten.{none_written, one_written, all_written, same_row_on}
use Rattle.runoff.proofs.rows.Accepted.write_absolute.Goals as goal
use Rattle.runoff.proofs.rows.Accepted.write_absolute.Goals.{Start}

-- height and grade make the datum as they are read back
datum_is : (s : Start) → s.args.self.card.datum ≡ Absolute (to_z w32 (of_z w32 s.args.height)) (to_z w32 (of_z w32 s.args.grade))
datum_is s = rw (to_z-of_z s.ranges.height, to_z-of_z s.ranges.grade) s.requires.datum

pub loop-i-init : goal.loop-i-init
loop-i-init c = none_written c.args.self.card c.args.table.now

pub loop-i-preserved : goal.loop-i-preserved
loop-i-preserved c =
    let a = c.args.self in
    let passed = accepted a.card a.passes in
    let datum = datum_is (goal.at.loop-i-preserved c).Start in
    let within : station_of a.card c.loop-i.i ≤ 330000 = omega (arith, station_most a.card.clothoid a.card.step c.loop-i.i, passed.before.clothoid_most) in
    let held : Climbs (to_z w32 (of_z w32 c.args.height)) (to_z w32 (of_z w32 c.args.grade)) c.station_of-station.result c.from-unit.result =
    rw (c.from-unit.ensures, c.station_of-station.ensures) (climbs_of passed.after datum within) in
    let stands = rw (c.from-unit.ensures, c.station_of-station.ensures) at (c.surveyed-axis.ensures.within held) in
    let is = absolute_axis (axis (section_in a.runoff)) _ datum stands in
    -- the axis's number, as it is read back
    let number = to_z-of_z {w = w32} (record { sfits = c.number.type_inv }) ∙ c.number.ensures in
    one_written a.card _ c.loop-i.i c.args.table.now (same_row_on a.card a.passes c.loop-i.i a.made is number) c.loop-i.invariant c.write_on.ensures

pub returns : goal.returns
returns c = c.loop-i.invariant ∙ all_written c.args.self.card c.args.table.now (omega (arith, c.args.self.counted, c.loop-i.auto.i-end))
