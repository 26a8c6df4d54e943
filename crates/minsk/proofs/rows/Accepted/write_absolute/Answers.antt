-- `minsk::rows::Accepted::write_absolute` meets its contract.
-- Assumes nothing.
use mathlib.Core.Path.{◌≡◌, ◌∙◌}
use native.Mathlib.Omega.{arith}
use mir.Syntax.{w32}
use mir.Val.{to_z, of_z}
use mir.Facts.{to_z-of_z}
use Rattle.exact.specs.Exact.{whole}
use Rattle.card.specs.declared.Datum.TheVariants.{Absolute}
use Rattle.card.proofs.RowPlaces.{station_most}
use Rattle.card.proofs.RowsInto.{none_written, one_written, all_written}
use Rattle.heights.proofs.OnAxis.{absolute_axis}
use Rattle.heights.proofs.Passed.{climbs_of}
use Rattle.minsk_section.specs.Lines.{axis}
use Rattle.minsk.specs.Rows.{row_width, row_count, station_of}
use Rattle.minsk.proofs.Accepts.{accepted}
use Rattle.minsk.proofs.CardRows.{block, length_block, all_rows, same_row_on}
use Rattle.minsk.proofs.rows.Accepted.write_absolute.Goals as goal
use Rattle.minsk.proofs.rows.Accepted.write_absolute.Goals.{Start}

-- height and grade make the datum as they are read back
datum_is : (s : Start) → s.args.self.card.datum ≡ Absolute (to_z w32 (of_z w32 s.args.height)) (to_z w32 (of_z w32 s.args.grade))
datum_is s = rw (to_z-of_z s.ranges.height, to_z-of_z s.ranges.grade) s.requires.datum

pub loop-i-init : goal.loop-i-init
loop-i-init c = none_written row_width (block c.args.self.card) (length_block c.args.self.card) c.args.table.now

pub loop-i-preserved : goal.loop-i-preserved
loop-i-preserved c =
    let a = c.args.self in
    let passed = accepted a.card a.passes in
    let i = c.loop-i.i in
    let datum = datum_is (goal.at.loop-i-preserved c).Start in
    let far = station_most a.card.clothoid a.card.step i in
    let surveyed = rw (c.from-unit.ensures, c.station_of-station.ensures) at c.surveyed-axis.ensures in
    let stands = surveyed.within (climbs_of passed.after datum (omega (arith, far, passed.before.clothoid_most))) in
    -- the axis's number, as it is read back
    let number = to_z-of_z {w = w32} (record { sfits = c.number.type_inv }) ∙ c.number.ensures in
    let same = same_row_on a.card a.passes i a.made (absolute_axis axis (whole (station_of a.card i)) datum stands) number in
    one_written row_width (block a.card) (length_block a.card) _ i c.args.table.now same c.loop-i.invariant c.write_on.ensures

pub returns : goal.returns
returns c =
    let a = c.args.self in
    c.loop-i.invariant
    ∙ all_written row_width (block a.card) (length_block a.card) (row_count a.card) (all_rows a.card) c.args.table.now (omega (arith, a.counted, c.loop-i.auto.i-end))
