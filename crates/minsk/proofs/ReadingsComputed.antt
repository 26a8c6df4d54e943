-- Rows that were reckoned apart, and the reasons at their edges, computed from the definitions.
-- Assumes nothing.
use mathlib.Core.Path.{refl}
use Rattle.exact.specs.Rounding.{rounded}
use Rattle.card.specs.Profile.{profiles, profile_at}
use Rattle.card.specs.Clothoid.{clothoids, least_length}
use Rattle.card.specs.Datum.{axis_from, moved_from}
use Rattle.card.specs.Rows.{joined}
use Rattle.card.specs.Table.{reply_by, table_by}
use Rattle.minsk_section.specs.Widths.{widths_table, widths_at}
use Rattle.minsk_section.specs.Lines.{outer_slope, inner_slope, widening, inner_shoulder, shoulder_slope, outer_edge, outer_strip, outer_brow, inner_edge, inner_strip, inner_brow}
use Rattle.minsk.specs.Rows.{row, rows}
use Rattle.minsk.specs.Refusal.{too_long, too_steep, refusal}
use Rattle.minsk.specs.Table.{reply_number, reply_to, table_after}
use Rattle.minsk.specs.Readings.{Readings, AbsoluteReadings, HalfwayReadings}
use Rattle.minsk.specs.Boundaries.{edges, Boundaries}

pub readings : Readings
unfolding rounded profiles profile_at clothoids least_length widths_table widths_at outer_slope inner_slope widening inner_shoulder shoulder_slope outer_edge outer_strip outer_brow inner_edge inner_strip inner_brow axis_from moved_from row joined rows too_long too_steep refusal
readings =
    record {
      accepted = refl;
      second_crowned = refl;
      second_climbing = refl;
      second_growing = refl;
      second_end = refl;
      third_climbing = refl;
      third_growing = refl;
      third_narrowed = refl;
      third_end = refl;
      fourth_climbing = refl;
      fourth_narrowed = refl;
      fourth_end = refl;
      plain_joint = refl;
      plain_end = refl;
      mild_joint = refl;
      fourth_rows = refl;
    }

pub absolute_readings : AbsoluteReadings
unfolding rounded profiles profile_at clothoids least_length widths_table widths_at outer_slope inner_slope widening inner_shoulder shoulder_slope outer_edge outer_strip outer_brow inner_edge inner_strip inner_brow axis_from moved_from row joined rows too_long too_steep refusal
absolute_readings =
    record {
      climbs = refl;
      climbs_at_end = refl;
      falls = refl;
      falls_at_end = refl;
      greatest_height = refl;
      lowest_height = refl;
      at_nought = refl;
      level_road = refl;
    }

pub halfway_readings : HalfwayReadings
unfolding rounded profiles profile_at clothoids least_length widths_table widths_at outer_slope inner_slope widening inner_shoulder shoulder_slope outer_edge outer_strip outer_brow inner_edge inner_strip inner_brow axis_from moved_from row joined rows too_long too_steep refusal
halfway_readings =
    record {
      millimetres_below = refl;
      millimetres_above = refl;
      centimetres_below = refl;
      centimetres_above = refl;
      centimetres_widening = refl;
      millimetres_widening = refl;
      millimetres_both_sides = refl;
      centimetres_at_end = refl;
      axis_millimetres = refl;
      axis_millimetres_below = refl;
      axis_centimetres = refl;
      axis_centimetres_below = refl;
    }

pub boundaries : Boundaries
unfolding rounded profiles profile_at clothoids least_length widths_table widths_at outer_slope inner_slope widening inner_shoulder shoulder_slope outer_edge outer_strip outer_brow inner_edge inner_strip inner_brow axis_from moved_from row joined rows too_long too_steep refusal reply_number reply_by reply_to table_by table_after edges
boundaries =
    record {
      own = refl;
      table_short = refl;
      table_held = refl;
      longest_short = refl;
      longest_held = refl;
      table_none = refl;
      table_none_placed = refl;
      seven_rows = refl;
      seven_held = refl;
      kept_after = refl;
      kept_short = refl;
    }
