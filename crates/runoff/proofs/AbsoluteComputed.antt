-- The rows and numbers of absolute cards, computed from the definitions.
-- Assumes nothing.
use mathlib.Core.Path.{refl}
use Rattle.exact.specs.Rounding.{rounded}
use Rattle.card.specs.Profile.{profiles, profile_at}
use Rattle.card.specs.Clothoid.{clothoids, least_length}
use Rattle.card.specs.Rows.{joined}
use Rattle.card.specs.Datum.{axis_from, moved_from}
use Rattle.card.specs.Table.{reply_by}
use Rattle.section.specs.Lines.{outer_slope, outer_edge, outer_brow, inner_slope, widening, inner_edge, inner_shoulder, shoulder_slope, inner_brow}
use Rattle.runoff.specs.Rows.{row, rows}
use Rattle.runoff.specs.Refusal.{refusal}
use Rattle.runoff.specs.Table.{reply_number, reply_to}
use Rattle.runoff.specs.AbsoluteReadings.{AbsoluteReadings}

pub absolute_readings : AbsoluteReadings
unfolding rounded profiles profile_at clothoids least_length outer_slope outer_edge outer_brow inner_slope widening inner_edge inner_shoulder shoulder_slope inner_brow axis_from moved_from row joined rows refusal reply_number reply_by reply_to
absolute_readings =
    record {
      ramp_accepted = refl;
      ramp_count = refl;
      ramp_reply = refl;
      ramp_rows = refl;
      lowest_falling = refl;
      lowest_climbing = refl;
      highest_falling = refl;
      highest_climbing = refl;
      lowest_halfway = refl;
      highest_halfway = refl;
      half_above = refl;
      half_below = refl;
      lower_by_axis = refl;
      beside_end = refl;
      nought_end = refl;
      part_of_unit = refl;
      too_steep_up = refl;
      too_steep_down = refl;
      both = refl;
      height_before_room = refl;
      grade_before_room = refl;
    }
