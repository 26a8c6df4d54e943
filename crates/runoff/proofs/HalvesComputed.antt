-- The rows that stand halfway, computed from the definitions.
-- Assumes nothing.
use mathlib.Core.Path.{refl}
use Rattle.exact.specs.Rounding.{rounded}
use Rattle.card.specs.Profile.{profiles, profile_at}
use Rattle.card.specs.Clothoid.{clothoids, least_length}
use Rattle.card.specs.Datum.{axis_from, moved_from}
use Rattle.section.specs.Lines.{outer_slope, outer_edge, outer_brow, inner_slope, widening, inner_edge, inner_shoulder, shoulder_slope, inner_brow}
use Rattle.runoff.specs.Rows.{row}
use Rattle.runoff.specs.Refusal.{refusal}
use Rattle.runoff.specs.Halves.{Halves}

pub halves : Halves
unfolding rounded profiles profile_at clothoids least_length outer_slope outer_edge outer_brow inner_slope widening inner_edge inner_shoulder shoulder_slope inner_brow axis_from moved_from row refusal
halves =
    record {
      millimetres_accepted = refl;
      centimetres_accepted = refl;
      level_accepted = refl;
      above_accepted = refl;
      below_accepted = refl;
      above_cm_accepted = refl;
      below_cm_accepted = refl;
      millimetres = refl;
      centimetres = refl;
      centimetres_level = refl;
      millimetres_above = refl;
      millimetres_below = refl;
      centimetres_above = refl;
      centimetres_below = refl;
    }
