-- The lines at some stations, computed from the definitions.
-- Assumes nothing.
use mathlib.Core.Path.{refl}
use Rattle.card.specs.Profile.{profiles, profile_at}
use Rattle.section.specs.Lines.{outer_slope, outer_edge, outer_brow, inner_slope, widening, inner_edge, inner_shoulder, shoulder_slope, inner_brow}
use Rattle.section.specs.Figures.{Figures}

pub figures : Figures
unfolding profiles profile_at outer_slope outer_edge outer_brow inner_slope widening inner_edge inner_shoulder shoulder_slope inner_brow
figures =
    record {
      ramp_end = refl;
      steep_end = refl;
      first_stage = refl;
      second_stage = refl;
      shoulder_left = refl;
      shoulder_kept = refl;
      widest_left = refl;
      widest_change = refl;
      widest_kept = refl;
      staged_left = refl;
      kept_1 = refl;
      kept_3 = refl;
      kept_4 = refl;
      album_rule = refl;
      album_print = refl;
    }
