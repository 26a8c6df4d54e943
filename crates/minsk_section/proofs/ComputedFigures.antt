-- The lines at some stations, computed from the definitions.
-- Assumes nothing.
use mathlib.Core.Path.{refl}
use Rattle.minsk_section.specs.Widths.{widths_table, widths_at}
use Rattle.minsk_section.specs.Lines.{outer_slope, inner_slope, widening, inner_shoulder, shoulder_slope, outer_edge, outer_strip, outer_brow, inner_edge, inner_strip, inner_brow}
use Rattle.minsk_section.specs.Figures.{Figures}

pub figures : Figures
unfolding widths_table widths_at outer_slope inner_slope widening inner_shoulder shoulder_slope outer_edge outer_strip outer_brow inner_edge inner_strip inner_brow
figures =
    record {
      second_crowned = refl;
      second_first = refl;
      second_joint = refl;
      second_between = refl;
      second_forty = refl;
      second_widening = refl;
      second_past = refl;
      second_end = refl;
      second_least = refl;
      third_crowned = refl;
      third_first = refl;
      third_between = refl;
      third_narrowing = refl;
      third_widening = refl;
      third_past = refl;
      third_end = refl;
      fourth_crowned = refl;
      fourth_first = refl;
      fourth_between = refl;
      fourth_widening = refl;
      fourth_past = refl;
      fourth_end = refl;
      unwidened_start = refl;
      unwidened_first = refl;
      unwidened_between = refl;
      unwidened_end = refl;
      example_start = refl;
      example_rising = refl;
      example_over = refl;
      example_steeper = refl;
      example_joint = refl;
      fourth_example_crowned = refl;
      fourth_example_rising = refl;
      fourth_example_widening = refl;
    }
