-- What the private functions that reckon a row ask and promise.
-- Assumes nothing.
use Rattle.std.specs.Prelude.{◌≡◌, List, ℕ, ◌+◌, ◌*◌, ◌≤◌, ◌<◌, ℤ, pos}
use Rattle.exact.specs.Exact.{Exact, whole, ◌⊗◌}
use Rattle.exact.specs.Parts.{Is}
use Rattle.card.specs.Rows.{station_to, in_units}
use Rattle.heights.specs.declared.axis.Axis.{Axis}
use Rattle.heights.specs.Heights.{count_on}
use Rattle.minsk.specs.declared.widths.Widths.{Widths as Held}
use Rattle.minsk.specs.declared.runoff.Stage.{Stage}
use Rattle.minsk.specs.declared.runoff.Growth.{Growth}
use Rattle.minsk.specs.declared.runoff.Runoff.{Runoff}
use Rattle.minsk.specs.declared.turning.Slope.{Slope}
use Rattle.minsk.specs.declared.turning.Slopes.{Slopes}
use Rattle.minsk.specs.declared.rows.Sides.{Sides}
use Rattle.minsk.specs.declared.rows.Row.{Row}
use Rattle.minsk_section.specs.Widths.{Widths}
use Rattle.minsk_section.specs.Lines.{Section, axis, stage_end, wide_end, outer_slope, inner_slope, shoulder_slope, widening, outer_edge, outer_strip, outer_brow, inner_edge, inner_strip, inner_brow, Premises}
use Rattle.minsk.specs.Accepted.{Sizes}
use Rattle.minsk.specs.Rows.{cells}

-- the widths as the code holds them
abbrev pub widths_in : Held → Widths
widths_in w = record { half = w.half; shoulder = w.shoulder; strip = w.strip; least = w.least }

-- the section of a runoff as the code holds it
abbrev pub section_in : Runoff → Section
section_in r =
    record {
      h = r.half_width;
      c = r.shoulder_width;
      t = r.strip_width;
      m = r.least_shoulder;
      v = r.full_slope;
      W = r.full_widening;
      L = r.clothoid;
      R = r.radius;
    }

-- the first stage ends at end/per, over 2000, or over 4 where there is a widening; there is room for it before, and the clothoid goes on past it
pub record StageIs (x : Section) (g : Stage) : Type 0 where
  pub is : Is (stage_end x) g.end 0 g.per
  pub room : 8 * (x.h * g.per) ≤ g.end
  pub before : g.end < g.per * x.L
  pub few : g.per ≤ 2000
  pub fewer : 0 < x.W → g.per ≤ 4

-- the widening grows over 20000 mm from `start` on, and is reckoned over 20000; where there is none, over 1
pub record GrowthIs (x : Section) (g : Growth) : Type 0 where
  pub end : 0 < x.W → Is (wide_end x) (g.start + 20000) 0 1
  pub wide : 0 < x.W → g.over ≡ 20000
  pub none : x.W ≡ 0 → g.over ≡ 1

-- what the runoff of an accepted card keeps to
pub record Limits (r : Runoff) : Type 0 where
  pub lines : Premises (section_in r)
  pub sizes : Sizes (section_in r)
  pub stage : StageIs (section_in r) r.stage
  pub growth : GrowthIs (section_in r) r.growth

-- the outer slope at the station d: its parts, and bounds for the products that it goes into
pub record SlopeIs (x : Section) (d : ℕ) (s : Slope) : Type 0 where
  pub is : Is (outer_slope x (whole d)) s.up s.down s.over
  pub few : s.over ≤ 600000000
  pub fewer : 0 < x.W → s.over ≤ 1200000
  pub high : s.up ≤ 60 * s.over
  pub low : s.down ≤ 20 * s.over

-- the slopes at the station d
pub record SlopesAt (x : Section) (d : ℕ) (s : Slopes) : Type 0 where
  pub outer_is : SlopeIs x d s.outer
  pub inner_is : Is (inner_slope x (whole d)) s.inner 0 s.outer.over
  pub shoulder_is : Is (shoulder_slope x (whole d)) s.shoulder 0 s.outer.over
  pub inner_high : s.inner ≤ 60 * s.outer.over
  pub shoulder_high : s.shoulder ≤ 60 * s.outer.over

-- the widening at the station d is num/over
pub record WideIs (x : Section) (d num over : ℕ) : Type 0 where
  pub is : Is (widening x (whole d)) num 0 over
  pub few : over ≤ 20000
  pub one : x.W ≡ 0 → over ≤ 1
  pub most : num ≤ 3500 * over

-- ---- the row
-- the line y of a section whose axis stays at 0, with the axis at a
abbrev pub line_on : Axis → Exact → ℤ
line_on a y = count_on a axis y

-- the heights of the two sides at the station d
unfoldable pub outer_sides : Axis → Section → ℕ → Sides
outer_sides a x d =
    record {
      edge = line_on a (outer_edge x (whole d));
      strip = line_on a (outer_strip x (whole d));
      brow = line_on a (outer_brow x (whole d));
    }

unfoldable pub inner_sides : Axis → Section → ℕ → Sides
inner_sides a x d =
    record {
      edge = line_on a (inner_edge x (whole d));
      strip = line_on a (inner_strip x (whole d));
      brow = line_on a (inner_brow x (whole d));
    }

-- the row at the station d, where the axis is at a, and at n units
unfoldable pub row_on : Axis → ℤ → Section → ℕ → Row
row_on a n x d =
    record {
      station = pos d;
      widening = in_units a.unit (whole 1000 ⊗ widening x (whole d));
      axis = n;
      outer_edge = line_on a (outer_edge x (whole d));
      outer_strip = line_on a (outer_strip x (whole d));
      outer_brow = line_on a (outer_brow x (whole d));
      inner_edge = line_on a (inner_edge x (whole d));
      inner_strip = line_on a (inner_strip x (whole d));
      inner_brow = line_on a (inner_brow x (whole d));
    }

-- the numbers of row i of a table with this step and end, where the axis is at a, and at n units
abbrev pub rows_on : Axis → ℤ → Section → ℕ → ℕ → ℕ → List ℤ
rows_on a n x end step i = cells (row_on a n x (station_to end step i))
