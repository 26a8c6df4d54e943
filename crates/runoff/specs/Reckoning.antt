-- What the private functions that reckon a row ask and promise.
-- Assumes nothing.
use Rattle.std.specs.Prelude.{◌≡◌, cond, List, ℕ, ◌+◌, ◌*◌, ◌-◌, ◌≤◌, leb, max, ℤ, pos}
use Rattle.exact.specs.Exact.{Exact, whole, ◌⊗◌}
use Rattle.exact.specs.Parts.{Is}
use Rattle.card.specs.Rows.{station_to, in_units}
use Rattle.heights.specs.declared.axis.Axis.{Axis}
use Rattle.heights.specs.Heights.{count_on}
use Rattle.runoff.specs.declared.Runoff.{Runoff}
use Rattle.runoff.specs.declared.turning.Slope.{Slope}
use Rattle.runoff.specs.declared.turning.Slopes.{Slopes}
use Rattle.runoff.specs.declared.rows.Sides.{Sides}
use Rattle.runoff.specs.declared.rows.Row.{Row}
use Rattle.section.specs.Lines.{Section, axis, is_even, joint_num, outer_slope, inner_slope, shoulder_slope, widening, inner_brow, inner_edge, outer_edge, outer_brow}
use Rattle.runoff.specs.Rows.{cells}
use Rattle.runoff.specs.Runoff.{stages_of}

-- the section of a runoff as the code holds it
abbrev pub section_in : Runoff → Section
section_in r =
    record {
      h = r.half_width;
      c = r.shoulder_width;
      p = r.crown_slope;
      q = r.shoulder_slope;
      m = r.least_shoulder;
      v = r.full_slope;
      W = r.full_widening;
      L = r.clothoid;
    }

-- what the runoff of an accepted card keeps to
pub record Limits (r : Runoff) : Type 0 where
  pub half_least : 1 ≤ r.half_width
  pub half_most : r.half_width ≤ 3750
  pub shoulder_most : r.shoulder_width ≤ 3750
  pub crown_most : r.crown_slope ≤ 30
  pub side_most : r.shoulder_slope ≤ 60
  pub turned : r.crown_slope ≤ r.full_slope
  pub slope_most : r.full_slope ≤ 60
  pub long : 1 ≤ r.clothoid
  pub clothoid_most : r.clothoid ≤ 300000
  pub kept_most : r.least_shoulder ≤ r.shoulder_width
  pub widening_most : r.full_widening ≤ 3500
  pub stages : r.stages ≡ stages_of (section_in r)

-- the slope s is x: its parts, and bounds for the sums that it goes into
pub record SlopeIs (x : Exact) (s : Slope) : Type 0 where
  pub is : Is x s.up s.down s.over
  pub few : s.over ≤ 900000
  pub high : s.up ≤ 90 * s.over
  pub low : s.down ≤ 30 * s.over
  pub net : s.up ≤ 60 * s.over + s.down

-- the slopes at the station d
pub record SlopesAt (x : Section) (d : ℕ) (s : Slopes) : Type 0 where
  pub outer_is : SlopeIs (outer_slope x (whole d)) s.outer
  pub inner_is : Is (inner_slope x (whole d)) s.inner 0 s.outer.over
  pub shoulder_is : Is (shoulder_slope x (whole d)) s.shoulder 0 s.outer.over
  pub inner_high : s.inner ≤ 60 * s.outer.over
  pub shoulder_high : s.shoulder ≤ 60 * s.outer.over

-- ---- the slopes' parts, as the code reckons them
abbrev pub even_parts : Section → ℕ → Slope
even_parts x d = record { up = (x.p + x.v) * d; down = x.p * x.L; over = x.L }

abbrev pub first_parts : Section → ℕ → Slope
first_parts x d = record { up = 3 * d; down = x.p * x.h; over = x.h }

abbrev pub second_parts : Section → ℕ → Slope
second_parts x d =
    let run = 3 * x.L - joint_num x in
    record { up = x.p * run + (x.v - x.p) * (3 * d - joint_num x); down = 0; over = run }

unfoldable pub slope_parts : Section → ℕ → Slope
slope_parts x d = cond (is_even x) (even_parts x d) (cond (leb (3 * d) (joint_num x)) (first_parts x d) (second_parts x d))

-- with an outer slope: the inner one is at least p, and the shoulder's at least q
abbrev pub slopes_by : Section → Slope → Slopes
slopes_by x s =
    let inner = max (x.p * s.over) (s.up - s.down) in
    record { outer = s; inner = inner; shoulder = max (x.q * s.over) inner }

unfoldable pub slopes_parts : Section → ℕ → Slopes
slopes_parts x d = slopes_by x (slope_parts x d)

-- ---- the row
-- the heights of the two sides at the station d, with the axis at a
unfoldable pub inner_sides : Axis → Section → ℕ → Sides
inner_sides a x d = record { brow = count_on a (axis x) (inner_brow x (whole d)); edge = count_on a (axis x) (inner_edge x (whole d)) }

unfoldable pub outer_sides : Axis → Section → ℕ → Sides
outer_sides a x d = record { brow = count_on a (axis x) (outer_brow x (whole d)); edge = count_on a (axis x) (outer_edge x (whole d)) }

-- the row at the station d, where the axis is at a, and at n units
unfoldable pub row_on : Axis → ℤ → Section → ℕ → Row
row_on a n x d =
    record {
      station = pos d;
      widening = in_units a.unit (whole 1000 ⊗ widening x (whole d));
      inner_brow = count_on a (axis x) (inner_brow x (whole d));
      inner_edge = count_on a (axis x) (inner_edge x (whole d));
      axis = n;
      outer_edge = count_on a (axis x) (outer_edge x (whole d));
      outer_brow = count_on a (axis x) (outer_brow x (whole d));
    }

-- the numbers of row i of a table with this step and end, where the axis is at a, and at n units
abbrev pub rows_on : Axis → ℤ → Section → ℕ → ℕ → ℕ → List ℤ
rows_on a n x end step i = cells (row_on a n x (station_to end step i))
