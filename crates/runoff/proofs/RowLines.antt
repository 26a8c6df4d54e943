-- Each height of a row above the axis, as the code reckons it, with the bounds of every product on the way.
-- Assumes nothing.
use mathlib.Core.Path.{◌≡◌, sym, ap, ◌∙◌}
use Prim.Native.Nat.{ℕ, ◌+◌, ◌*◌, ◌-◌, ◌≤◌, ◌<◌, max}
use native.Mathlib.Nat.{mul-le-mul, mul-le-mul_right, mul-pos}
use native.Mathlib.Omega.{arith}
use lib.IntN.{pos}
use Rattle.exact.specs.Exact.{Exact, whole, ratio, ◌⊗◌}
use Rattle.exact.specs.Parts.{Is}
use Rattle.exact.specs.Rounding.{rounded}
use Rattle.exact.proofs.Rounded.{rounded_nought}
use Rattle.exact.proofs.Is.{is_one, is_net, is_times}
use Rattle.rounding.specs.Nearest.{most_over, Sized}
use Rattle.rounding.proofs.Parts.{Line, counted}
use Rattle.card.specs.Rows.{tie, in_units}
use Rattle.runoff.specs.declared.turning.Slopes.{Slopes}
use Rattle.runoff.specs.declared.turning.Station.{Station}
use Rattle.heights.specs.declared.axis.Axis.{Axis}
use Rattle.section.specs.Lines.{Section, axis, axis_height, widening, outer_edge, outer_brow, inner_edge, inner_brow}
use Rattle.heights.specs.Heights.{count_above, count_on}
use Rattle.heights.proofs.OnAxis.{counted_above}
use Rattle.runoff.specs.Reckoning.{section_in, SlopesAt}
use Rattle.section.proofs.Heights.{outer_edge_lem, outer_brow_lem, inner_edge_lem, inner_brow_lem, widening_is}

-- y stands (p − q)/e above the axis that stays, and is counted so with the axis at a
pub record Above (a : Axis) (x : Section) (y : Exact) (p q e : ℕ) : Type 0 where
  pub sized : Sized (a.rest * e + p) q e a.unit
  pub counted : count_above a p q e ≡ count_on a (axis x) y

-- ---- the widening, which is no height
module _ (t : Station) {u : ℕ} (low : 1 ≤ u) (high : u ≤ 10) where
  once : t.runoff.clothoid * 1 ≡ t.runoff.clothoid
  once = omega arith

  grown : t.runoff.full_widening * t.d ≤ 3500 * t.runoff.clothoid
  grown = mul-le-mul t.limits.widening_most t.within

  pub widening_line : Line (whole 1000 ⊗ widening (section_in t.runoff) (whole t.d)) (1000 * (t.runoff.full_widening * t.d)) 0 t.runoff.clothoid u
  widening_line =
      record {
        is = is_times 1000 (rw once at (widening_is (section_in t.runoff) (is_one t.d) t.limits.long));
        sized =
            record {
              some = t.limits.long;
              few = omega (arith, t.limits.clothoid_most);
              high = omega (arith, grown, t.limits.long);
              low = omega (arith, t.limits.long);
              unit = low;
              units = high;
            };
      }

  pub not_widened : t.runoff.full_widening ≡ 0 → pos 0 ≡ in_units u (whole 1000 ⊗ widening (section_in t.runoff) (whole t.d))
  not_widened none =
      let still : 0 ≡ 1000 * (t.runoff.full_widening * t.d) = rw none (omega arith) in
      sym (rounded_nought (tie u) (omega arith) t.runoff.clothoid t.limits.long)
      ∙ ap (λ (n : ℕ). rounded (tie u) (1000 * u) (ratio n 0 t.runoff.clothoid)) still
      ∙ counted (tie u) widening_line

module _ (t : Station) {s : Slopes} (z : SlopesAt (section_in t.runoff) t.d s) (a : Axis) where
  abbrev d : ℕ
  d = t.d

  abbrev x : Section
  x = section_in t.runoff

  abbrev full : ℕ
  full = x.L * s.outer.over

  abbrev lane : ℕ
  lane = (x.h * x.L + x.W * d) * s.inner

  abbrev kept : ℕ
  kept = max (x.m * x.L) (x.c * x.L - x.W * d)

  abbrev side : ℕ
  side = kept * s.shoulder

  widened : x.W * d ≤ 3500 * x.L
  widened = mul-le-mul t.limits.widening_most t.within

  long : x.L * 1 ≡ x.L
  long = omega arith

  above : (y : Exact) (p q e : ℕ) → e ≤ most_over → p ≤ 3000000 * e → q ≤ 4000000 * e → Is y (axis_height x * e + p) q e → Above a x y p q e
  above y p q e few high low f =
      let sized : Sized (a.rest * e + p) q e a.unit =
      record {
        some = f.over;
        few = few;
        high = omega (arith, mul-le-mul_right e a.rest_most, f.over);
        low = omega (arith, f.over);
        unit = a.unit_least;
        units = a.unit_most;
      } in
      record { sized = sized; counted = counted_above a (axis_height x) y p q e f sized }

  outer_few : s.outer.over ≤ most_over
  outer_few = omega (arith, z.outer_is.few)

  pub outer_edge_above : Above a x (outer_edge x (whole d)) (x.h * s.outer.up) (x.h * s.outer.down) s.outer.over
  outer_edge_above =
      above _ _ _ _ outer_few
      (omega (arith, mul-le-mul t.limits.half_most z.outer_is.high))
      (omega (arith, mul-le-mul t.limits.half_most z.outer_is.low))
      (outer_edge_lem x (whole d) z.outer_is.is)

  wide : x.h + x.c ≤ 7500
  wide = omega (arith, t.limits.half_most, t.limits.shoulder_most)

  pub outer_brow_above : Above a x (outer_brow x (whole d)) ((x.h + x.c) * s.outer.up) ((x.h + x.c) * s.outer.down) s.outer.over
  outer_brow_above =
      above _ _ _ _ outer_few
      (omega (arith, mul-le-mul wide z.outer_is.high))
      (omega (arith, mul-le-mul wide z.outer_is.low))
      (outer_brow_lem x (whole d) z.outer_is.is)

  full_some : 0 < full
  full_some = mul-pos t.limits.long z.outer_is.is.over

  full_few : full ≤ 270000000000
  full_few = mul-le-mul t.limits.clothoid_most z.outer_is.few

  -- what the inner heights are made of
  pub lane_few : x.h * x.L + x.W * d ≤ 7500 * x.L
  lane_few = omega (arith, widened, mul-le-mul_right x.L t.limits.half_most)

  pub shoulder_few : x.c * x.L ≤ 3750 * x.L
  shoulder_few = mul-le-mul_right x.L t.limits.shoulder_most

  pub least_few : x.m * x.L ≤ x.c * x.L
  least_few = mul-le-mul_right x.L t.limits.kept_most

  lane_most : lane ≤ 450000 * full
  lane_most = omega (arith, mul-le-mul lane_few z.inner_high)

  side_most : side ≤ 225000 * full
  side_most = omega (arith, mul-le-mul {n₁ = kept} {n₂ = 3750 * x.L} (omega (arith, shoulder_few, least_few)) z.shoulder_high)

  full_fits : full ≤ most_over
  full_fits = omega (arith, full_few)

  pub inner_edge_above : Above a x (inner_edge x (whole d)) 0 lane full
  inner_edge_above =
      above _ 0 lane full full_fits (omega arith) (omega (arith, lane_most, full_some))
      (is_net (rw long at (inner_edge_lem x (is_one d) t.limits.long z.inner_is)) (omega arith))

  pub inner_brow_above : Above a x (inner_brow x (whole d)) 0 (lane + side) full
  inner_brow_above =
      above _ 0 (lane + side) full full_fits (omega arith) (omega (arith, lane_most, side_most, full_some))
      (is_net (rw long at (inner_brow_lem x (is_one d) t.limits.long z.inner_is z.shoulder_is)) (omega arith))
