-- Each height of a row above the axis, as the code reckons it, with the bounds of every product on the way.
-- Assumes nothing.
use mathlib.Core.Path.{◌≡◌, sym, ap, ◌∙◌}
use Prim.Native.Nat.{ℕ, ◌+◌, ◌*◌, ◌-◌, ◌≤◌, ◌<◌, max}
use native.Mathlib.Nat.{mul-le-mul, mul-le-mul_right, mul-pos}
use native.Mathlib.Decide.{dec_le}
use native.Mathlib.Omega.{arith}
use lib.IntN.{pos}
use Rattle.exact.specs.Exact.{Exact, whole, ratio, ◌⊗◌}
use Rattle.exact.specs.Parts.{Is}
use Rattle.exact.specs.Rounding.{rounded}
use Rattle.exact.proofs.Rounded.{rounded_nought}
use Rattle.exact.proofs.Is.{is_net, is_times}
use Rattle.rounding.specs.Nearest.{most_over, Sized}
use Rattle.rounding.proofs.Parts.{Line, counted}
use Rattle.card.specs.Rows.{tie, in_units}
use Rattle.heights.specs.declared.axis.Axis.{Axis}
use Rattle.heights.specs.Heights.{count_above}
use Rattle.heights.proofs.OnAxis.{counted_above}
use Rattle.minsk.specs.declared.turning.Slopes.{Slopes}
use Rattle.minsk.specs.declared.turning.Station.{Station}
use Rattle.minsk_section.specs.Lines.{Section, widening, outer_edge, outer_strip, outer_brow, inner_edge, inner_strip, inner_brow}
use Rattle.minsk_section.proofs.Heights.{outer_edge_lem, outer_strip_lem, outer_brow_lem, inner_edge_lem, inner_strip_lem, inner_brow_lem}
use Rattle.minsk.specs.Reckoning.{section_in, SlopesAt, WideIs, line_on}

-- y stands (p − q)/e above the axis that stays at 0, and can be rounded so with the axis at a
pub record Above (a : Axis) (y : Exact) (p q e : ℕ) : Type 0 where
  pub sized : Sized (a.rest * e + p) q e a.unit
  pub counted : count_above a p q e ≡ line_on a y

above : (a : Axis) (y : Exact) (p q e : ℕ) → e ≤ most_over → p ≤ 3000000 * e → q ≤ 4000000 * e → Is y p q e → Above a y p q e
above a y p q e few high low f =
    let sized : Sized (a.rest * e + p) q e a.unit =
    record {
      some = f.over;
      few = few;
      high = omega (arith, mul-le-mul_right e a.rest_most, f.over);
      low = omega (arith, f.over);
      unit = a.unit_least;
      units = a.unit_most;
    } in
    record { sized = sized; counted = counted_above a 0 y p q e (is_net f (omega arith)) sized }

-- ---- the widening, which is no height
module _ {x : Section} {d num over : ℕ} (w : WideIs x d num over) {u : ℕ} (low : 1 ≤ u) (high : u ≤ 10) where
  pub widening_line : Line (whole 1000 ⊗ widening x (whole d)) (1000 * num) 0 over u
  widening_line =
      record {
        is = is_times 1000 w.is;
        sized =
            record {
              some = w.is.over;
              few = omega (arith, w.few);
              high = omega (arith, w.most, w.is.over);
              low = omega (arith, w.is.over);
              unit = low;
              units = high;
            };
      }

  pub not_widened : num ≡ 0 → pos 0 ≡ in_units u (whole 1000 ⊗ widening x (whole d))
  not_widened none =
      let still : 0 ≡ 1000 * num = rw none (omega arith) in
      sym (rounded_nought (tie u) (omega arith) over w.is.over)
      ∙ ap (λ (n : ℕ). rounded (tie u) (1000 * u) (ratio n 0 over)) still
      ∙ counted (tie u) widening_line

-- a product over two denominators, where only a widening brings the first
full_most : (W q e : ℕ) → q ≤ 20000 → (W ≡ 0 → q ≤ 1) → e ≤ 600000000 → (0 < W → e ≤ 1200000) → q * e ≤ 24000000000
full_most W q e h one k few = go (dec_le W 0)
  where
    go : Dec (W ≤ 0) → q * e ≤ 24000000000
    go (yes z) = omega (arith, mul-le-mul (one (omega arith)) k)
    go (no z) = mul-le-mul h (few (omega arith))

-- ---- the outer side
module _ (t : Station) {s : Slopes} (z : SlopesAt (section_in t.runoff) t.d s) (a : Axis) where
  abbrev x : Section
  x = section_in t.runoff

  outer_above : (w : ℕ) (y : Exact) → w ≤ 6500 → Is y (w * s.outer.up) (w * s.outer.down) s.outer.over → Above a y (w * s.outer.up) (w * s.outer.down) s.outer.over
  outer_above w y h =
      above a y _ _ s.outer.over
      (omega (arith, z.outer_is.few))
      (omega (arith, mul-le-mul h z.outer_is.high))
      (omega (arith, mul-le-mul h z.outer_is.low))

  pub outer_edge_above : Above a (outer_edge x (whole t.d)) (x.h * s.outer.up) (x.h * s.outer.down) s.outer.over
  outer_edge_above = outer_above x.h _ (omega (arith, t.limits.sizes.half_most)) (outer_edge_lem x (whole t.d) z.outer_is.is)

  pub outer_strip_above : Above a (outer_strip x (whole t.d)) ((x.h + x.t) * s.outer.up) ((x.h + x.t) * s.outer.down) s.outer.over
  outer_strip_above =
      outer_above (x.h + x.t) _ (omega (arith, t.limits.sizes.half_most, t.limits.sizes.strip_most)) (outer_strip_lem x (whole t.d) z.outer_is.is)

  pub outer_brow_above : Above a (outer_brow x (whole t.d)) ((x.h + x.c) * s.outer.up) ((x.h + x.c) * s.outer.down) s.outer.over
  outer_brow_above =
      outer_above (x.h + x.c) _ (omega (arith, t.limits.sizes.half_most, t.limits.sizes.shoulder_most)) (outer_brow_lem x (whole t.d) z.outer_is.is)

-- ---- the inner side
module _ (t : Station) {s : Slopes} (z : SlopesAt (section_in t.runoff) t.d s) {num q : ℕ} (w : WideIs (section_in t.runoff) t.d num q) (a : Axis) where
  abbrev v : Section
  v = section_in t.runoff

  abbrev e : ℕ
  e = s.outer.over

  abbrev full : ℕ
  full = q * e

  abbrev lane : ℕ
  lane = (v.h * q + num) * s.inner

  abbrev both : ℕ
  both = ((v.h + v.t) * q + num) * s.inner

  -- the inner shoulder, of which the strip takes no more than all
  abbrev pub kept : ℕ
  kept = max (v.m * q) (v.c * q - num)

  abbrev side : ℕ
  side = (kept - v.t * q) * s.shoulder

  pub full_few : full ≤ 24000000000
  full_few = full_most v.W q e w.few w.one z.outer_is.few z.outer_is.fewer

  full_some : 0 < full
  full_some = mul-pos w.is.over z.outer_is.is.over

  lane_most : (l : ℕ) → l ≤ 4250 → l * q + num ≤ 7750 * q
  lane_most l h = omega (arith, mul-le-mul_right q h, w.most)

  pub lane_few : v.h * q + num ≤ 7750 * q
  lane_few = lane_most v.h (omega (arith, t.limits.sizes.half_most))

  pub both_few : (v.h + v.t) * q + num ≤ 7750 * q
  both_few = lane_most (v.h + v.t) (omega (arith, t.limits.sizes.half_most, t.limits.sizes.strip_most))

  pub shoulder_few : v.c * q ≤ 3000 * q
  shoulder_few = mul-le-mul_right q t.limits.sizes.shoulder_most

  pub least_few : v.m * q ≤ 1500 * q
  least_few = mul-le-mul_right q t.limits.sizes.least_most

  pub strip_fits : v.t * q ≤ v.m * q
  strip_fits = mul-le-mul_right q t.limits.lines.strips

  lane_high : lane ≤ 465000 * full
  lane_high = omega (arith, mul-le-mul lane_few z.inner_high)

  both_high : both ≤ 465000 * full
  both_high = omega (arith, mul-le-mul both_few z.inner_high)

  side_high : side ≤ 180000 * full
  side_high =
      let some : kept - v.t * q ≤ 3000 * q = omega (arith, shoulder_few, least_few) in
      omega (arith, mul-le-mul some z.shoulder_high)

  inner_above : (b : ℕ) (y : Exact) → b ≤ 645000 * full → Is y 0 b full → Above a y 0 b full
  inner_above b y h = above a y 0 b full (omega (arith, full_few)) (omega arith) (omega (arith, h, full_some))

  pub inner_edge_above : Above a (inner_edge v (whole t.d)) 0 lane full
  inner_edge_above = inner_above lane _ (omega (arith, lane_high)) (inner_edge_lem v (whole t.d) w.is z.inner_is)

  pub inner_strip_above : Above a (inner_strip v (whole t.d)) 0 both full
  inner_strip_above = inner_above both _ (omega (arith, both_high)) (inner_strip_lem v (whole t.d) w.is z.inner_is)

  pub inner_brow_above : Above a (inner_brow v (whole t.d)) 0 (both + side) full
  inner_brow_above =
      inner_above (both + side) _ (omega (arith, both_high, side_high))
      (inner_brow_lem v (whole t.d) w.is z.inner_is t.limits.lines.strips z.shoulder_is)
