-- The slopes at a whole station as the code reckons them, with the bounds of the sums that they go into.
-- Assumes nothing.
use mathlib.Core.Path.{◌≡◌, refl, ap}
use Prim.Native.Nat.{ℕ, ◌+◌, ◌*◌, ◌-◌, ◌≤◌, ◌<◌}
use native.Mathlib.Nat.{mul-le-mul, mul-le-mul_left, mul-le-mul_right}
use native.Mathlib.Decide.{dec_le}
use native.Mathlib.Omega.{arith}
use borrow.Author.Tests.{le-leb, lt-leb}
use Rattle.exact.specs.Exact.{whole}
use Rattle.exact.proofs.Is.{is_one, is_as}
use Rattle.runoff.specs.declared.turning.Slope.{Slope}
use Rattle.runoff.specs.declared.turning.Station.{Station}
use Rattle.section.specs.Lines.{Section, joint_num, outer_slope}
use Rattle.runoff.specs.Reckoning.{section_in, Limits, SlopeIs, SlopesAt, even_parts, first_parts, second_parts, slope_parts, slopes_by, slopes_parts}
use Rattle.section.proofs.Slopes.{even?, is_even_lem, not_even, even_is, first-is, second_is}
use Rattle.section.proofs.Heights.{inner_slope_lem, shoulder_slope_lem}

module _ (t : Station) where
  abbrev d : ℕ
  d = t.d

  abbrev z : Limits t.runoff
  z = t.limits

  abbrev x : Section
  x = section_in t.runoff

  pub even_are : 3 * x.L ≤ x.h * (x.p + x.v) → even_parts x d ≡ slope_parts x d
  unfolding slope_parts
  even_are even = rw (is_even_lem x even) refl

  pub even_slope_lem :
      3 * x.L ≤ x.h * (x.p + x.v) → SlopeIs (outer_slope x (whole d)) (even_parts x d)
  even_slope_lem even =
      record {
        is = is_as (even_is x (is_one d) z.long even) z.long (omega arith);
        few = omega (arith, z.clothoid_most);
        high = mul-le-mul {n₁ = x.p + x.v} {n₂ = 90} (omega (arith, z.crown_most, z.slope_most)) t.within;
        low = mul-le-mul_right x.L z.crown_most;
        net = omega (arith, mul-le-mul_left (x.p + x.v) t.within, mul-le-mul_right x.L z.slope_most);
      }

  module _ (two : x.h * (x.p + x.v) < 3 * x.L) where
    abbrev J : ℕ
    J = 2 * x.h * x.p

    abbrev E : ℕ
    E = 3 * x.L - J

    pub first_are : 3 * d ≤ J → first_parts x d ≡ slope_parts x d
    unfolding slope_parts
    first_are j = rw (not_even x two, le-leb (3 * d) J j) refl

    pub first_slope_lem : 3 * d ≤ J → SlopeIs (outer_slope x (whole d)) (first_parts x d)
    first_slope_lem j =
        record {
          is = is_as (first-is x (is_one d) two z.half_least (omega arith)) z.half_least (omega arith);
          few = omega (arith, z.half_most);
          high = omega (arith, mul-le-mul_left x.h z.crown_most);
          low = mul-le-mul_right x.h z.crown_most;
          net = omega (arith, mul-le-mul_left x.h z.crown_most);
        }

    -- the joint comes before the clothoid's end
    pub run_some : J < 3 * x.L
    run_some = omega (arith, mul-le-mul_left x.h z.turned)

    most : x.p * E + (x.v - x.p) * (3 * d - J) ≤ 60 * E
    most =
        let past = mul-le-mul_left {m = 3 * d - J} {n = E} (x.v - x.p) (omega arith) in
        let e : x.v - x.p + x.p ≡ x.v = omega (arith, z.turned) in
        omega (arith, ap (λ (n : ℕ). n * E) e, mul-le-mul_right E z.slope_most)

    pub second_are : J < 3 * d → second_parts x d ≡ slope_parts x d
    unfolding slope_parts
    second_are j = rw (not_even x two, lt-leb (3 * d) J j) refl

    pub second_slope_lem : J < 3 * d → SlopeIs (outer_slope x (whole d)) (second_parts x d)
    second_slope_lem j =
        record {
          is =
              let one : (3 * x.L - J) * 1 ≡ E = omega arith in
              let same : 3 * d - J * 1 ≡ 3 * d - J = omega arith in
              rw (one, same) at (second_is x (is_one d) two z.turned run_some (omega arith));
          few = omega (arith, z.clothoid_most);
          high = omega (arith, most);
          low = omega arith;
          net = omega (arith, most);
        }

  -- in each stage the outer slope is what its parts are
  pub slope_lem : SlopeIs (outer_slope x (whole d)) (slope_parts x d)
  slope_lem = go (even? x) (dec_le (3 * d) (joint_num x))
    where
      go : Dec (3 * x.L ≤ x.h * (x.p + x.v)) → Dec (3 * d ≤ joint_num x) → SlopeIs (outer_slope x (whole d)) (slope_parts x d)
      go (yes e) j = rw (← even_are e) (even_slope_lem e)
      go (no e) (yes j) = rw (← first_are (omega arith) j) (first_slope_lem (omega arith) j)
      go (no e) (no j) = rw (← second_are (omega arith) (omega arith)) (second_slope_lem (omega arith) (omega arith))

-- the slopes that go with the outer one
module _ (t : Station) (s : Slope) (f : SlopeIs (outer_slope (section_in t.runoff) (whole t.d)) s) where
  pub crown_most : t.runoff.crown_slope * s.over ≤ 30 * s.over
  crown_most = mul-le-mul_right s.over t.limits.crown_most

  pub side_most : t.runoff.shoulder_slope * s.over ≤ 60 * s.over
  side_most = mul-le-mul_right s.over t.limits.side_most

  pub all_slopes : SlopesAt (section_in t.runoff) t.d (slopes_by (section_in t.runoff) s)
  all_slopes =
      record {
        outer_is = f;
        inner_is = inner_slope_lem (section_in t.runoff) (whole t.d) f.is;
        shoulder_is = shoulder_slope_lem (section_in t.runoff) (whole t.d) (inner_slope_lem (section_in t.runoff) (whole t.d) f.is);
        inner_high = omega (arith, crown_most, f.net);
        shoulder_high = omega (arith, crown_most, side_most, f.net);
      }

-- all of them at a station
pub slopes_at : (t : Station) → SlopesAt (section_in t.runoff) t.d (slopes_parts (section_in t.runoff) t.d)
unfolding slopes_parts
slopes_at t = all_slopes t _ (slope_lem t)
