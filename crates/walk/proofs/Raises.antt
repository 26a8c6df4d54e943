-- What a row that is worked afresh reckons with keeps within its bounds.
-- Assumes nothing.
use mathlib.Core.Path.{◌≡◌}
use Prim.Native.Nat.{ℕ, ◌+◌, ◌*◌, ◌≤◌}
use native.Mathlib.Nat.{mul-le-mul}
use native.Mathlib.Omega.{arith}
use Rattle.section.specs.Lines.{Section}
use Rattle.runoff.specs.declared.turning.Slopes.{Slopes}
use Rattle.runoff.specs.Reckoning.{section_in, slopes_parts, Limits, SlopesAt}
use Rattle.runoff.proofs.StationSlopes.{slopes_at}
use Rattle.walk.specs.declared.afresh.Gains.{Gains}
use Rattle.walk.specs.declared.afresh.Start.{Start}
use Rattle.walk.specs.Bounds.{Raised}
use Rattle.walk.specs.Gains.{parts, kept_at, wide_at, lane_rise, lane_bend}
use Rattle.walk.proofs.Lengths.{kept_few, widened_few, wide_few, full_few, full_some}

module _ (a : Start) where
  abbrev x : Section
  x = section_in a.station.runoff

  abbrev g : Gains
  g = a.gains

  abbrev d : ℕ
  d = a.station.d

  abbrev limits : Limits a.station.runoff
  limits = a.station.limits

  -- the widening, which is no height
  pub widening_raised : Raised (parts (1000 * (x.W * d)) 0) (parts (1000 * g.widening) 0) (parts 0 0) x.L
  widening_raised =
      record {
        some = limits.long;
        few = omega (arith, limits.clothoid_most);
        at_up = omega (arith, widened_few limits d a.station.within);
        at_down = omega arith;
        rise_up = omega (arith, a.bounded.widening);
        rise_down = omega arith;
        bend_up = omega arith;
        bend_down = omega arith;
      }

  module _ {s : Slopes} (is : s ≡ slopes_parts x d) where
    abbrev e : ℕ
    e = s.outer.over

    slopes : SlopesAt x d s
    slopes = rw is (slopes_at a.station)

    gain_most : g.outer ≤ 90 * e
    gain_most = rw is a.bounded.outer

    -- ---- the outer heights, where n is the half carriageway, or the shoulder with it
    pub outer_raised : (n : ℕ) → n ≤ 7500 → Raised (parts (n * s.outer.up) (n * s.outer.down)) (parts (n * g.outer) 0) (parts 0 0) e
    outer_raised n few =
        record {
          some = slopes.outer_is.is.over;
          few = omega (arith, slopes.outer_is.few);
          at_up = omega (arith, mul-le-mul few slopes.outer_is.high);
          at_down = omega (arith, mul-le-mul few slopes.outer_is.low);
          rise_up = omega (arith, mul-le-mul few gain_most);
          rise_down = omega arith;
          bend_up = omega arith;
          bend_down = omega arith;
        }

    -- ---- the inner heights
    abbrev full : ℕ
    full = x.L * e

    abbrev lane : ℕ
    lane = wide_at x d * s.inner

    abbrev kept : ℕ
    kept = kept_at x d

    full_least : 1 ≤ full
    full_least = full_some limits slopes.outer_is.is.over

    full_most : full ≤ 270000000000
    full_most = full_few limits slopes.outer_is.few

    -- what an inner slope gains is no more than the outer one does
    inner_gain : s.inner + g.inner ≤ 150 * e
    inner_gain = omega (arith, slopes.inner_high, a.bounded.inner, gain_most)

    shoulder_gain : s.shoulder + g.shoulder ≤ 150 * e
    shoulder_gain = omega (arith, slopes.shoulder_high, a.bounded.shoulder, gain_most)

    pub inner_few : s.inner + g.inner ≤ 135000000
    inner_few = omega (arith, inner_gain, slopes.outer_is.few)

    pub shoulder_few : s.shoulder + g.shoulder ≤ 135000000
    shoulder_few = omega (arith, shoulder_gain, slopes.outer_is.few)

    lost_most : g.lost ≤ 3500 * x.L
    lost_most = omega (arith, a.bounded.lost, a.bounded.widening)

    -- each length times a slope, or times what that gains
    lane_most : lane + wide_at x d * g.inner ≤ 1087500 * full
    lane_most = omega (arith, mul-le-mul (wide_few limits d a.station.within) inner_gain)

    grown_most : g.widening * (s.inner + g.inner) ≤ 525000 * full
    grown_most = omega (arith, mul-le-mul a.bounded.widening inner_gain)

    side_most : kept * s.shoulder + kept * g.shoulder ≤ 562500 * full
    side_most = omega (arith, mul-le-mul (kept_few limits d) shoulder_gain)

    lost_side_most : g.lost * (s.shoulder + g.shoulder) ≤ 525000 * full
    lost_side_most = omega (arith, mul-le-mul lost_most shoulder_gain)

    pub inner_edge_raised : Raised (parts 0 lane) (parts 0 (lane_rise x g s d)) (parts 0 (lane_bend g)) full
    inner_edge_raised =
        record {
          some = full_least;
          few = full_most;
          at_up = omega arith;
          at_down = omega (arith, lane_most);
          rise_up = omega arith;
          rise_down = omega (arith, lane_most, grown_most);
          bend_up = omega arith;
          bend_down = omega (arith, grown_most);
        }

    pub inner_brow_raised :
        Raised (parts 0 (lane + kept * s.shoulder))
        (parts (g.lost * (s.shoulder + g.shoulder)) (lane_rise x g s d + kept * g.shoulder))
        (parts (2 * (g.lost * g.shoulder)) (lane_bend g))
        full
    inner_brow_raised =
        record {
          some = full_least;
          few = full_most;
          at_up = omega arith;
          at_down = omega (arith, lane_most, side_most);
          rise_up = omega (arith, lost_side_most);
          rise_down = omega (arith, lane_most, grown_most, side_most);
          bend_up = omega (arith, lost_side_most);
          bend_down = omega (arith, grown_most);
        }
