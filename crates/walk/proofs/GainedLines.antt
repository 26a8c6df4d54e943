-- The lines k rows on from a row: over the same denominator they stand so high above the axis as the row's numbers, walked, come to.
-- Assumes nothing.
use mathlib.Core.Path.{◌≡◌, refl, ap}
use Prim.Native.Nat.{ℕ, suc, ◌+◌, ◌*◌, ◌≤◌}
use native.Mathlib.Nat.{mul-le-mul}
use native.Mathlib.Omega.{arith}
use Rattle.exact.specs.Exact.{whole}
use Rattle.exact.proofs.Is.{is_one, is_net}
use Rattle.exact.proofs.Ring.{ring}
use Rattle.section.specs.Lines.{Section, inner_brow, inner_edge, outer_edge, outer_brow}
use Rattle.section.proofs.Heights.{outer_edge_lem, outer_brow_lem, inner_edge_lem, inner_brow_lem}
use Rattle.runoff.specs.declared.Runoff.{Runoff}
use Rattle.runoff.specs.declared.turning.Slopes.{Slopes}
use Rattle.runoff.specs.declared.turning.Station.{Station}
use Rattle.runoff.specs.Reckoning.{section_in, slopes_parts, Limits, SlopesAt}
use Rattle.runoff.proofs.StationSlopes.{slopes_at}
use Rattle.walk.specs.declared.afresh.Gains.{Gains}
use Rattle.walk.specs.Gains.{parts, kept_at, wide_at, lane_rise, lane_bend, Holds}
use Rattle.walk.proofs.Lengths.{kept_few, wide_few, full_few, full_some}
use Rattle.walk.proofs.WalkedHeights.{Reached, Line}

-- the product of two straight lines gains the gain of the one times the other, the other way round, and both gains' product
product_gains :
    (w a s b j : ℕ) → (w + suc j * a) * (s + suc j * b) ≡ (w + j * a) * (s + j * b) + (w * b + a * (s + b) + j * (2 * (a * b)))
product_gains w a s b j = simp ring (omega arith)

-- d is the first row's station, and x the section, whose lines gain g with each row
module _
    (r : Runoff) (z : Limits r) (step d k : ℕ) (on : d + k * step ≤ r.clothoid) (g : Gains) (wider : g.widening ≡ r.full_widening * step)
    (holds : Holds (section_in r) step d g k) where
  abbrev x : Section
  x = section_in r

  abbrev there : ℕ
  there = d + k * step

  -- the slopes in the first row, and k rows on
  abbrev s : Slopes
  s = slopes_parts x d

  abbrev e : ℕ
  e = s.outer.over

  abbrev gained : Slopes
  gained =
      record {
        outer = record { up = s.outer.up + k * g.outer; down = s.outer.down; over = e };
        inner = s.inner + k * g.inner;
        shoulder = s.shoulder + k * g.shoulder;
      }

  same_slopes : slopes_parts x there ≡ gained
  same_slopes = λ i. record {
    outer = record { up = holds.outer_up i; down = holds.outer_down i; over = holds.outer_over i };
    inner = holds.inner i;
    shoulder = holds.shoulder i;
  }

  slopes : SlopesAt x there gained
  slopes =
      let t : Station = record { runoff = r; d = there; limits = z; within = on } in
      rw (← same_slopes) (slopes_at t)

  -- ---- the outer lines, where n is the half carriageway, or the shoulder with it
  outer_reached :
      (n : ℕ) → n ≤ 7500 →
      Reached e (λ j. n * (s.outer.up + j * g.outer)) (λ j. n * s.outer.down) (parts (n * s.outer.up) (n * s.outer.down)) (parts (n * g.outer) 0) (parts 0 0) k
  outer_reached n few =
      record {
        some = slopes.outer_is.is.over;
        few = omega (arith, slopes.outer_is.few);
        up = omega arith;
        down = refl;
        gains = record { by = λ j. omega arith };
        high = omega (arith, mul-le-mul few slopes.outer_is.high);
        low = omega (arith, mul-le-mul few slopes.outer_is.low);
      }

  pub outer_edge_line : Line x (outer_edge x (whole there)) e (parts (x.h * s.outer.up) (x.h * s.outer.down)) (parts (x.h * g.outer) 0) (parts 0 0) k
  outer_edge_line =
      record {
        a = λ j. x.h * (s.outer.up + j * g.outer);
        b = λ j. x.h * s.outer.down;
        reached = outer_reached x.h (omega (arith, z.half_most));
        is = outer_edge_lem x (whole there) slopes.outer_is.is;
      }

  pub outer_brow_line :
      let w = x.h + x.c in
      Line x (outer_brow x (whole there)) e (parts (w * s.outer.up) (w * s.outer.down)) (parts (w * g.outer) 0) (parts 0 0) k
  outer_brow_line =
      record {
        a = λ j. (x.h + x.c) * (s.outer.up + j * g.outer);
        b = λ j. (x.h + x.c) * s.outer.down;
        reached = outer_reached (x.h + x.c) (omega (arith, z.half_most, z.shoulder_most));
        is = outer_brow_lem x (whole there) slopes.outer_is.is;
      }

  -- ---- the inner lines
  abbrev full : ℕ
  full = x.L * e

  abbrev lane : ℕ → ℕ
  lane j = (wide_at x d + j * g.widening) * (s.inner + j * g.inner)

  abbrev side : ℕ → ℕ
  side j = s.shoulder + j * g.shoulder

  -- what the shoulder loses, times its slope
  abbrev lost : ℕ → ℕ
  lost j = (0 + j * g.lost) * side j

  lane_there : lane k ≡ wide_at x there * gained.inner
  lane_there = ap (λ (n : ℕ). n * gained.inner) (omega (arith, ap (λ (n : ℕ). k * n) wider))

  long : x.L * 1 ≡ x.L
  long = omega arith

  lane_few : lane k ≤ 435000 * full
  lane_few = omega (arith, lane_there, mul-le-mul (wide_few z there on) slopes.inner_high)

  side_few : kept_at x d * side k ≤ 225000 * full
  side_few = omega (arith, mul-le-mul (kept_few z d) slopes.shoulder_high)

  lost_there : lost k + kept_at x there * side k ≡ kept_at x d * side k
  lost_there = omega (arith, ap (λ (n : ℕ). n * side k) holds.kept)

  pub inner_edge_line : Line x (inner_edge x (whole there)) full (parts 0 (wide_at x d * s.inner)) (parts 0 (lane_rise x g s d)) (parts 0 (lane_bend g)) k
  inner_edge_line =
      record {
        a = λ j. 0;
        b = lane;
        reached =
            record {
              some = full_some z slopes.outer_is.is.over;
              few = omega (arith, full_few z slopes.outer_is.few);
              up = refl;
              down = omega arith;
              gains = record { by = λ j. omega (arith, product_gains (wide_at x d) g.widening s.inner g.inner j) };
              high = omega arith;
              low = omega (arith, lane_few);
            };
        is = is_net (rw long at (inner_edge_lem x (is_one there) z.long slopes.inner_is)) (omega (arith, lane_there));
      }

  pub inner_brow_line :
      Line x (inner_brow x (whole there)) full (parts 0 (wide_at x d * s.inner + kept_at x d * s.shoulder))
      (parts (g.lost * (s.shoulder + g.shoulder)) (lane_rise x g s d + kept_at x d * g.shoulder))
      (parts (2 * (g.lost * g.shoulder)) (lane_bend g))
      k
  inner_brow_line =
      record {
        a = lost;
        b = λ j. lane j + kept_at x d * side j;
        reached =
            record {
              some = full_some z slopes.outer_is.is.over;
              few = omega (arith, full_few z slopes.outer_is.few);
              up = omega arith;
              down = omega arith;
              gains = record { by = λ j. omega (arith, product_gains (wide_at x d) g.widening s.inner g.inner j, product_gains 0 g.lost s.shoulder g.shoulder j) };
              high = omega (arith, lost_there, side_few);
              low = omega (arith, lane_few, side_few);
            };
        is = is_net (rw long at (inner_brow_lem x (is_one there) z.long slopes.inner_is slopes.shoulder_is)) (omega (arith, lane_there, lost_there));
      }
