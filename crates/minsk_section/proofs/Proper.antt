-- Every line of a section is a fraction over a number above 0.
-- Assumes nothing.
use mathlib.Core.Path.{◌≡◌, ap}
use mathlib.Core.Logic.{◌⊎◌, inl, inr}
use Prim.Native.Nat.{ℕ, ◌+◌, ◌*◌, ◌-◌, ◌≤◌}
use native.Mathlib.Decide.{dec_le}
use native.Mathlib.Omega.{arith}
use Rattle.exact.specs.Exact.{Exact, ◌≼◌, ◌≺◌}
use Rattle.exact.specs.Parts.{Is}
use Rattle.exact.proofs.Order.{above, ≺→≼, ask}
use Rattle.exact.proofs.Is.{is_frac, station_is}
use Rattle.minsk_section.specs.Lines.{Section, On, stage_start, stage_end, outer_slope, widening, Fractions, Premises}
use Rattle.minsk_section.proofs.Widenings.{Growth, none_is, grows_is, full_is}
use Rattle.minsk_section.proofs.Heights.{outer_edge_lem, outer_strip_lem, outer_brow_lem, inner_slope_lem, shoulder_slope_lem, inner_shoulder_lem, inner_edge_lem, inner_strip_lem, inner_brow_lem}
use Rattle.minsk_section.proofs.EdgePieces.{N, slope_crowned, slope_first, slope_second}

-- the outer slope is (m − n)/e, for some natural numbers
pub record Slope (x : Section) (s : Exact) : Type 0 where
  pub m : ℕ
  pub n : ℕ
  pub e : ℕ
  pub is : Is (outer_slope x s) m n e

slope : {x : Section} {s : Exact} {m n e : ℕ} → Is (outer_slope x s) m n e → Slope x s
slope {m = m} {n = n} {e = e} f = record { m = m; n = n; e = e; is = f }

-- the widening is g/q
pub record Widening (x : Section) (s : Exact) : Type 0 where
  pub g : ℕ
  pub q : ℕ
  pub is : Is (widening x s) g 0 q

widened : {x : Section} {s : Exact} {g q : ℕ} → Is (widening x s) g 0 q → Widening x s
widened {g = g} {q = q} f = record { g = g; q = q; is = f }

module _ {x : Section} (ok : Premises x) where
  -- the widening starts over 500 at
  abbrev pub G : ℕ
  G = N x - 10000000

  pub growth : Growth x G (N x) 500
  growth = record { end = is_frac (N x) 500 (omega arith); way = omega (arith, ok.room, ok.wide) }

  module _ {s : Exact} (on : On x s) where
    pub slope_at : Slope x s
    slope_at = go (ask s (stage_start x)) (ask s (stage_end x))
      where
        go : (s ≼ stage_start x) ⊎ (stage_start x ≺ s) → (s ≼ stage_end x) ⊎ (stage_end x ≺ s) → Slope x s
        go (inl h) _ = slope (slope_crowned ok on h)
        go (inr h) (inl k) = slope (slope_first ok on (≺→≼ h) k)
        go (inr h) (inr k) = slope (slope_second ok on (≺→≼ k))

    pub widening_at : Widening x s
    widening_at = go (dec_le (500 * above s) (G * s.den)) (dec_le (500 * above s) (N x * s.den))
      where
        at : Is s (above s) 0 s.den
        at = station_is on.fraction on.from

        way : N x * s.den ≡ G * s.den + 10000000 * s.den
        way = omega (arith, ap (λ (k : ℕ). k * s.den) growth.way)

        go : Dec (500 * above s ≤ G * s.den) → Dec (500 * above s ≤ N x * s.den) → Widening x s
        go (yes h) _ = widened (none_is x growth at h)
        go (no h) (yes k) = widened (grows_is x growth at (500 * above s - G * s.den - 1) (omega arith) (omega (arith, way)))
        go (no h) (no k) = widened (full_is x growth at (omega arith))

    pub proper : Fractions x s
    proper =
        let f = slope_at.is in
        let g = widening_at.is in
        let i = inner_slope_lem x s f in
        let l = shoulder_slope_lem x s i in
        record {
          outer_slope = f.proper;
          inner_slope = i.proper;
          widening = g.proper;
          inner_shoulder = (inner_shoulder_lem x s g).proper;
          shoulder_slope = l.proper;
          outer_edge = (outer_edge_lem x s f).proper;
          outer_strip = (outer_strip_lem x s f).proper;
          outer_brow = (outer_brow_lem x s f).proper;
          inner_edge = (inner_edge_lem x s g i).proper;
          inner_strip = (inner_strip_lem x s g i).proper;
          inner_brow = (inner_brow_lem x s g i ok.strips l).proper;
        }
