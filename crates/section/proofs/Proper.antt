-- Every line of a runoff is a fraction over a number above 0 at each of its stations.
-- Assumes nothing.
use Prim.Native.Nat.{ℕ, ◌+◌, ◌*◌, ◌≤◌}
use native.Mathlib.Decide.{dec_le}
use native.Mathlib.Omega.{arith}
use Rattle.exact.specs.Exact.{Exact}
use Rattle.exact.proofs.Order.{above}
use Rattle.exact.specs.Parts.{Is}
use Rattle.exact.proofs.Is.{station_is}
use Rattle.section.specs.Lines.{Section, On, joint_num, outer_slope, Fractions}
use Rattle.section.specs.Climbing.{ClimbPremises}
use Rattle.section.proofs.Slopes.{even?, even_is, first-is, second_is}
use Rattle.section.proofs.Heights.{outer_edge_lem, outer_brow_lem, inner_slope_lem, shoulder_slope_lem, widening_is, inner_shoulder_lem, inner_edge_lem, inner_brow_lem}
use Rattle.section.proofs.EdgePieces.{joint_before}

-- the outer slope is (m − n)/e, for some natural numbers
record Slope (x : Section) (s : Exact) : Type 0 where
  m : ℕ
  n : ℕ
  e : ℕ
  is : Is (outer_slope x s) m n e

slope : {x : Section} {s : Exact} {m n e : ℕ} → Is (outer_slope x s) m n e → Slope x s
slope {m = m} {n = n} {e = e} f = record { m = m; n = n; e = e; is = f }

slope-at : {added : ℕ} {x : Section} {s : Exact} → ClimbPremises added x → On x s → Slope x s
slope-at {x = x} {s} ok on = go (even? x) (dec_le (3 * above s) (joint_num x * s.den))
  where
    at : Is s (above s) 0 s.den
    at = station_is on.fraction on.from

    go : Dec (3 * x.L ≤ x.h * (x.p + x.v)) → Dec (3 * above s ≤ joint_num x * s.den) → Slope x s
    go (yes t) _ = slope (even_is x at ok.long t)
    go (no t) (yes j) = slope (first-is x at (omega arith) ok.wide j)
    go (no t) (no j) = slope (second_is x at (omega arith) ok.turned (joint_before x (omega arith) ok.turned) (omega arith))

pub proper : {added : ℕ} {x : Section} {s : Exact} → ClimbPremises added x → On x s → Fractions x s
proper {x = x} {s} ok on =
    let at = station_is on.fraction on.from in
    let f = (slope-at ok on).is in
    let inner = inner_slope_lem x s f in
    let shoulder = shoulder_slope_lem x s inner in
    record {
      outer_slope = f.proper;
      inner_slope = inner.proper;
      widening = (widening_is x at ok.long).proper;
      inner_shoulder = (inner_shoulder_lem x at ok.long).proper;
      shoulder_slope = shoulder.proper;
      inner_brow = (inner_brow_lem x at ok.long inner shoulder).proper;
      inner_edge = (inner_edge_lem x at ok.long inner).proper;
      outer_edge = (outer_edge_lem x s f).proper;
      outer_brow = (outer_brow_lem x s f).proper;
    }
