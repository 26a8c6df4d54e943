-- The lines at the station a/b, over one denominator, from the outer slope there.
-- Assumes nothing.
use Prim.Native.Nat.{ℕ, ◌+◌, ◌*◌, ◌-◌, ◌<◌, max}
use native.Mathlib.Nat.{mul-pos}
use native.Mathlib.Omega.{arith}
use Rattle.exact.specs.Exact.{Exact, whole, ◌⊕◌}
use Rattle.exact.specs.Parts.{Is}
use Rattle.exact.proofs.Is.{is_whole, is_net, is_add, is_sub, is_mul, is_times, is_over, is_floor}
use Rattle.section.specs.Lines.{Section, axis_height, outer_slope, inner_slope, shoulder_slope, widening, inner_shoulder, outer_edge, outer_brow, inner_edge, inner_brow}

-- the outer slope is (m − n)/e
module _ (x : Section) (s : Exact) {m n e : ℕ} (f : Is (outer_slope x s) m n e) where
  pub outer_edge_lem : Is (outer_edge x s) (axis_height x * e + x.h * m) (x.h * n) e
  unfolding outer_edge
  outer_edge_lem = is_net (is_add (is_whole (axis_height x) e f.over) (is_times x.h f)) (omega arith)

  pub outer_brow_lem : Is (outer_brow x s) (axis_height x * e + (x.h + x.c) * m) ((x.h + x.c) * n) e
  unfolding outer_brow
  outer_brow_lem = is_net (is_add outer_edge_lem (is_times x.c f)) (omega arith)

  pub inner_slope_lem : Is (inner_slope x s) (max (x.p * e) (m - n)) 0 e
  unfolding inner_slope
  inner_slope_lem = is_floor x.p f

-- the inner slope is i/e
pub shoulder_slope_lem : (x : Section) (s : Exact) {i e : ℕ} → Is (inner_slope x s) i 0 e → Is (shoulder_slope x s) (max (x.q * e) i) 0 e
unfolding shoulder_slope
shoulder_slope_lem x s f = is_net (is_floor x.q f) (omega arith)

module _ (x : Section) {s : Exact} {a b : ℕ} (at : Is s a 0 b) (long : 0 < x.L) where
  pub widening_is : Is (widening x s) (x.W * a) 0 (x.L * b)
  unfolding widening
  widening_is = is_net (is_over x.L long (is_times x.W at)) (omega arith)

  some : 0 < x.L * b
  some = mul-pos long at.over

  -- what is kept of the shoulder: what the widening leaves of c, which may be less than nothing, and at least m
  abbrev pub kept : ℕ
  kept = max (x.m * (x.L * b)) (x.c * (x.L * b) - x.W * a)

  pub inner_shoulder_lem : Is (inner_shoulder x s) kept 0 (x.L * b)
  unfolding inner_shoulder
  inner_shoulder_lem = is_floor x.m (is_net (is_sub (is_whole x.c (x.L * b) some) widening_is) (omega arith))

  module _ {i e : ℕ} (f : Is (inner_slope x s) i 0 e) where
    pub inner_edge_lem : Is (inner_edge x s) (axis_height x * (x.L * b * e)) ((x.h * (x.L * b) + x.W * a) * i) (x.L * b * e)
    unfolding inner_edge
    inner_edge_lem =
        let lane : Is (whole x.h ⊕ widening x s) (x.h * (x.L * b) + x.W * a) 0 (x.L * b) = is_net (is_add (is_whole x.h (x.L * b) some) widening_is) (omega arith) in
        is_net (is_sub (is_whole (axis_height x) (x.L * b * e) (mul-pos some f.over)) (is_mul lane f)) (omega arith)

    pub inner_brow_lem :
        {j : ℕ} → Is (shoulder_slope x s) j 0 e →
        Is (inner_brow x s) (axis_height x * (x.L * b * e)) ((x.h * (x.L * b) + x.W * a) * i + kept * j) (x.L * b * e)
    unfolding inner_brow
    inner_brow_lem g = is_net (is_sub inner_edge_lem (is_mul inner_shoulder_lem g)) (omega arith)
