-- The lines at a station, over one denominator, from the outer slope and the widening there.
-- Assumes nothing.
use Prim.Native.Nat.{ℕ, ◌+◌, ◌*◌, ◌-◌, ◌≤◌, max}
use native.Mathlib.Nat.{mul-pos, mul-le-mul_right}
use native.Mathlib.Omega.{arith}
use Rattle.exact.specs.Exact.{Exact, whole, ◌⊕◌, ◌⊖◌}
use Rattle.exact.specs.Parts.{Is}
use Rattle.exact.proofs.Is.{is_whole, is_as, is_net, is_add, is_sub, is_mul, is_times, is_floor}
use Rattle.minsk_section.specs.Lines.{Section, outer_slope, inner_slope, shoulder_slope, widening, inner_shoulder, outer_edge, outer_strip, outer_brow, inner_edge, inner_strip, inner_brow}

-- the outer slope is (m − n)/e
module _ (x : Section) (s : Exact) {m n e : ℕ} (f : Is (outer_slope x s) m n e) where
  pub outer_edge_lem : Is (outer_edge x s) (x.h * m) (x.h * n) e
  unfolding outer_edge
  outer_edge_lem = is_net (is_add (is_whole 0 e f.over) (is_times x.h f)) (omega arith)

  pub outer_strip_lem : Is (outer_strip x s) ((x.h + x.t) * m) ((x.h + x.t) * n) e
  unfolding outer_strip
  outer_strip_lem = is_net (is_add outer_edge_lem (is_times x.t f)) (omega arith)

  pub outer_brow_lem : Is (outer_brow x s) ((x.h + x.c) * m) ((x.h + x.c) * n) e
  unfolding outer_brow
  outer_brow_lem = is_net (is_add outer_edge_lem (is_times x.c f)) (omega arith)

  pub inner_slope_lem : Is (inner_slope x s) (max (20 * e) (m - n)) 0 e
  unfolding inner_slope
  inner_slope_lem = is_floor 20 f

-- the inner slope is i/e
pub shoulder_slope_lem : (x : Section) (s : Exact) {i e : ℕ} → Is (inner_slope x s) i 0 e → Is (shoulder_slope x s) (max (40 * e) i) 0 e
unfolding shoulder_slope
shoulder_slope_lem x s f = is_net (is_floor 40 f) (omega arith)

-- the widening is g/q
module _ (x : Section) (s : Exact) {g q : ℕ} (f : Is (widening x s) g 0 q) where
  pub inner_shoulder_lem : Is (inner_shoulder x s) (max (x.m * q) (x.c * q - g)) 0 q
  unfolding inner_shoulder
  inner_shoulder_lem = is_floor x.m (is_net (is_sub (is_whole x.c q f.over) f) (omega arith))

  module _ {i e : ℕ} (k : Is (inner_slope x s) i 0 e) where
    pub inner_edge_lem : Is (inner_edge x s) 0 ((x.h * q + g) * i) (q * e)
    unfolding inner_edge
    inner_edge_lem =
        let lane : Is (whole x.h ⊕ widening x s) (x.h * q + g) 0 q = is_net (is_add (is_whole x.h q f.over) f) (omega arith) in
        is_net (is_sub (is_whole 0 (q * e) (mul-pos f.over k.over)) (is_mul lane k)) (omega arith)

    pub inner_strip_lem : Is (inner_strip x s) 0 (((x.h + x.t) * q + g) * i) (q * e)
    unfolding inner_strip
    inner_strip_lem =
        let strip = is_as {a' = x.t * q * i} {b' = 0} (is_times x.t k) (mul-pos f.over k.over) (omega arith) in
        is_net (is_sub inner_edge_lem strip) (omega arith)

    -- the inner shoulder is j/q, of which the strip takes no more than all; the shoulder slope is l/e
    pub inner_brow_by :
        {j l : ℕ} → Is (inner_shoulder x s) j 0 q → x.t * q ≤ j → Is (shoulder_slope x s) l 0 e →
        Is (inner_brow x s) 0 (((x.h + x.t) * q + g) * i + (j - x.t * q) * l) (q * e)
    unfolding inner_brow
    inner_brow_by {j} {l} sh le sl =
        let rest : Is (inner_shoulder x s ⊖ whole x.t) (j - x.t * q) 0 q = is_net (is_sub sh (is_whole x.t q f.over)) (omega arith) in
        is_net (is_sub inner_strip_lem (is_mul rest sl)) (omega arith)

    -- the strip is no wider than the least shoulder
    pub inner_brow_lem :
        {l : ℕ} → x.t ≤ x.m → Is (shoulder_slope x s) l 0 e →
        Is (inner_brow x s) 0 (((x.h + x.t) * q + g) * i + (max (x.m * q) (x.c * q - g) - x.t * q) * l) (q * e)
    inner_brow_lem h sl = inner_brow_by inner_shoulder_lem (omega (arith, mul-le-mul_right q h)) sl
