-- The outer slope at the station a/b in each stage, over one denominator.
-- Assumes nothing.
use mathlib.Core.Path.{◌≡◌}
use mathlib.Core.Bool.{true, false}
use Prim.Native.Nat.{ℕ, ◌+◌, ◌*◌, ◌-◌, ◌≤◌, ◌<◌}
use native.Mathlib.Nat.{mul-pos}
use native.Mathlib.Decide.{dec_le}
use native.Mathlib.Omega.{arith}
use borrow.Author.Tests.{le-leb, lt-leb}
use Rattle.exact.specs.Exact.{Exact, whole, minus, ◌⊖◌}
use Rattle.exact.specs.Parts.{Is}
use Rattle.exact.proofs.Is.{is_frac, is_whole, is_minus, is_one, is_as, is_net, is_add, is_sub, is_mul, is_div, is_times, is_over, is_less, is_past, is_from_zero, is_yes, is_no}
use Rattle.section.specs.Lines.{Section, is_even, joint, joint_num, joint_den, outer_slope}

-- even or two-stage
module _ (x : Section) where
  pub is_even_lem : 3 * x.L ≤ x.h * (x.p + x.v) → is_even x ≡ true
  is_even_lem = le-leb (3 * x.L) (x.h * (x.p + x.v))

  pub not_even : x.h * (x.p + x.v) < 3 * x.L → is_even x ≡ false
  not_even = lt-leb (3 * x.L) (x.h * (x.p + x.v))

  pub even? : Dec (3 * x.L ≤ x.h * (x.p + x.v))
  even? = dec_le (3 * x.L) (x.h * (x.p + x.v))

  pub joint_is : Is (joint x) (joint_num x) 0 joint_den
  joint_is = is_frac (joint_num x) joint_den (omega arith)

module _ (x : Section) {s : Exact} {a b : ℕ} (at : Is s a 0 b) where
  pub even_is :
      0 < x.L → 3 * x.L ≤ x.h * (x.p + x.v) →
      Is (outer_slope x s) ((x.p + x.v) * a) (x.p * (x.L * b)) (x.L * b)
  unfolding outer_slope
  even_is l t =
      let turn : Is (whole x.v ⊖ minus x.p) (x.p + x.v) 0 1 = is_net (is_sub (is_one x.v) (is_minus x.p 1 (omega arith))) (omega arith) in
      let k = mul-pos l at.over in
      rw (is_even_lem x t)
      (is_net
      (is_add (is_minus x.p (x.L * b) k) (is_as {a' = (x.p + x.v) * a} {b' = 0} (is_div (is_mul turn (is_from_zero at)) (is_from_zero (is_one x.L)) l) k (omega arith)))
      (omega arith))

  module _ (two : x.h * (x.p + x.v) < 3 * x.L) where
    pub first-is : 0 < x.h → 3 * a ≤ joint_num x * b → Is (outer_slope x s) (3 * a) (x.p * (x.h * b)) (x.h * b)
    unfolding outer_slope
    first-is h j =
        rw (not_even x two, is_yes at (joint_is x) (omega arith))
        (is_net (is_add (is_minus x.p (x.h * b) (mul-pos h at.over)) (is_over x.h h (is_times 3 at))) (omega arith))

    pub second_is :
        x.p ≤ x.v → joint_num x < 3 * x.L → joint_num x * b < 3 * a →
        Is (outer_slope x s)
        (x.p * ((3 * x.L - joint_num x) * b) + (x.v - x.p) * (3 * a - joint_num x * b)) 0 ((3 * x.L - joint_num x) * b)
    unfolding outer_slope
    second_is turned before j =
        let J : ℕ = joint_num x in
        let E = 3 * x.L - J in
        let k : 0 < E * b = mul-pos (omega arith) at.over in
        let turn = is_less turned (is_one x.v) (is_one x.p) in
        let past : Is (s ⊖ joint x) (3 * a - J * b) 0 (3 * b) = is_past at (joint_is x) (3 * a - J * b) (omega arith) in
        let run : Is (whole x.L ⊖ joint x) E 0 3 = is_past (is_one x.L) (joint_is x) E (omega arith) in
        rw (not_even x two, is_no at (joint_is x) (omega arith))
        (is_add (is_whole x.p (E * b) k) (is_as {a' = (x.v - x.p) * (3 * a - J * b)} {b' = 0} (is_div (is_mul turn past) run (omega arith)) k (omega arith)))
