-- Where a rule changes sides, its closed form lies between the ends of the clothoid.
-- Assumes nothing.
use mathlib.Core.Path.{◌≡◌, ap}
use mathlib.Core.Bool.{true}
use Prim.Native.Nat.{ℕ, ◌+◌, ◌*◌, ◌-◌, ◌≤◌, ◌<◌}
use native.Mathlib.Nat.{mul-pos, mul-lt-mul_of_pos_right}
use native.Mathlib.Omega.{arith}
use Rattle.section.specs.Lines.{Section, joint_num}
use Rattle.section.specs.Climbing.{ClimbPremises}
use Rattle.section.proofs.Slopes.{even?, is_even_lem, not_even}
use Rattle.section.proofs.EdgePieces.{joint_before}
use Rattle.changes.specs.Rules.{Rule, inner_slope_rule, shoulder_slope_rule, inner_shoulder_rule}
use Rattle.changes.specs.Closed.{run, turned, changes, change_num, change_den, ChangePremises}
use Rattle.changes.proofs.Stations.{tests}
use Rattle.changes.proofs.Compared.{Inside}

module _ {added : ℕ} {x : Section} (ok : ChangePremises added x) where
  z : ClimbPremises added x
  z = ok.climb

  joint_some : 0 < joint_num x
  joint_some = mul-pos (mul-pos (omega arith) z.wide) z.crowned

  inner_inside : x.p < x.v → Dec (3 * x.L ≤ x.h * (x.p + x.v)) → Inside inner_slope_rule x
  unfolding change_num change_den
  inner_inside h (yes t) =
      rw (is_even_lem x t)
      (record { fraction = omega arith; some = mul-pos (omega (arith, z.crowned)) z.long; less = mul-lt-mul_of_pos_right (omega arith) z.long })
  inner_inside h (no t) = rw (not_even x (omega arith)) (record { fraction = omega arith; some = joint_some; less = joint_before x (omega arith) z.turned })

  shoulder_inside : x.q < x.v → Dec (3 * x.L ≤ x.h * (x.p + x.v)) → Inside shoulder_slope_rule x
  unfolding change_num change_den
  shoulder_inside h (yes t) =
      rw (is_even_lem x t)
      (record { fraction = omega arith; some = mul-pos (omega (arith, h)) z.long; less = mul-lt-mul_of_pos_right (omega arith) z.long })
  shoulder_inside h (no t) =
      let gained : 0 < turned x = omega (arith, ok.steeper) in
      let before : joint_num x < 3 * x.L = joint_before x (omega arith) z.turned in
      let all : run x + joint_num x ≡ 3 * x.L = omega (arith, before) in
      let less : (x.q - x.p) * run x < turned x * run x = mul-lt-mul_of_pos_right (omega (arith, ok.steeper)) (omega arith) in
      rw (not_even x (omega arith))
      (record {
        fraction = omega (arith, gained);
        some = omega (arith, mul-pos joint_some gained);
        less = omega (arith, less, ap (λ (n : ℕ). turned x * n) all);
      })

  width_inside : x.c < x.m + x.W → Inside inner_shoulder_rule x
  unfolding change_num change_den
  width_inside h =
      record {
        fraction = omega (arith, ok.wider);
        some = mul-pos (omega (arith, ok.wider)) z.long;
        less = mul-lt-mul_of_pos_right (omega (arith, ok.wider)) z.long;
      }

  pub inside : (rule : Rule) → changes rule x ≡ true → Inside rule x
  unfolding changes
  inside inner_slope_rule e = inner_inside (omega (arith, tests, e)) (even? x)
  inside shoulder_slope_rule e = shoulder_inside (omega (arith, tests, e)) (even? x)
  inside inner_shoulder_rule e = width_inside (omega (arith, tests, e))
