-- How wide the inner lane is, and what is kept of its shoulder, over the clothoid's length; and the length times a slope's denominator.
-- Assumes nothing.
use Prim.Native.Nat.{ℕ, ◌*◌, ◌≤◌, ◌<◌}
use native.Mathlib.Nat.{mul-le-mul, mul-le-mul_right, mul-pos}
use native.Mathlib.Omega.{arith}
use Rattle.runoff.specs.declared.Runoff.{Runoff}
use Rattle.runoff.specs.Reckoning.{section_in, Limits}
use Rattle.walk.specs.Gains.{kept_at, wide_at}

module _ {r : Runoff} (z : Limits r) where
  pub kept_few : (d : ℕ) → kept_at (section_in r) d ≤ 3750 * r.clothoid
  kept_few d = omega (arith, mul-le-mul_right r.clothoid z.shoulder_most, mul-le-mul_right r.clothoid z.kept_most)

  pub widened_few : (d : ℕ) → d ≤ r.clothoid → r.full_widening * d ≤ 3500 * r.clothoid
  widened_few d on = mul-le-mul z.widening_most on

  pub wide_few : (d : ℕ) → d ≤ r.clothoid → wide_at (section_in r) d ≤ 7250 * r.clothoid
  wide_few d on = omega (arith, widened_few d on, mul-le-mul_right r.clothoid z.half_most)

  pub full_few : {e : ℕ} → e ≤ 900000 → r.clothoid * e ≤ 270000000000
  full_few few = mul-le-mul z.clothoid_most few

  pub full_some : {e : ℕ} → 0 < e → 1 ≤ r.clothoid * e
  full_some some = mul-pos z.long some
