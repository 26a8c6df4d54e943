-- The sum and the difference of two fractions, in the natural parts of the numerators.
-- Assumes nothing.
use mathlib.Core.Path.{◌≡◌}
use Prim.Native.Nat.{◌+◌, ◌*◌}
use native.Mathlib.Omega.{arith}
use lib.IntN.{pos, ◌*ℤ◌}
use Rattle.exact.specs.Exact.{Exact, ◌⊕◌, ◌⊖◌}
use Rattle.exact.proofs.Integers.{add_parts, sub_parts, mul_parts}
use Rattle.exact.proofs.Order.{above, below, left, right}

module _ (x y : Exact) where
  pub sum_parts : above (x ⊕ y) + below x * y.den + below y * x.den ≡ above x * y.den + above y * x.den + below (x ⊕ y)
  sum_parts =
      omega (arith, add_parts (x.num *ℤ pos y.den) (y.num *ℤ pos x.den), mul_parts x.num (pos y.den), mul_parts y.num (pos x.den))

  pub difference_parts : above (x ⊖ y) + right x y ≡ left x y + below (x ⊖ y)
  difference_parts =
      omega (arith, sub_parts (x.num *ℤ pos y.den) (y.num *ℤ pos x.den), mul_parts x.num (pos y.den), mul_parts y.num (pos x.den))
