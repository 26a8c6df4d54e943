-- Of two fractions at most z apart, each is at most the other and z.
-- Assumes nothing.
use mathlib.Core.Path.{ap}
use Prim.Native.Nat.{ℕ, ◌+◌, ◌*◌, ◌≤◌}
use native.Mathlib.Omega.{arith}
use Rattle.exact.specs.Exact.{Exact, ◌⊕◌, ◌⊖◌, ◌≼◌, distance}
use Rattle.exact.proofs.Integers.{abs_parts}
use Rattle.exact.proofs.Order.{above, below, le_out, le_in}
use Rattle.exact.proofs.Sums.{sum_parts, difference_parts}

module _ (x y : Exact) {z : Exact} (near : distance x y ≼ z) where
  -- |x − y| ≤ z in natural numbers
  apart : (above (x ⊖ y) + below (x ⊖ y)) * z.den + below z * (x.den * y.den) ≤ above z * (x.den * y.den)
  apart = omega (arith, le_out near, ap (λ (n : ℕ). n * z.den) (abs_parts (x ⊖ y).num))

  pub near_first : x ≼ y ⊕ z
  near_first = le_in (omega (arith, apart, ap (λ (n : ℕ). n * z.den) (difference_parts x y), ap (λ (n : ℕ). n * x.den) (sum_parts y z)))

  pub near_second : y ≼ x ⊕ z
  near_second = le_in (omega (arith, apart, ap (λ (n : ℕ). n * z.den) (difference_parts x y), ap (λ (n : ℕ). n * y.den) (sum_parts x z)))
