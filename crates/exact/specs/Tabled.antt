-- Two rounded heights against the exact ones, at two whole stations: what every method that tables an outer edge promises of it.
-- Assumes nothing.
use Rattle.std.specs.Prelude.{ℕ, ◌<◌, ℤ, ◌≤ℤ◌}
use Rattle.exact.specs.Exact.{Exact, frac, whole, ◌⊕◌, ◌⊖◌, ◌⊗◌, ◌≼◌, distance}
use Rattle.exact.specs.Rounding.{units}

-- the tabled heights n at d and k at e, d not past e, in units of u: each within half a unit of the exact one at its station, X and Y;
-- the later not lower than the earlier, nor higher by more than one unit plus the added slope times the distance
pub record TabledClimb (added u : ℕ) (X Y : Exact) (d e : ℕ) (n k : ℤ) : Type 0 where
  pub fractions : (0 < X.den) × (0 < Y.den)
  pub earlier : distance X (units u n) ≼ frac u 2
  pub later : distance Y (units u k) ≼ frac u 2
  pub order : n ≤ℤ k
  pub gentle : units u k ⊖ units u n ≼ whole u ⊕ whole added ⊗ (whole e ⊖ whole d)
