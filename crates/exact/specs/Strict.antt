-- Two exact heights at two exact stations between which a line climbs all the way: what a method promises of its outer edge there.
-- Assumes nothing.
use Rattle.std.specs.Prelude.{◌↔◌, ℕ, ◌<◌}
use Rattle.exact.specs.Exact.{Exact, whole, ◌⊖◌, ◌⊗◌, ◌≼◌, ◌≺◌, ◌≈◌}

-- the heights X at s and Y at t are fractions over numbers above 0; they are equal exactly when the stations are, and otherwise the farther is higher,
-- by at most the added slope times the distance
pub record StrictClimb (added : ℕ) (s t X Y : Exact) : Type 0 where
  pub fractions : (0 < X.den) × (0 < Y.den)
  pub equal : (X ≈ Y) ↔ (s ≈ t)
  pub higher : s ≺ t → X ≺ Y
  pub gentle : s ≼ t → Y ⊖ X ≼ whole added ⊗ (t ⊖ s)
