-- The two heights of a side are equal where each is.
-- Assumes nothing.
use mathlib.Core.Path.{◌≡◌}
use Rattle.walking.specs.declared.Curve.{Curve}
use Rattle.walk.specs.declared.afresh.Curves.{Curves}

pub same_curves : {a a' b b' : Curve} → a ≡ a' → b ≡ b' → ◌≡◌ {A = Curves} (record { brow = a; edge = b }) (record { brow = a'; edge = b' })
same_curves p q = λ i. record { brow = p i; edge = q i }
