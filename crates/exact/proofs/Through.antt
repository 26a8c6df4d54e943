-- The straight line goes through its two points.
-- Assumes nothing.
use Prim.Native.Nat.{ℕ, ◌<◌}
use native.Mathlib.Omega.{arith}
use Rattle.exact.specs.Exact.{Exact, ◌⊗◌, ◌⊘◌, LineTheorem}
use Rattle.exact.proofs.Ring.{ring}
use Rattle.exact.specs.Parts.{Is}
use Rattle.exact.proofs.Is.{is_self, is_as, is_net, is_natural, is_diff, is_sum, is_product, is_div, is_eq, lt_is}

-- a number times m/e, divided by m/e
back : {x y : Exact} {a b d m e : ℕ} → Is x a b d → Is y m 0 e → 0 < m → Is (x ⊗ y ⊘ y) a b d
back f g h = is_as (is_div (is_product f g) g h) f.over (simp ring (omega arith))

-- a number times nought
nought : {x y z : Exact} {a b d e m n : ℕ} → Is x a b d → Is y 0 0 e → Is z m 0 n → 0 < m → Is (x ⊗ y ⊘ z) 0 0 1
nought f g k h = is_as (is_div (is_product f g) k h) (omega arith) (omega arith)

pub line_through : LineTheorem
line_through x₀ y₀ x₁ y₁ p₀ q₀ p₁ q₁ before =
    let X₀ = is_self x₀ p₀ in
    let X₁ = is_self x₁ p₁ in
    let Y₀ = is_self y₀ q₀ in
    let Y₁ = is_self y₁ q₁ in
    let ahead = lt_is X₀ X₁ before in
    let run = is_natural (is_diff X₁ X₀) (omega arith) in
    let start = is_sum Y₀ (nought (is_diff Y₁ Y₀) (is_net (is_diff X₀ X₀) (omega arith)) run (omega arith)) in
    let end = is_sum Y₀ (back (is_diff Y₁ Y₀) run (omega arith)) in
    record { fractions = (start.proper, end.proper); starts = is_eq start Y₀ (omega arith); ends = is_eq end Y₁ (simp ring (omega arith)) }
