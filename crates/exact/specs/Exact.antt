-- Exact fractions: a whole number over a whole number above nought, never rounded.
-- Assumes nothing.
use Rattle.std.specs.Prelude.{◌≡◌, Bool, true, false, cond, ◌&&◌, List, [], ◌∷◌, ℕ, ◌*◌, ◌<◌, ℤ, pos, neg_ℤ, nat_abs, ◌+ℤ◌, ◌-ℤ◌, ◌*ℤ◌, ◌≤ℤ◌, ◌<ℤ◌}
use Rattle.std.specs.Int.Signed.{le_z}

-- num/den; den is above 0 in every fraction that a theorem compares, and the theorem says so
pub record Exact : Type 0 where
  pub num : ℤ
  pub den : ℕ

-- a/b, n and −n
abbrev pub frac : ℕ → ℕ → Exact
frac a b = record { num = pos a; den = b }

abbrev pub whole : ℕ → Exact
whole n = frac n 1

abbrev pub minus : ℕ → Exact
minus n = record { num = neg_ℤ (pos n); den = 1 }

-- (a − b)/d
abbrev pub ratio : ℕ → ℕ → ℕ → Exact
ratio a b d = record { num = pos a -ℤ pos b; den = d }

infixl 65 ◌⊕◌ ◌⊖◌
infixl 70 ◌⊗◌ ◌⊘◌
infix 50 ◌≼◌ ◌≺◌ ◌≈◌
-- sum, difference and product
abbrev pub ◌⊕◌ : Exact → Exact → Exact
x ⊕ y = record { num = x.num *ℤ pos y.den +ℤ y.num *ℤ pos x.den; den = x.den * y.den }

abbrev pub ◌⊖◌ : Exact → Exact → Exact
x ⊖ y = record { num = x.num *ℤ pos y.den -ℤ y.num *ℤ pos x.den; den = x.den * y.den }

abbrev pub ◌⊗◌ : Exact → Exact → Exact
x ⊗ y = record { num = x.num *ℤ y.num; den = x.den * y.den }

-- the quotient by a number above 0
abbrev pub ◌⊘◌ : Exact → Exact → Exact
x ⊘ y = record { num = x.num *ℤ pos y.den; den = x.den * nat_abs y.num }

-- the size of x, and how far apart x and y are
abbrev pub size : Exact → Exact
size x = record { num = pos (nat_abs x.num); den = x.den }

abbrev pub distance : Exact → Exact → Exact
distance x y = size (x ⊖ y)

-- order and equality, by cross-multiplying
pub record ◌≼◌ (x y : Exact) : Type 0 where
  pub le : (x.num *ℤ pos y.den) ≤ℤ (y.num *ℤ pos x.den)

pub record ◌≺◌ (x y : Exact) : Type 0 where
  pub lt : (x.num *ℤ pos y.den) <ℤ (y.num *ℤ pos x.den)

pub record ◌≈◌ (x y : Exact) : Type 0 where
  pub eq : x.num *ℤ pos y.den ≡ y.num *ℤ pos x.den

-- the test of the order, and the greater of two
abbrev pub at_most : Exact → Exact → Bool
at_most x y = le_z (x.num *ℤ pos y.den) (y.num *ℤ pos x.den)

abbrev pub greater : Exact → Exact → Exact
greater x y = cond (at_most x y) y x

-- number by number the same: neither is below the other
abbrev pub same : List Exact → List Exact → Bool
same [] [] = true
same (x ∷ xs) (y ∷ ys) = at_most x y && at_most y x && same xs ys
same [] (y ∷ ys) = false
same (x ∷ xs) [] = false

-- the value at x of the straight line that has y₀ at x₀ and y₁ at x₁
abbrev pub line : Exact → Exact → Exact → Exact → Exact → Exact
line x₀ y₀ x₁ y₁ x = y₀ ⊕ (y₁ ⊖ y₀) ⊗ (x ⊖ x₀) ⊘ (x₁ ⊖ x₀)

-- it goes through its two points
pub record Through (x₀ y₀ x₁ y₁ : Exact) : Type 0 where
  pub fractions : (0 < (line x₀ y₀ x₁ y₁ x₀).den) × (0 < (line x₀ y₀ x₁ y₁ x₁).den)
  pub starts : line x₀ y₀ x₁ y₁ x₀ ≈ y₀
  pub ends : line x₀ y₀ x₁ y₁ x₁ ≈ y₁

-- THEOREM (proofs/Through.antt): so it is with any two points, the first before the second
abbrev pub LineTheorem : Type 0
LineTheorem = (x₀ y₀ x₁ y₁ : Exact) → 0 < x₀.den → 0 < y₀.den → 0 < x₁.den → 0 < y₁.den → x₀ ≺ x₁ → Through x₀ y₀ x₁ y₁
