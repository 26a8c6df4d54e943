-- The order of exact fractions: what it says of the natural parts of the numerators, and its laws.
-- Assumes nothing.
use mathlib.Core.Path.{◌≡◌}
use mathlib.Core.Bool.{true, false}
use mathlib.Core.Logic.{◌⊎◌, inl, inr}
use Prim.Native.Nat.{ℕ, ◌+◌, ◌*◌, ◌≤◌, ◌<◌}
use native.Mathlib.Nat.{mul-le-mul_right, mul-lt-mul_of_pos_right, le_of_mul-le-mul_left, lt_of_mul-lt-mul_left}
use native.Mathlib.Decide.{dec_le}
use native.Mathlib.Omega.{arith}
use lib.IntN.{pos, ◌*ℤ◌}
use Rattle.exact.specs.Exact.{Exact, ◌≼◌, ◌≺◌, ◌≈◌, at_most}
use Rattle.exact.specs.Parts.{up, dn}
use Rattle.exact.proofs.Integers.{ints, mul_parts, le_yes, le_no}

-- x is (above x − below x) / den
abbrev pub above : Exact → ℕ
above x = up x.num

abbrev pub below : Exact → ℕ
below x = dn x.num

-- the two sides of x ≼ y, each in natural numbers
abbrev pub left : Exact → Exact → ℕ
left x y = above x * y.den + below y * x.den

abbrev pub right : Exact → Exact → ℕ
right x y = above y * x.den + below x * y.den

-- a numerator times a denominator
cross : (x : Exact) (n : ℕ) → up (x.num *ℤ pos n) + below x * n ≡ above x * n + dn (x.num *ℤ pos n)
cross x n = omega (arith, mul_parts x.num (pos n))

module _ {x y : Exact} where
  pub le_out : x ≼ y → left x y ≤ right x y
  le_out h = omega (arith, ints, h.le, cross x y.den, cross y x.den)

  pub le_in : left x y ≤ right x y → x ≼ y
  le_in h = record { le = omega (arith, ints, cross x y.den, cross y x.den) }

  pub lt_out : x ≺ y → left x y < right x y
  lt_out h = omega (arith, ints, h.lt, cross x y.den, cross y x.den)

  pub lt_in : left x y < right x y → x ≺ y
  lt_in h = record { lt = omega (arith, ints, cross x y.den, cross y x.den) }

  pub eq_out : x ≈ y → left x y ≡ right x y
  eq_out h = omega (arith, ints, h.eq, cross x y.den, cross y x.den)

  pub eq_in : left x y ≡ right x y → x ≈ y
  eq_in h = record { eq = omega (arith, ints, cross x y.den, cross y x.den) }

  -- the test of the order
  pub at_most_yes : at_most x y ≡ true → x ≼ y
  at_most_yes e = le_in (omega (arith, le_yes (x.num *ℤ pos y.den) (y.num *ℤ pos x.den) e, cross x y.den, cross y x.den))

  pub at_most_no : at_most x y ≡ false → y ≺ x
  at_most_no e = record { lt = omega (arith, ints, le_no (x.num *ℤ pos y.den) (y.num *ℤ pos x.den) e) }

-- ---- the laws of the order; what stands in the middle, or at a strict end, is over a number above 0
pub ≼_refl : (x : Exact) → x ≼ x
≼_refl x = le_in (omega arith)

pub ≼_trans : {x y z : Exact} → 0 < y.den → x ≼ y → y ≼ z → x ≼ z
≼_trans {x} {y} {z} d a b =
    le_in (le_of_mul-le-mul_left {k = y.den} (omega (arith, mul-le-mul_right z.den (le_out a), mul-le-mul_right x.den (le_out b))) d)

pub ≺-≼-trans : {x y z : Exact} → 0 < z.den → x ≺ y → y ≼ z → x ≺ z
≺-≼-trans {x} {y} {z} d a b =
    lt_in (lt_of_mul-lt-mul_left y.den (omega (arith, mul-lt-mul_of_pos_right (lt_out a) d, mul-le-mul_right x.den (le_out b))))

pub ≼-antisym : {x y : Exact} → x ≼ y → y ≼ x → x ≈ y
≼-antisym a b = eq_in (omega (arith, le_out a, le_out b))

pub ≺→≼ : {x y : Exact} → x ≺ y → x ≼ y
≺→≼ a = le_in (omega (arith, lt_out a))

pub ≈→≼ : {x y : Exact} → x ≈ y → x ≼ y
≈→≼ e = le_in (omega (arith, eq_out e))

pub ≈-sym : {x y : Exact} → x ≈ y → y ≈ x
≈-sym e = eq_in (omega (arith, eq_out e))

pub clash : {x y : Exact} → x ≺ y → y ≼ x → ⊥
clash a b = omega (arith, lt_out a, le_out b)

-- x is at most y, or y below x
pub ask : (x y : Exact) → (x ≼ y) ⊎ (y ≺ x)
ask x y = go (dec_le (left x y) (right x y))
  where
    go : Dec (left x y ≤ right x y) → (x ≼ y) ⊎ (y ≺ x)
    go (yes h) = inl (le_in h)
    go (no h) = inr (lt_in (omega arith))
