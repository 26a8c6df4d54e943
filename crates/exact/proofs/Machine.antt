-- Signed machine numbers: which integers fit a width, and what is read back of a result.
-- Assumes nothing.
use mathlib.Core.Path.{◌≡◌, refl, sym, ap, ◌∙◌, subst}
use mathlib.Core.Bool.{Bool, true, false, not}
use Prim.Native.Nat.{ℕ, ◌+◌, ◌^◌, ◌≤◌, ◌<◌}
use native.Mathlib.Omega.{arith}
use lib.Dec.{T}
use lib.IntN.{ℤ, pos, negsuc}
use lib.Signed.{mag, lt_z, ◌≤ℤ◌, ◌<ℤ◌, lt_z_no}
use mir.Syntax.{Width}
use mir.Val.{hbits, SFits, to_z, of_z}
use mir.Facts.{to_z-of_z}
use Rattle.exact.specs.Parts.{up, dn}

-- the range of a width: two bounds in one record, which `omega` proves field by field
pub record Within (z : ℤ) (k : ℕ) : Type 0 where
  pub most : up z < k + dn z
  pub least : dn z ≤ k + up z

pub within_sfits : (w : Width) (z : ℤ) → Within z (2 ^ hbits w) → SFits w z
within_sfits w (pos n) h = record { sfits = omega (arith, h.most) }
within_sfits w (negsuc n) h = record { sfits = omega (arith, h.least) }

-- what `SFits` says of the parts, for `omega`'s list: `bounds f`
pub record Bounds (z : ℤ) (k : ℕ) : Type 0 where
  pub most : up z < k
  pub least : dn z ≤ k

pub bounds : {w : Width} {z : ℤ} → SFits w z → Bounds z (2 ^ hbits w)
bounds {z = pos n} f = record { most = f.sfits; least = omega arith }
bounds {z = negsuc n} f = record { most = omega (arith, f.sfits); least = f.sfits }

-- ---- what the machine reads back: z is what was computed, z' its plain value
pub back : {w : Width} {z z' : ℤ} → z ≡ z' → SFits w z' → to_z w (of_z w z) ≡ z'
back {w} {z} {z'} e f = ap (λ (y : ℤ). to_z w (of_z w y)) e ∙ to_z-of_z f

pub fits_as : {w : Width} {z z' : ℤ} → z ≡ z' → SFits w z' → SFits w z
fits_as {w} e f = subst (SFits w) (sym e) f

-- a cast from an unsigned type to a signed one: n is below half the power
pub nat_back : (w : Width) (n : ℕ) → n < 2 ^ hbits w → to_z w n ≡ pos n
nat_back w n h = to_z-of_z {w = w} {z = pos n} (record { sfits = h })

-- what a test `a < b` of two signed numbers leaves, where each fits
module _ {w : Width} {a b : ℤ} (f : SFits w a) (g : SFits w b) where
  tested : {t : Bool} → lt_z (to_z w (of_z w a)) (to_z w (of_z w b)) ≡ t → t ≡ lt_z a b
  tested e = sym e ∙ ap (λ (z : ℤ). lt_z z (to_z w (of_z w b))) (to_z-of_z f) ∙ ap (lt_z a) (to_z-of_z g)

  pub test_lt : lt_z (to_z w (of_z w a)) (to_z w (of_z w b)) ≡ true → a <ℤ b
  test_lt e = record { lt = subst T (tested e) tt }

  pub test_not_lt : lt_z (to_z w (of_z w a)) (to_z w (of_z w b)) ≡ false → b ≤ℤ a
  test_not_lt e = lt_z_no (subst (λ (t : Bool). T (not t)) (tested e) tt)

-- a number below zero
pub is_neg : (z : ℤ) → up z < dn z → z ≡ negsuc (mag z)
is_neg (pos n) h = absurd (omega arith)
is_neg (negsuc n) h = refl
