-- What is rounded, in natural parts: the difference of parts that have the sizes is within them, and is rounded as any fraction that it equals.
-- Assumes nothing.
use mathlib.Core.Path.{◌≡◌, ap₂}
use Prim.Native.Nat.{ℕ, ◌*◌}
use native.Mathlib.Omega.{arith}
use lib.IntN.{pos, ◌-ℤ◌}
use mir.Syntax.{w64}
use mir.Val.{SFits, to_z}
use Rattle.exact.specs.Exact.{Exact, ratio}
use Rattle.exact.specs.Parts.{Is}
use Rattle.exact.specs.Rounding.{Tie, rounded}
use Rattle.exact.proofs.Integers.{ints, sub_parts, size_parts}
use Rattle.exact.proofs.Is.{is_ratio, is_same}
use Rattle.exact.proofs.Machine.{within_sfits, nat_back}
use Rattle.exact.proofs.Rounded.{rounding_laws}
use Rattle.rounding.specs.Nearest.{Sized, SizedTheorem, nearest_of}
use Rattle.rounding.proofs.Sizes.{mag_most, nearest_laws}

pub sized_roundable : SizedTheorem
sized_roundable a b d u z =
    let num = pos a -ℤ pos b in
    record {
      few = z.few;
      unit_least = z.unit;
      unit_most = z.units;
      near = omega (arith, z.high, z.low, mag_most num, size_parts num, sub_parts (pos a) (pos b));
    }

module _ {a b d u : ℕ} (z : Sized a b d u) where
  -- the parts as signed 64-bit numbers, and their difference
  pub parts_back : to_z w64 a -ℤ to_z w64 b ≡ pos a -ℤ pos b
  parts_back = ap₂ ◌-ℤ◌ (nat_back w64 a (omega (arith, z))) (nat_back w64 b (omega (arith, z)))

  pub difference_fits : SFits w64 (pos a -ℤ pos b)
  difference_fits = within_sfits w64 (pos a -ℤ pos b) (omega (arith, ints, z, sub_parts (pos a) (pos b)))

  -- it is given as it is rounded
  pub given_rounded : (tie : Tie) → nearest_of tie u (pos a -ℤ pos b) d ≡ rounded tie (1000 * u) (ratio a b d)
  given_rounded tie = (nearest_laws tie (pos a -ℤ pos b) d u).within (sized_roundable a b d u z)

-- x is (a − b)/d, which can be rounded to units of u mm
pub record Line (x : Exact) (a b d u : ℕ) : Type 0 where
  pub is : Is x a b d
  pub sized : Sized a b d u

-- and is rounded as its parts are
pub counted : (tie : Tie) {x : Exact} {a b d u : ℕ} → Line x a b d u → rounded tie (1000 * u) (ratio a b d) ≡ rounded tie (1000 * u) x
counted tie {x} {a} {b} {d} {u} f =
    let parts = is_ratio a b d f.is.over in
    (rounding_laws tie (1000 * u) (omega (arith, f.sized.unit))).same (ratio a b d) x f.is.over f.is.proper (is_same parts f.is)
