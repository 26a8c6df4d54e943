-- Division downwards leaves a remainder from 0 up to the divisor, below nought too.
-- Assumes nothing.
use mathlib.Core.Path.{◌≡◌, refl}
use Prim.Native.Nat.{ℕ, ◌+◌, ◌*◌, ◌≤◌, ◌<◌}
use native.Mathlib.Nat.{div-mul-le_self, lt-div-mul-add}
use native.Mathlib.Omega.{arith}
use lib.IntN.{ℤ, pos, negsuc}
use Rattle.exact.specs.Rounding.{floor_div}
use Rattle.exact.specs.Parts.{up, dn}

-- a worked value: −½ goes to −1
minus_half : floor_div (negsuc 0) 2 ≡ negsuc 0
minus_half = refl

-- q m ≤ a < q m + m, of the integers' parts
pub record Floor (a : ℤ) (m : ℕ) (q : ℤ) : Type 0 where
  pub low : up q * m + dn a ≤ up a + dn q * m
  pub high : up a + dn q * m < up q * m + m + dn a

pub floor_is : (a : ℤ) (m : ℕ) → 0 < m → Floor a m (floor_div a m)
floor_is (pos a) m h = omega (arith, div-mul-le_self a m, lt-div-mul-add {a = a} h)
floor_is (negsuc a) m h = omega (arith, div-mul-le_self a m, lt-div-mul-add {a = a} h)
