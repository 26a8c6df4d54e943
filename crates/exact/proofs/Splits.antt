-- What division downwards leaves: from 0 up to the divisor, and nothing where the number is a multiple of it, below nought too.
-- Assumes nothing.
use mathlib.Core.Path.{◌≡◌, ap}
use Prim.Native.Nat.{ℕ, suc, ◌+◌, ◌*◌, ◌/◌, ◌%◌, ◌≤◌, ◌<◌}
use native.Mathlib.Nat.{div-add-mod, le_of_mul-le-mul_right, lt_of_mul-lt-mul_right}
use native.Mathlib.Omega.{arith}
use lib.IntN.{ℤ, pos, negsuc, nat_abs, ◌-ℤ◌, ◌*ℤ◌}
use Rattle.exact.specs.Parts.{up, dn}
use Rattle.exact.specs.Rounding.{floor_div}
use Rattle.exact.proofs.Integers.{sub_parts, mul_parts, parts_eq, is_pos}
use Rattle.exact.proofs.Floor.{floor_is}

-- what is left of z
abbrev pub rest : ℤ → ℕ → ℤ
rest z m = z -ℤ floor_div z m *ℤ pos m

pub record Rest (z : ℤ) (m : ℕ) : Type 0 where
  pub natural : rest z m ≡ pos (up (rest z m))
  pub few : up (rest z m) < m

pub rest_of : (z : ℤ) (m : ℕ) → 0 < m → Rest z m
rest_of z m h =
    let f = floor_is z m h in
    let q = mul_parts (floor_div z m) (pos m) in
    let r = sub_parts z (floor_div z m *ℤ pos m) in
    let is : rest z m ≡ pos (up (rest z m)) = is_pos (rest z m) (omega arith) in
    record { natural = is; few = omega (arith, f, q, r, ap dn is) }

-- a number whose size leaves nothing over is a multiple
multiple : (q k m : ℕ) → 0 < m → k * m ≤ q * m → q * m < m + k * m → q ≡ k
multiple q k m h f g =
    let low : k ≤ q = le_of_mul-le-mul_right f h in
    let high : q < k + 1 = lt_of_mul-lt-mul_right m (omega arith) in
    omega arith

pub whole_number : (z : ℤ) (m : ℕ) → 0 < m → nat_abs z % m ≡ 0 → floor_div z m *ℤ pos m ≡ z
whole_number (pos a) m p e = parts_eq _ _ (omega (arith, div-add-mod a m, mul_parts (pos (a / m)) (pos m)))
whole_number (negsuc a) m p e =
    let k = suc a / m in
    let q = suc (a / m) in
    let size : m * k ≡ suc a = omega (arith, div-add-mod (suc a) m) in
    let f = floor_is (negsuc a) m p in
    let same : q ≡ k = multiple q k m p (omega (arith, f.low)) (omega (arith, f.high)) in
    parts_eq _ _ (omega (arith, mul_parts (negsuc (a / m)) (pos m), ap (λ (n : ℕ). n * m) same))
