-- Of a unit that is even nothing need be doubled: (2 n + 2 h − t) / 4 h and (n + h − t) / 2 h are the same downwards, for t 0 or 1.
-- Assumes nothing.
use mathlib.Core.Path.{◌≡◌}
use Prim.Native.Nat.{ℕ, ◌+◌, ◌*◌, ◌≤◌, ◌<◌}
use native.Mathlib.Nat.{lt_of_mul-lt-mul_right}
use native.Mathlib.Omega.{arith}
use lib.IntN.{ℤ, pos, ◌+ℤ◌, ◌-ℤ◌, ◌*ℤ◌}
use Rattle.exact.specs.Parts.{up, dn}
use Rattle.exact.specs.Rounding.{Tie, floor_div, taken, rounded}
use Rattle.exact.proofs.Integers.{add_parts, sub_parts, mul_parts, parts_eq}
use Rattle.exact.proofs.Floor.{Floor, floor_is}
use Rattle.exact.proofs.Rounded.{taken_most}

-- the quotient downwards is the only one
at_most : {a : ℤ} {m : ℕ} {q k : ℤ} → 0 < m → Floor a m q → Floor a m k → up q + dn k ≤ up k + dn q
at_most {m = m} {q} {k} h f g =
    let less : up q + dn k < up k + dn q + 1 = lt_of_mul-lt-mul_right m (omega (arith, f.low, g.high)) in
    omega arith

floor_unique : {a : ℤ} {m : ℕ} {q k : ℤ} → 0 < m → Floor a m q → Floor a m k → q ≡ k
floor_unique {q = q} {k} h f g = parts_eq q k (omega (arith, at_most h f g, at_most h g f))

pub halved :
    (n : ℤ) (h t : ℕ) → 0 < h → t ≤ 1 →
    floor_div (n +ℤ (pos h -ℤ pos t)) (2 * h) ≡ floor_div (pos 2 *ℤ n +ℤ (pos (2 * h) -ℤ pos t)) (2 * (2 * h))
halved n h t some few =
    let f = floor_is (n +ℤ (pos h -ℤ pos t)) (2 * h) (omega arith) in
    let doubled : Floor (pos 2 *ℤ n +ℤ (pos (2 * h) -ℤ pos t)) (2 * (2 * h)) (floor_div (n +ℤ (pos h -ℤ pos t)) (2 * h)) =
    omega (
      arith,
      f,
      add_parts n (pos h -ℤ pos t),
      sub_parts (pos h) (pos t),
      add_parts (pos 2 *ℤ n) (pos (2 * h) -ℤ pos t),
      sub_parts (pos (2 * h)) (pos t),
      mul_parts (pos 2) n,
    ) in
    floor_unique (omega arith) doubled (floor_is _ (2 * (2 * h)) (omega arith))

-- so the rounded number is this quotient
pub rounded_halved :
    (tie : Tie) (n : ℤ) (den unit : ℕ) → 0 < den * (500 * unit) →
    floor_div (n +ℤ (pos (den * (500 * unit)) -ℤ pos (taken tie))) (2 * (den * (500 * unit))) ≡ rounded tie (1000 * unit) (record { num = n; den = den })
unfolding rounded
rounded_halved tie n den unit some =
    let e : den * (1000 * unit) ≡ 2 * (den * (500 * unit)) = omega arith in
    rw e (halved n (den * (500 * unit)) (taken tie) some (taken_most tie))
