-- The test of the sizes is what `Roundable` says, and within them the number is the rounded one.
-- Assumes nothing.
use mathlib.Core.Path.{◌≡◌, refl, ap}
use mathlib.Core.Bool.{Bool, true, false, cond, ◌&&◌, false≢true}
use Prim.Native.Nat.{ℕ, ◌+◌, ◌*◌, ◌≤◌}
use native.Mathlib.Omega.{arith}
use lib.Dec.{leb}
use lib.IntN.{ℤ, pos, negsuc, nat_abs}
use lib.Signed.{mag}
use borrow.Author.Tests.{leb-true, ltb-true, le-leb, lt-ltb}
use Rattle.exact.specs.Rounding.{Tie, rounded}
use Rattle.exact.specs.Parts.{up, dn}
use Rattle.exact.proofs.Integers.{abs_parts}
use Rattle.exact.proofs.Rounded.{rounded_size}
use Rattle.rounding.specs.Nearest.{most_over, Roundable, roundable, nearest_of, NearestTheorem, most_divisor, floor_of, FloorTheorem}

both : (a b : Bool) → (a && b) ≡ true → (a ≡ true) × (b ≡ true)
both true b e = (refl, e)
both false b e = absurd (false≢true e)

not_so : {A : Type 0} (t : Bool) → (t ≡ true → A) → ¬ A → t ≡ false
not_so true f never = absurd (never (f refl))
not_so false f never = refl

-- what a size says of the parts
pub mag_parts : (z : ℤ) → up z + dn z ≤ mag z + 1
mag_parts (pos n) = omega arith
mag_parts (negsuc n) = omega arith

pub mag_most : (z : ℤ) → mag z ≤ nat_abs z
mag_most (pos n) = omega arith
mag_most (negsuc n) = omega arith

module _ {num : ℤ} {den unit : ℕ} where
  test_holds : Roundable num den unit → roundable num den unit ≡ true
  test_holds z = simp (le-leb _ _ z.few, le-leb _ _ z.unit_least, le-leb _ _ z.unit_most, lt-ltb _ _ z.near)

  holds_test : roundable num den unit ≡ true → Roundable num den unit
  holds_test e =
      let e₃ = both (leb den most_over && leb 1 unit && leb unit 10) _ e in
      let e₂ = both (leb den most_over && leb 1 unit) _ e₃.0 in
      let e₁ = both (leb den most_over) _ e₂.0 in
      record {
        few = leb-true _ _ e₁.0;
        unit_least = leb-true _ _ e₁.1;
        unit_most = leb-true _ _ e₂.1;
        near = ltb-true _ _ e₃.1;
      }

  test_fails : ¬ Roundable num den unit → roundable num den unit ≡ false
  test_fails = not_so (roundable num den unit) holds_test

pub nearest_laws : NearestTheorem
unfolding nearest_of
nearest_laws tie num den unit =
    let given : Bool → ℤ = λ t. cond t (rounded tie (1000 * unit) (record { num = num; den = den })) (pos 0) in
    record { within = λ z. ap given (test_holds z); beyond = λ never. ap given (test_fails never) }

-- what is given is never farther from nought than the reach, in the smallest unit
module _ (tie : Tie) (unit : ℕ) (num : ℤ) (den : ℕ) where
  rounded_few : Roundable num den unit → nat_abs (rounded tie (1000 * unit) (record { num = num; den = den })) ≤ 4194304
  rounded_few z =
      rounded_size tie (omega (arith, z.unit_least)) (record { num = num; den = den }) (omega (arith, z.near)) 4194304
      (omega (arith, z.near, mag_parts num, abs_parts num))

  pub nearest_few : nat_abs (nearest_of tie unit num den) ≤ 4194304
  unfolding nearest_of
  nearest_few = go (roundable num den unit) holds_test
    where
      go :
          (t : Bool) → (t ≡ true → Roundable num den unit) →
          nat_abs (cond t (rounded tie (1000 * unit) (record { num = num; den = den })) (pos 0)) ≤ 4194304
      go true f = rounded_few (f refl)
      go false f = omega arith

pub floor_of_lem : FloorTheorem
unfolding floor_of
floor_of_lem a m low high = simp (le-leb 1 m low, le-leb m most_divisor high)
