-- The axis of an absolute card, split by the unit: height and grade times station are so many whole units and a rest below one.
-- Assumes nothing.
use mathlib.Core.Path.{◌≡◌, ap}
use Prim.Native.Nat.{ℕ, ◌*◌, ◌/◌, ◌≤◌}
use native.Mathlib.Nat.{mul-le-mul, mul-le-mul_left, div-mul-le_self, div-le_self}
use native.Mathlib.Omega.{arith}
use lib.IntN.{ℤ, pos, negsuc, nat_abs, ◌+ℤ◌, ◌*ℤ◌}
use mir.Syntax.{w32, w64}
use mir.Val.{SFits, to_z}
use Rattle.exact.specs.Exact.{whole, ◌⊕◌, ◌≈◌}
use Rattle.exact.specs.Rounding.{floor_div, units}
use Rattle.exact.specs.Parts.{up, dn}
use Rattle.exact.proofs.Integers.{add_parts, sub_parts, mul_parts, abs_parts, size_parts}
use Rattle.exact.proofs.Is.{is_self, is_one, is_sum, is_product, is_eq}
use Rattle.exact.proofs.Machine.{within_sfits, nat_back}
use Rattle.exact.proofs.Splits.{rest, Rest, rest_of, whole_number}
use Rattle.card.specs.Datum.{signed, surveyed_axis}
use Rattle.card.proofs.Surveys.{survey_sizes}
use Rattle.heights.specs.declared.axis.Axis.{Axis}
use Rattle.heights.specs.Heights.{AxisIs, Climbs}

-- ---- sizes
run_most : (g : ℤ) (d : ℕ) → nat_abs g ≤ 80 → d ≤ 330000 → nat_abs (g *ℤ pos d) ≤ 26400000
run_most g d h k =
    let a : up g * d ≤ 80 * 330000 = mul-le-mul {n₁ = up g} {n₂ = 80} (omega (arith, abs_parts g)) k in
    let b : dn g * d ≤ 80 * 330000 = mul-le-mul {n₁ = dn g} {n₂ = 80} (omega (arith, abs_parts g)) k in
    omega (arith, size_parts (g *ℤ pos d), mul_parts g (pos d))

climb_most : (z : ℤ) (m : ℕ) → 1000 ≤ m → nat_abs z ≤ 26400000 → nat_abs (floor_div z m) ≤ 26401
climb_most (pos a) m h k = omega (arith, div-mul-le_self a m, mul-le-mul_left (a / m) h)
climb_most (negsuc a) m h k = omega (arith, div-mul-le_self a m, mul-le-mul_left (a / m) h)

base_most : (z : ℤ) (m : ℕ) → nat_abs z ≤ 9000000 → nat_abs (floor_div z m) ≤ 9000000
base_most (pos a) m k = omega (arith, div-le_self a m)
base_most (negsuc a) m k = omega (arith, div-le_self a m)

small : (w : ℤ) → nat_abs w ≤ 100000000 → SFits w32 w
small w h = within_sfits w32 w (omega (arith, abs_parts w))

small_64 : (w : ℤ) → nat_abs w ≤ 1000000000000 → SFits w64 w
small_64 w h = within_sfits w64 w (omega (arith, abs_parts w))

-- the height h and the grade g, in units of u mm, at the station d
module _ (h g : ℤ) (u d : ℕ) (z : Climbs h g d u) where
  abbrev pub size : ℕ
  size = 1000 * u

  abbrev pub run : ℤ
  run = g *ℤ pos d

  abbrev pub climb : ℤ
  climb = floor_div run size

  abbrev pub left : ℤ
  left = rest run size

  abbrev pub base : ℤ
  base = floor_div h u

  abbrev pub count : ℤ
  count = base +ℤ climb

  pub split : Rest run size
  split = rest_of run size (omega (arith, z.unit_least))

  pub run_few : nat_abs run ≤ 26400000
  run_few = run_most g d (survey_sizes z.survey).steep z.d_most

  pub climb_few : nat_abs climb ≤ 26401
  climb_few = climb_most run size (omega (arith, z.unit_least)) run_few

  pub count_few : nat_abs count ≤ 10000000
  count_few =
      omega (arith, climb_few, base_most h u (survey_sizes z.survey).high, abs_parts climb, abs_parts base, size_parts count, add_parts base climb)

  whole_units : base *ℤ pos u ≡ h
  whole_units = whole_number h u z.unit_least z.survey.whole_units

  -- ---- each number on the way fits, so it is read back as it is
  pub d_back : to_z w64 d ≡ pos d
  d_back = nat_back w64 d (omega (arith, z.d_most))

  pub size_back : to_z w64 size ≡ pos size
  size_back = nat_back w64 size (omega (arith, z.unit_least, z.unit_most))

  pub run_fits : SFits w64 run
  run_fits = small_64 run (omega (arith, run_few))

  pub left_fits : SFits w64 left
  left_fits = within_sfits w64 left (omega (arith, split.few, ap dn split.natural, z.unit_least, z.unit_most))

  pub under_fits : SFits w64 (climb *ℤ pos size)
  under_fits =
      within_sfits w64 _
      (omega (arith, split.few, ap dn split.natural, run_few, abs_parts run, sub_parts run (climb *ℤ pos size), z.unit_least, z.unit_most))

  pub count_fits : SFits w32 count
  count_fits = small count (omega (arith, count_few))

  pub count_fits_64 : SFits w64 count
  count_fits_64 = small_64 count (omega (arith, count_few))

  split_is : units size count ⊕ whole (up left) ≈ surveyed_axis h g (whole d)
  split_is =
      is_eq
      (is_sum (is_self (units size count) (omega arith)) (is_one (up left)))
      (is_sum (is_self (signed (pos 1000 *ℤ h)) (omega arith)) (is_product (is_self (signed g) (omega arith)) (is_one d)))
      (omega (
        arith,
        mul_parts count (pos size),
        ap (λ (n : ℕ). n * size) (add_parts base climb),
        mul_parts (pos 1000) h,
        ap up whole_units,
        ap dn whole_units,
        mul_parts base (pos u),
        mul_parts climb (pos size),
        sub_parts run (climb *ℤ pos size),
        mul_parts g (pos d),
        ap dn split.natural,
      ))

  -- as the code holds it
  pub axis_is : (a : Axis) → a.count ≡ count → a.rest ≡ up left → a.unit ≡ u → AxisIs (surveyed_axis h g (whole d)) u a
  axis_is a e f k = record { fraction = omega arith; is = rw (e, f, k) split_is; unit = k }

  pub left_few : up left ≤ 337500
  left_few = omega (arith, split.few, z.unit_most)
