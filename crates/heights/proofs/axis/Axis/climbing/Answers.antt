-- `heights::axis::Axis::climbing` meets its contract. Each number on the way fits, so it is read back as it is.
-- Assumes nothing.
use mathlib.Core.Path.{◌≡◌, refl, ap, ap₂, ◌∙◌}
use Prim.Native.Nat.{ℕ, ◌*◌}
use native.Mathlib.Omega.{arith}
use lib.IntN.{ℤ, pos, nat_abs, ◌+ℤ◌, ◌-ℤ◌, ◌*ℤ◌}
use mir.Syntax.{w32, w64}
use mir.Val.{SFits, to_z, of_z}
use mir.Facts.{to_z-of_z}
use Rattle.exact.specs.Parts.{up}
use Rattle.exact.proofs.Machine.{back, fits_as}
use Rattle.rounding.specs.Nearest.{floor_of}
use Rattle.rounding.proofs.Sizes.{floor_of_lem}
use Rattle.heights.specs.Heights.{Climbs}
use Rattle.heights.proofs.AxisSplit as split
use Rattle.heights.proofs.axis.Axis.climbing.Goals as goal
use Rattle.heights.proofs.axis.Axis.climbing.Goals.{After-floor_div-climb, After-floor_div-base}

-- the climb, and what is left of it
module _ (c : After-floor_div-climb) where
  abbrev H₁ : ℤ
  H₁ = c.args.height

  abbrev G₁ : ℤ
  G₁ = c.args.grade

  abbrev U₁ : ℕ
  U₁ = c.args.unit

  abbrev D₁ : ℕ
  D₁ = c.args.d

  z₁ : Climbs H₁ G₁ D₁ U₁
  z₁ = c.requires

  run_is : to_z w64 (of_z w64 c.from.result) *ℤ to_z w64 D₁ ≡ split.run H₁ G₁ U₁ D₁ z₁
  run_is =
      ap₂ ◌*ℤ◌
      (to_z-of_z {w = w64} (record { sfits = c.from.type_inv }) ∙ c.from.ensures ∙ to_z-of_z c.ranges.grade)
      (split.d_back H₁ G₁ U₁ D₁ z₁)

  climb_is : to_z w64 (of_z w64 c.floor_div-climb.result) ≡ split.climb H₁ G₁ U₁ D₁ z₁
  climb_is =
      to_z-of_z {w = w64} (record { sfits = c.floor_div-climb.type_inv })
      ∙ c.floor_div-climb.ensures
      ∙ ap (λ (n : ℤ). floor_of n (1000 * U₁)) (back run_is (split.run_fits H₁ G₁ U₁ D₁ z₁))
      ∙ floor_of_lem (split.run H₁ G₁ U₁ D₁ z₁) (1000 * U₁) (omega (arith, z₁.unit_least)) (omega (arith, z₁.unit_most))

  under-is : to_z w64 (of_z w64 c.floor_div-climb.result) *ℤ to_z w64 (1000 * U₁) ≡ split.climb H₁ G₁ U₁ D₁ z₁ *ℤ pos (1000 * U₁)
  under-is = ap₂ ◌*ℤ◌ climb_is (split.size_back H₁ G₁ U₁ D₁ z₁)

  left_is :
      to_z w64 (of_z w64 (to_z w64 (of_z w64 c.from.result) *ℤ to_z w64 D₁))
      -ℤ to_z w64 (of_z w64 (to_z w64 (of_z w64 c.floor_div-climb.result) *ℤ to_z w64 (1000 * U₁)))
      ≡ split.left H₁ G₁ U₁ D₁ z₁
  left_is = ap₂ ◌-ℤ◌ (back run_is (split.run_fits H₁ G₁ U₁ D₁ z₁)) (back under-is (split.under_fits H₁ G₁ U₁ D₁ z₁))

  rest-is :
      to_z w64 (of_z w64 (
      to_z w64 (of_z w64 (to_z w64 (of_z w64 c.from.result) *ℤ to_z w64 D₁))
      -ℤ to_z w64 (of_z w64 (to_z w64 (of_z w64 c.floor_div-climb.result) *ℤ to_z w64 (1000 * U₁)))))
      ≡ pos (up (split.left H₁ G₁ U₁ D₁ z₁))
  rest-is = back left_is (split.left_fits H₁ G₁ U₁ D₁ z₁) ∙ (split.split H₁ G₁ U₁ D₁ z₁).natural

-- the count
module _ (c : After-floor_div-base) where
  abbrev before : After-floor_div-climb
  before = (goal.at.overflow_cast-count c).After-floor_div-climb

  abbrev count₂ : ℤ
  count₂ = split.count c.args.height c.args.grade c.args.unit c.args.d c.requires

  base_is : to_z w64 (of_z w64 c.floor_div-base.result) ≡ split.base c.args.height c.args.grade c.args.unit c.args.d c.requires
  base_is =
      to_z-of_z {w = w64} (record { sfits = c.floor_div-base.type_inv })
      ∙ c.floor_div-base.ensures
      ∙ ap (λ (n : ℤ). floor_of n c.args.unit)
      (to_z-of_z {w = w64} (record { sfits = c.from-2.type_inv }) ∙ c.from-2.ensures ∙ to_z-of_z c.ranges.height)
      ∙ floor_of_lem c.args.height c.args.unit c.requires.unit_least (omega (arith, c.requires.unit_most))

  sum_is : to_z w64 (of_z w64 c.floor_div-base.result) +ℤ to_z w64 (of_z w64 c.floor_div-climb.result) ≡ count₂
  sum_is = ap₂ ◌+ℤ◌ base_is (climb_is before)

  sum_fits : SFits w64 count₂
  sum_fits = split.count_fits_64 c.args.height c.args.grade c.args.unit c.args.d c.requires

  few : SFits w32 count₂
  few = split.count_fits c.args.height c.args.grade c.args.unit c.args.d c.requires

  count-is : to_z w64 (of_z w64 (to_z w64 (of_z w64 c.floor_div-base.result) +ℤ to_z w64 (of_z w64 c.floor_div-climb.result))) ≡ count₂
  count-is = back sum_is sum_fits

pub overflow_mul-rest : goal.overflow_mul-rest
overflow_mul-rest c = fits_as (under-is c) (split.under_fits _ _ _ _ (z₁ c))

pub overflow_sub-rest : goal.overflow_sub-rest
overflow_sub-rest c = fits_as (left_is c) (split.left_fits _ _ _ _ (z₁ c))

pub overflow_cast-rest-2 : goal.overflow_cast-rest-2
overflow_cast-rest-2 c =
    rw (rest-is c) (tt, record { fits = omega (arith, (split.split (H₁ c) (G₁ c) (U₁ c) (D₁ c) (z₁ c)).few, (z₁ c).unit_most) })

pub overflow_add-count : goal.overflow_add-count
overflow_add-count c = fits_as (sum_is c) (sum_fits c)

pub overflow_cast-count : goal.overflow_cast-count
overflow_cast-count c = fits_as (count-is c) (few c)

-- the axis's count, and its rest, as they are read back
count_at : (c : After-floor_div-base) → to_z w32 (of_z w32 (to_z w64 (of_z w64 (to_z w64 (of_z w64 c.floor_div-base.result) +ℤ to_z w64 (of_z w64 c.floor_div-climb.result))))) ≡ count₂ c
count_at c = back (count-is c) (few c)

pub invariant_of-result : goal.invariant_of-result
invariant_of-result c =
    record {
      rest_most = omega (arith, ap nat_abs (rest-is (before c)), split.left_few _ _ _ _ c.requires);
      count_most = rw (count_at c) (split.count_few _ _ _ _ c.requires);
      unit_least = c.requires.unit_least;
      unit_most = c.requires.unit_most;
    }

pub returns : goal.returns
returns c =
    let d = (goal.at.returns c).After-floor_div-base in
    split.axis_is c.args.height c.args.grade c.args.unit c.args.d c.requires _ (count_at d) (ap nat_abs (rest-is (before d))) refl
