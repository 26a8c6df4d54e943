-- The count of rows before the last counts the multiples of the step below the length, and no other; and the rows' stations rise to the length.
-- Assumes nothing.
use mathlib.Core.Path.{◌≡◌, refl}
use mathlib.Core.Bool.{Bool, true, false, cond}
use Prim.Native.Nat.{ℕ, suc, min, ◌+◌, ◌*◌, ◌-◌, ◌≤◌, ◌<◌}
use native.Mathlib.Nat.{le-div_iff_mul-le, suc-mul, mul-le-mul_right}
use native.Mathlib.Decide.{dec_lt}
use native.Mathlib.Omega.{arith}
use lib.Dec.{ltb}
use borrow.Author.Tests.{ltb-true, ltb-false}
use Rattle.card.specs.Rows.{multiples_below, CountsMultiples, rows_to, station_to}

pub counts_multiples : CountsMultiples
counts_multiples L step i some = (below, counted) where
  below : i < multiples_below L step → i * step < L
  below h =
      let fits : suc i * step ≤ L + (step - 1) = (le-div_iff_mul-le some).0 h in
      omega (arith, suc-mul i step)

  counted : i * step < L → i < multiples_below L step
  counted h = (le-div_iff_mul-le some).1 (omega (arith, suc-mul i step))

-- no more than n + 1 rows, where n steps reach L
pub count_most : (L step n : ℕ) → L ≤ n * step → 0 < step → rows_to L step ≤ n + 1
count_most L step n far some = go (dec_lt n (multiples_below L step))
  where
    go : Dec (n < multiples_below L step) → rows_to L step ≤ n + 1
    go (yes h) = absurd (omega (arith, (counts_multiples L step n some).0 h))
    go (no h) = omega arith

-- i × step or L, whichever is less
capped : (b : Bool) (n L : ℕ) → ltb n L ≡ b → cond b n L ≡ min n L
capped true n L e = let h = ltb-true n L e in omega arith
capped false n L e = let h = ltb-false n L e in omega arith

module _ (L step : ℕ) where
  pub station_is_least : (i : ℕ) → station_to L step i ≡ min (i * step) L
  station_is_least i = capped _ (i * step) L refl

  -- no row stands past the end, and no later one before an earlier one
  pub station_most : (i : ℕ) → station_to L step i ≤ L
  station_most i = omega (arith, station_is_least i)

  pub station_rises : (i j : ℕ) → i ≤ j → station_to L step i ≤ station_to L step j
  station_rises i j h = omega (arith, station_is_least i, station_is_least j, mul-le-mul_right step h)

  -- and each later row is farther
  pub station_farther : (i j : ℕ) → 0 < step → i < j → j < rows_to L step → station_to L step i < station_to L step j
  station_farther i j some h g =
      let below : i * step < L = (counts_multiples L step i some).0 (omega arith) in
      let further : suc i * step ≤ j * step = mul-le-mul_right step h in
      omega (arith, station_is_least i, station_is_least j, suc-mul i step)
