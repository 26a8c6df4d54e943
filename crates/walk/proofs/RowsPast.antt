-- Row by row: a row comes before the first row past a station exactly when it stands at most there.
-- Assumes nothing.
use mathlib.Core.Path.{◌≡◌}
use mathlib.Core.Logic.{◌↔◌}
use Prim.Native.Nat.{ℕ, ◌+◌, ◌*◌, ◌/◌, ◌≤◌, ◌<◌}
use native.Mathlib.Nat.{le-div_iff_mul-le, mul-le-mul_left, lt_of_mul-lt-mul_left}
use native.Mathlib.Omega.{arith}
use Rattle.card.specs.declared.Card.{Card}
use Rattle.card.specs.Rows.{multiples_below, station_to}
use Rattle.card.proofs.RowPlaces.{counts_multiples, station_is_least}
use Rattle.runoff.specs.Rows.{station_of}
use Rattle.walk.specs.Turns.{row_past, last_of}

-- the station num/den lies before the end L
module _ (L step num den : ℕ) (apart : 1 ≤ step) (some : 1 ≤ den) (inside : num < den * L) where
  abbrev last : ℕ
  last = multiples_below L step

  -- a row at i × step stands at most there exactly when it comes before the first row past it
  multiple_at_most : (i : ℕ) → (i < multiples_below (num / den + 1) step) ↔ (den * (i * step) ≤ num)
  multiple_at_most i = (below, before)
    where
      below : i < multiples_below (num / den + 1) step → den * (i * step) ≤ num
      below h =
          let at : i * step < num / den + 1 = (counts_multiples (num / den + 1) step i apart).0 h in
          let fits : i * step * den ≤ num = (le-div_iff_mul-le some).0 (omega arith) in
          omega arith

      before : den * (i * step) ≤ num → i < multiples_below (num / den + 1) step
      before h =
          let at : i * step ≤ num / den = (le-div_iff_mul-le some).1 (omega arith) in
          (counts_multiples (num / den + 1) step i apart).1 (omega arith)

  -- row i, wherever it is
  pub row_before : (i : ℕ) → (i < row_past num den step last) ↔ (den * station_to L step i ≤ num)
  unfolding row_past
  row_before i = (stands, comes)
    where
      stands : i < row_past num den step last → den * station_to L step i ≤ num
      stands h =
          let at_most : den * (i * step) ≤ num = (multiple_at_most i).0 (omega arith) in
          let least : station_to L step i ≤ i * step = omega (arith, station_is_least L step i) in
          omega (arith, mul-le-mul_left den least)

      comes : den * station_to L step i ≤ num → i < row_past num den step last
      comes h =
          let before_end : station_to L step i < L = lt_of_mul-lt-mul_left den (omega arith) in
          let multiple : station_to L step i ≡ i * step = omega (arith, station_is_least L step i) in
          let turned : i < last = (counts_multiples L step i apart).1 (omega arith) in
          let at_most : i < multiples_below (num / den + 1) step = (multiple_at_most i).1 (rw multiple at h) in
          omega arith

-- row i of a card
pub rows_before :
    (card : Card) (num den : ℕ) → 1 ≤ card.step → 1 ≤ den → num < den * card.clothoid → (i : ℕ) →
    (i < row_past num den card.step (last_of card)) ↔ (den * station_of card i ≤ num)
rows_before card num den apart some inside i =
    let last : last_of card ≡ multiples_below card.clothoid card.step = omega arith in
    rw last (row_before card.clothoid card.step num den apart some inside i)
