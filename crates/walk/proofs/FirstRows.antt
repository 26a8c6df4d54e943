-- The first row past a station that lies before the end is the one that the code finds, and no other row is.
-- Assumes nothing.
use mathlib.Core.Path.{◌≡◌}
use mathlib.Core.Logic.{◌↔◌}
use Prim.Native.Nat.{ℕ, ◌*◌, ◌≤◌, ◌<◌}
use native.Mathlib.Decide.{dec_lt}
use native.Mathlib.Omega.{arith}
use Rattle.exact.specs.Exact.{Exact, frac, whole, ◌≼◌, ◌≺◌, ◌≈◌}
use Rattle.exact.proofs.Order.{le_out, le_in, lt_out, lt_in, ≼_trans, ≈→≼, ≈-sym}
use Rattle.changes.proofs.Between.{≼-≺-trans}
use Rattle.card.specs.declared.Card.{Card}
use Rattle.runoff.specs.Rows.{station_of}
use Rattle.walk.specs.Fresh.{FirstPast}
use Rattle.walk.specs.Turns.{row_past, last_of}
use Rattle.walk.proofs.RowsPast.{rows_before}

-- a station may be written as another fraction
pub same_first : {card : Card} {z w : Exact} {i : ℕ} → 0 < z.den → 0 < w.den → z ≈ w → FirstPast card z i → FirstPast card w i
same_first p q e f =
    record {
      past = ≼-≺-trans q (≈→≼ (≈-sym e)) f.past;
      first = λ j h. ≼_trans p (f.first j h) (≈→≼ e);
    }

module _ (card : Card) (num den : ℕ) (apart : 1 ≤ card.step) (some : 1 ≤ den) (inside : num < den * card.clothoid) where
  abbrev row : ℕ
  row = row_past num den card.step (last_of card)

  stands : (i : ℕ) → (i < row) ↔ (den * station_of card i ≤ num)
  stands = rows_before card num den apart some inside

  -- the row that is found is the first past it
  pub found_first : FirstPast card (frac num den) row
  found_first = record { past = past (dec_lt num (den * station_of card row)); first = first }
    where
      past : Dec (num < den * station_of card row) → frac num den ≺ whole (station_of card row)
      past (yes h) = lt_in (omega arith)
      past (no h) = absurd (omega (arith, (stands row).1 (omega arith)))

      first : (j : ℕ) → j < row → whole (station_of card j) ≼ frac num den
      first j h = le_in (omega (arith, (stands j).0 h))

  -- and the first past it is found
  pub first_found : {i : ℕ} → FirstPast card (frac num den) i → i ≡ row
  first_found {i} f = omega (arith, not_before (dec_lt i row), not_after (dec_lt row i))
    where
      not_before : Dec (i < row) → row ≤ i
      not_before (yes h) = absurd (omega (arith, (stands i).0 h, lt_out f.past))
      not_before (no h) = omega arith

      not_after : Dec (row < i) → i ≤ row
      not_after (yes h) = absurd (omega (arith, (stands row).1 (omega (arith, le_out (f.first row h)))))
      not_after (no h) = omega arith
