-- The row that is walked, from row to row.
-- Assumes nothing.
use mathlib.Core.Path.{◌≡◌, refl, ap}
use Prim.Native.Nat.{ℕ, ◌+◌}
use native.Mathlib.Numerals.{add-one}
use Rattle.walk.specs.declared.stepping.Walker.{Walker}
use Rattle.walk.specs.Stepping.{row_stepped, row_walked}

pub first_row : (w : Walker) → w ≡ row_walked 0 w
unfolding row_walked
first_row w = refl

pub next_row : (k : ℕ) (w : Walker) {row : Walker} → row ≡ row_walked k w → row_stepped row ≡ row_walked (k + 1) w
unfolding row_walked
next_row k w e = rw (add-one k) (ap row_stepped e)
