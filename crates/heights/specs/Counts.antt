-- One height in counts of the unit, for every four numbers.
-- Assumes nothing.
use Rattle.std.specs.Prelude.{◌≡◌, ℕ, ◌+◌, ◌-◌, ◌%◌, ◌^◌, ℤ}
use Rattle.std.specs.Int.{w64, cast_signed}
use Rattle.exact.specs.Exact.{ratio}
use Rattle.rounding.specs.Nearest.{Sized, nearest_of}
use Rattle.card.specs.Rows.{tie, in_units}

-- up less down as a signed 64-bit number, which wraps where 64 bits do not hold it
unfoldable pub net : ℕ → ℕ → ℤ
net up down = cast_signed w64 ((up + (2 ^ 64 - down)) % 2 ^ 64)

-- (up − down)/over micrometres in counts of the unit, which is in mm; beyond the sizes that 64 bits take it is 0, or what the wrapped difference gives
unfoldable pub count_of : ℕ → ℕ → ℕ → ℕ → ℤ
count_of up down over unit = nearest_of (tie unit) unit (net up down) over

-- THEOREM (proofs/Counts.antt): within the sizes it is the rounded number
abbrev pub CountTheorem : Type 0
CountTheorem = (up down over unit : ℕ) → Sized up down over unit → count_of up down over unit ≡ in_units unit (ratio up down over)
