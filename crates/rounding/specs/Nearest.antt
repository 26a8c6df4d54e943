-- The function that rounds: for which sizes, and what it gives beyond them.
-- Assumes nothing.
use Rattle.std.specs.Prelude.{◌≡◌, Bool, cond, ◌&&◌, ℕ, ◌*◌, ◌≤◌, ◌<◌, leb, ltb, ℤ, pos, neg_ℤ, ◌-ℤ◌}
use Rattle.std.specs.Int.Signed.{mag}
use Rattle.exact.specs.Rounding.{Tie, lower, higher, floor_div, rounded}
use Rattle.rounding.specs.declared.Tie.{Tie as TieRule}
use Rattle.rounding.specs.declared.Tie.TheVariants.{Lower, Higher}

-- the rule that the code's enum names
abbrev pub tie_of : TieRule → Tie
tie_of Lower = lower
tie_of Higher = higher

-- ---- the sizes that 64 bits take
-- the greatest denominator, 2^38: the inner heights of a row have the greatest, up to 300000 × 900000
abbrev pub most_over : ℕ
most_over = 274877906944

-- how far from nought a number may lie, 2^22 micrometres, some 4 metres: so numerators stay within 2^60, and counts fit 32 bits
abbrev pub reach : ℕ
reach = 4194304

-- num/den is to be rounded, from −reach to below reach micrometres; the unit is in mm
-- (mag num is num, or −1 − num below nought; nothing is within reach where den is 0)
pub record Roundable (num : ℤ) (den unit : ℕ) : Type 0 where
  pub few : den ≤ most_over
  pub unit_least : 1 ≤ unit
  pub unit_most : unit ≤ 10
  pub near : mag num < reach * den

-- the test of it
abbrev pub roundable : ℤ → ℕ → ℕ → Bool
roundable num den unit = leb den most_over && leb 1 unit && leb unit 10 && ltb (mag num) (reach * den)

-- the same in natural parts: what is to be rounded is (a − b)/d, where a/d and b/d are within reach; the unit u is in mm
pub record Sized (a b d u : ℕ) : Type 0 where
  pub some : 0 < d
  pub few : d ≤ most_over
  pub high : a < reach * d
  pub low : b < reach * d
  pub unit : 1 ≤ u
  pub units : u ≤ 10

-- THEOREM (proofs/Parts.antt): parts of these sizes have a difference of those
abbrev pub SizedTheorem : Type 0
SizedTheorem = (a b d u : ℕ) → Sized a b d u → Roundable (pos a -ℤ pos b) d u

-- ---- what it gives
-- num/den micrometres in counts of the unit, which is in mm; beyond the sizes 0
unfoldable pub nearest_of : Tie → ℕ → ℤ → ℕ → ℤ
nearest_of tie unit num den = cond (roundable num den unit) (rounded tie (1000 * unit) (record { num = num; den = den })) (pos 0)

-- within the sizes it is the rounded number, beyond them nought
pub record NearestLaws (tie : Tie) (num : ℤ) (den unit : ℕ) : Type 0 where
  pub within : Roundable num den unit → nearest_of tie unit num den ≡ rounded tie (1000 * unit) (record { num = num; den = den })
  pub beyond : ¬ Roundable num den unit → nearest_of tie unit num den ≡ pos 0

-- THEOREM (proofs/Sizes.antt): so it is with either rule, every number and every unit
abbrev pub NearestTheorem : Type 0
NearestTheorem = (tie : Tie) (num : ℤ) (den unit : ℕ) → NearestLaws tie num den unit

-- ---- the division alone
-- the greatest divisor, 2^63 − 1
abbrev pub most_divisor : ℕ
most_divisor = 9223372036854775807

-- a/m rounded down, for a divisor from 1 to the greatest; else 0
unfoldable pub floor_of : ℤ → ℕ → ℤ
floor_of a m = cond (leb 1 m && leb m most_divisor) (floor_div a m) (pos 0)

-- THEOREM (proofs/Sizes.antt): for such a divisor it is the quotient downwards
abbrev pub FloorTheorem : Type 0
FloorTheorem = (a : ℤ) (m : ℕ) → 1 ≤ m → m ≤ most_divisor → floor_of a m ≡ floor_div a m

-- ---- readings
-- halfway, above nought and below, in mm and cm, by the rule that the code's enum names: 172.5 and −67.5 mm, 22.5 and −22.5 cm
-- THEOREM (proofs/Readings.antt)
pub record HalfwayReadings : Type 0 where
  pub lower_mm : nearest_of (tie_of Lower) 1 (pos 345000) 2 ≡ pos 172
  pub lower_mm_below : nearest_of (tie_of Lower) 1 (neg_ℤ (pos 135000)) 2 ≡ neg_ℤ (pos 68)
  pub lower_cm : nearest_of (tie_of Lower) 10 (pos 225000) 1 ≡ pos 22
  pub lower_cm_below : nearest_of (tie_of Lower) 10 (neg_ℤ (pos 225000)) 1 ≡ neg_ℤ (pos 23)
  pub higher_mm : nearest_of (tie_of Higher) 1 (pos 345000) 2 ≡ pos 173
  pub higher_mm_below : nearest_of (tie_of Higher) 1 (neg_ℤ (pos 135000)) 2 ≡ neg_ℤ (pos 67)
  pub higher_cm : nearest_of (tie_of Higher) 10 (pos 225000) 1 ≡ pos 23
  pub higher_cm_below : nearest_of (tie_of Higher) 10 (neg_ℤ (pos 225000)) 1 ≡ neg_ℤ (pos 22)
  -- a denominator of 0, and one micrometre too far
  pub no_denominator : nearest_of lower 1 (pos 0) 0 ≡ pos 0
  pub farthest : nearest_of lower 1 (pos 4194303) 1 ≡ pos 4194
  pub too_far : nearest_of lower 1 (pos 4194304) 1 ≡ pos 0
