-- A number that is walked: how it is made, its step, and what it has after any count of steps.
-- Assumes nothing.
use Rattle.std.specs.Prelude.{◌≡◌, ℕ, zero, suc, ◌+◌, ◌*◌, ◌%◌, ◌^◌, ◌≤◌, ◌<◌, ℤ, pos, nat_abs, ◌+ℤ◌, ◌-ℤ◌}
use Rattle.std.specs.Int.{w32, cast_signed}
use Rattle.exact.specs.Exact.{ratio}
use Rattle.exact.specs.Rounding.{Tie, taken, floor_div, rounded}
use Rattle.walking.specs.declared.Parts.{Parts}
use Rattle.walking.specs.declared.Curve.{Curve}
use Rattle.walking.specs.Mixed.{kept_count, split_of, sum}

-- a curve with this value, rise and bend over m
unfoldable pub curve_of : Parts → Parts → Parts → ℕ → Curve
curve_of at rise bend m = record { at = split_of at m; rise = split_of rise m; bend = split_of bend m; over = m }

-- the same, n whole counts higher
unfoldable pub lifted : ℤ → Curve → Curve
lifted n c =
    record {
      at = record { count = (c.at.count + kept_count n) % 2 ^ 32; rest = c.at.rest };
      rise = c.rise;
      bend = c.bend;
      over = c.over;
    }

-- one row on: the value gains its rise, and the rise gains its bend
unfoldable pub stepped : Curve → Curve
stepped c = record { at = sum c.over c.at c.rise; rise = sum c.over c.rise c.bend; bend = c.bend; over = c.over }

-- k rows on
unfoldable pub walked : ℕ → Curve → Curve
walked zero c = c
walked (suc k) c = stepped (walked k c)

-- its whole counts
abbrev pub number : Curve → ℤ
number c = cast_signed w32 c.at.count

-- a k − b k gains the rise from row 0 to row 1, and the rise gains the bend with each row
pub record Gains (a b : ℕ → ℕ) (rise bend : Parts) : Type 0 where
  pub by : (k : ℕ) → a (suc k) + b k + (rise.down + k * bend.down) ≡ a k + b (suc k) + (rise.up + k * bend.up)

-- THEOREM (proofs/Walks.antt): n counts and (a k − b k)/m, walked from row 0, has after k steps the count that is divided afresh there
abbrev pub WalkTheorem : Type 0
WalkTheorem =
    (m : ℕ) → 1 ≤ m → m ≤ 9223372036854775808 → (a b : ℕ → ℕ) (rise bend : Parts) → Gains a b rise bend → (n : ℤ) (k : ℕ) →
    let count = floor_div (pos (a k) -ℤ pos (b k)) m +ℤ n in
    nat_abs count < 2 ^ 31 →
    number (walked k (lifted n (curve_of (record { up = a 0; down = b 0 }) rise bend m))) ≡ count

-- ---- rounded numbers
-- twice a number, for the halves
abbrev pub twice : Parts → Parts
twice p = record { up = 2 * p.up; down = 2 * p.down }

-- (up − down)/e in units of u, with the half that rounding by this rule adds: its counts over 2 e u, downwards, are the rounded number
abbrev pub half_up : Tie → ℕ → ℕ → Parts → Parts
half_up tie u e p = record { up = 2 * p.up + e * u; down = 2 * p.down + taken tie }

-- (p k − q k)/e in units of u, and n units more, is walked so
abbrev pub rounded_curve : Tie → ℕ → ℕ → Parts → Parts → Parts → ℤ → Curve
rounded_curve tie u e at rise bend n = lifted n (curve_of (half_up tie u e at) (twice rise) (twice bend) (2 * (e * u)))

-- THEOREM (proofs/Walks.antt): after k steps it has the rounded number
abbrev pub RoundedTheorem : Type 0
RoundedTheorem =
    (tie : Tie) (u e : ℕ) → 1 ≤ e * u → e * u ≤ 4611686018427387904 → (p q : ℕ → ℕ) (rise bend : Parts) → Gains p q rise bend → (n : ℤ) (k : ℕ) →
    let count = rounded tie u (ratio (p k) (q k) e) +ℤ n in
    nat_abs count < 2 ^ 31 →
    number (walked k (rounded_curve tie u e (record { up = p 0; down = q 0 }) rise bend n)) ≡ count
