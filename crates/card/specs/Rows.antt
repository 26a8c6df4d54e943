-- Document 01, "Rows": where the rows stand, and how a number of a row is rounded; the same for every method. Where halfway goes is as document 02,
-- Slip 6, has changed it.
-- Assumes nothing.
use Rattle.std.specs.Prelude.{◌≡◌, cond, List, [], ◌++◌, ◌↔◌, ℕ, zero, suc, ◌+◌, ◌*◌, ◌-◌, ◌/◌, ◌<◌, ltb, eqb, ℤ, pos, neg_ℤ}
use Rattle.exact.specs.Exact.{Exact, frac, ratio, ◌≼◌, distance}
use Rattle.exact.specs.Rounding.{Tie, lower, higher, units, Nearest, rounded}

-- how many of 0, step, 2 × step and so on lie below L
abbrev pub multiples_below : ℕ → ℕ → ℕ
multiples_below L step = (L + (step - 1)) / step

-- THEOREM (proofs/RowPlaces.antt): the multiple i × step is one of them exactly when it is below L
abbrev pub CountsMultiples : Type 0
CountsMultiples = (L step i : ℕ) → 0 < step → (i < multiples_below L step) ↔ (i * step < L)

-- rows stand at 0, step, 2 × step and so on below L, then one at L
abbrev pub rows_to : ℕ → ℕ → ℕ
rows_to L step = multiples_below L step + 1

abbrev pub station_to : ℕ → ℕ → ℕ → ℕ
station_to L step i = cond (ltb (i * step) L) (i * step) L

-- in whole millimetres a halfway value goes to the higher number; in centimetres it goes to the lower (the unit is in mm)
abbrev pub tie : ℕ → Tie
tie unit = cond (eqb unit 1) higher lower

-- a number of x micrometres in counts of the unit: rounded once, to the nearest, and halfway as the unit has it
abbrev pub in_units : ℕ → Exact → ℤ
in_units unit x = rounded (tie unit) (1000 * unit) x

-- n counts of the unit are nearest to x micrometres, halfway to the higher number in whole millimetres and to the lower in centimetres, and are
-- within half a unit
pub record Accurate (unit : ℕ) (x : Exact) (n : ℤ) : Type 0 where
  pub fraction : 0 < x.den
  pub millimetres : unit ≡ 1 → Nearest higher 1000 x n
  pub centimetres : unit ≡ 10 → Nearest lower 10000 x n
  pub half : distance x (units (1000 * unit) n) ≼ frac (1000 * unit) 2

-- THEOREM (proofs/AccurateNumbers.antt): so is every fraction over a number above 0, in any unit above 0
abbrev pub AccurateTheorem : Type 0
AccurateTheorem = (unit : ℕ) → 0 < unit → (x : Exact) → 0 < x.den → Accurate unit x (in_units unit x)

-- halfway above nought and below, in mm and in cm, and a micrometre beside it, where the other number is nearer: 172.5 and −67.5 mm,
-- 22.5 and −22.5 cm
-- THEOREM (proofs/AccurateNumbers.antt)
pub record HalfwayByUnit : Type 0 where
  pub mm : in_units 1 (ratio 172500 0 1) ≡ pos 173
  pub mm_less : in_units 1 (ratio 172499 0 1) ≡ pos 172
  pub mm_below : in_units 1 (ratio 0 67500 1) ≡ neg_ℤ (pos 67)
  pub mm_below_less : in_units 1 (ratio 0 67501 1) ≡ neg_ℤ (pos 68)
  pub cm : in_units 10 (ratio 225000 0 1) ≡ pos 22
  pub cm_more : in_units 10 (ratio 225001 0 1) ≡ pos 23
  pub cm_below : in_units 10 (ratio 0 225000 1) ≡ neg_ℤ (pos 23)
  pub cm_below_more : in_units 10 (ratio 0 224999 1) ≡ neg_ℤ (pos 22)

-- f 0, f 1, .., f (k − 1), one after the other
unfoldable pub joined : (ℕ → List ℤ) → ℕ → List ℤ
joined f zero = []
joined f (suc k) = joined f k ++ f k
