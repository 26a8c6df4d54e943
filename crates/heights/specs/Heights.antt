-- The axis as the code holds it, and what stands above it in counts of its unit.
-- Assumes nothing.
use Rattle.std.specs.Prelude.{◌≡◌, ℕ, ◌+◌, ◌*◌, ◌%◌, ◌^◌, ◌≤◌, ◌<◌, ℤ, pos, ◌+ℤ◌}
use Rattle.exact.specs.Exact.{Exact, whole, ratio, ◌⊕◌, ◌⊖◌, ◌≈◌}
use Rattle.exact.specs.Rounding.{units}
use Rattle.rounding.specs.Nearest.{Sized}
use Rattle.card.specs.Accepted.{Surveyed}
use Rattle.card.specs.Rows.{in_units}
use Rattle.heights.specs.declared.axis.Axis.{Axis}
use Rattle.heights.specs.Counts.{count_of}

-- ---- the axis
-- in micrometres
abbrev pub height_of : Axis → Exact
height_of a = units (1000 * a.unit) a.count ⊕ whole a.rest

-- it stands at y, and its unit has u mm
pub record AxisIs (y : Exact) (u : ℕ) (a : Axis) : Type 0 where
  pub fraction : 0 < y.den
  pub is : height_of a ≈ y
  pub unit : a.unit ≡ u

-- it is not split: it has no whole units, and all of it is rest
pub record AllRest (rest : ℕ) (a : Axis) : Type 0 where
  pub none_whole : a.count ≡ pos 0
  pub all : a.rest ≡ rest

-- it stands at nought, in whole millimetres: so does one that cannot be held
pub record AtNought (a : Axis) : Type 0 where
  pub count : a.count ≡ pos 0
  pub rest : a.rest ≡ 0
  pub unit : a.unit ≡ 1

-- an axis that stays at `rest` micrometres can be held: none of a relative card is higher than 3750 × 60 + 3750 × 30
pub record Stays (rest unit : ℕ) : Type 0 where
  pub rest_most : rest ≤ 337500
  pub unit_least : 1 ≤ unit
  pub unit_most : unit ≤ 10

-- and the axis of an absolute card, d mm from the start
pub record Climbs (height grade : ℤ) (d unit : ℕ) : Type 0 where
  pub survey : Surveyed height grade unit
  pub d_most : d ≤ 330000
  pub unit_least : 1 ≤ unit
  pub unit_most : unit ≤ 10

-- ---- what stands above the axis
-- up with the axis's rest, over the same denominator, as 64 bits hold it
abbrev pub lifted : Axis → ℕ → ℕ → ℕ
lifted a up over = (a.rest * over + up) % 2 ^ 64

-- (up − down)/over micrometres above the axis, in counts of its unit: rounded with its rest, and its whole units added
unfoldable pub count_above : Axis → ℕ → ℕ → ℕ → ℤ
count_above a up down over = count_of (lifted a up over) down over a.unit +ℤ a.count

-- THEOREM (proofs/OnAxis.antt): within the sizes it is the sum, rounded
abbrev pub AboveTheorem : Type 0
AboveTheorem =
    (a : Axis) (up down over : ℕ) → Sized (a.rest * over + up) down over a.unit →
    count_above a up down over ≡ in_units a.unit (height_of a ⊕ ratio up down over)

-- a line y of a road whose axis stays at `still`, with the axis at a: its distance from the axis is kept, and the sum is rounded once
unfoldable pub count_on : Axis → Exact → Exact → ℤ
count_on a still y = in_units a.unit (height_of a ⊕ (y ⊖ still))
