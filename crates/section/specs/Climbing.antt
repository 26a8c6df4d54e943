-- Demand 3, the climbing rule, of the outer edge at any two stations of a section.
-- Assumes nothing.
use Rattle.std.specs.Prelude.{◌≡◌, ◌↔◌, ◌⊎◌, ℕ, ◌+◌, ◌*◌, ◌≤◌, ◌<◌, ℤ}
use Rattle.exact.specs.Exact.{Exact, whole, ◌⊖◌, ◌⊗◌, ◌≼◌, ◌≺◌, ◌≈◌}
use Rattle.exact.specs.Tabled.{TabledClimb}
use Rattle.card.specs.declared.Datum.{Datum}
use Rattle.card.specs.Rows.{in_units}
use Rattle.section.specs.Lines.{Section, On, outer_edge, first_reached}
use Rattle.section.specs.Datum.{above_axis, read_height}

-- the full slope equals the crown slope and both stations are at or past the point where it is first reached
pub record Level (x : Section) (s t : Exact) : Type 0 where
  pub same : x.v ≡ x.p
  pub first : first_reached x ≼ s
  pub second : first_reached x ≼ t

-- the two exact outer-edge heights, X at s and Y at t, are fractions over numbers above 0; they are equal exactly when the stations are equal, or when the
-- edge is level at both; otherwise the farther is higher, by at most the added slope times the distance
pub record Climbs (added : ℕ) (x : Section) (s t X Y : Exact) : Type 0 where
  pub fractions : (0 < X.den) × (0 < Y.den)
  pub equal : (X ≈ Y) ↔ ((s ≈ t) ⊎ Level x s t)
  pub higher : s ≺ t → ¬ Level x s t → X ≺ Y
  pub gentle : s ≼ t → Y ⊖ X ≼ whole added ⊗ (t ⊖ s)

-- the same of a section, for any two stations from its start to the clothoid's end, fractions included: the exact heights are those that `height` gives
abbrev pub ClimbsBy : (Section → Exact → Exact) → ℕ → Section → Type 0
ClimbsBy height added x = (s t : Exact) → On x s → On x t → Climbs added x s t (height x s) (height x t)

-- the tabled heights, 1000 × unit × n micrometres at d and 1000 × unit × k at e, d not past e: each within half a unit of the exact one at its station;
-- the later not lower than the earlier, nor higher by more than one unit plus the added slope times the distance
abbrev pub Tabled : ℕ → ℕ → Section → ℕ → ℕ → ℤ → ℤ → Type 0
Tabled added unit x d e n k = TabledClimb added (1000 * unit) (outer_edge x (whole d)) (outer_edge x (whole e)) d e n k

-- what the rule asks of a section; every accepted card's keeps to it
pub record ClimbPremises (added : ℕ) (x : Section) : Type 0 where
  pub wide : 0 < x.h
  pub crowned : 0 < x.p
  pub turned : x.p ≤ x.v
  pub long : 0 < x.L
  pub steep : 3 ≤ added
  pub gentle : x.h * (x.p + x.v) ≤ added * x.L

-- THEOREM (proofs/ExactClimb.antt): the exact heights of the outer edge, counted from nought
abbrev pub ClimbsTheorem : Type 0
ClimbsTheorem = (added : ℕ) (x : Section) → ClimbPremises added x → ClimbsBy outer_edge added x

-- THEOREMS (proofs/DatumClimb.antt): with any datum, the heights above the axis, and those that the rule reads
abbrev pub AboveTheorem : Type 0
AboveTheorem = (datum : Datum) (added : ℕ) (x : Section) → ClimbPremises added x → ClimbsBy (above_axis datum) added x

abbrev pub ReadTheorem : Type 0
ReadTheorem = (datum : Datum) (added : ℕ) (x : Section) → ClimbPremises added x → ClimbsBy (read_height datum) added x

-- THEOREM (proofs/TabledClimb.antt): the rounded heights, at any two whole stations
abbrev pub TabledTheorem : Type 0
TabledTheorem =
    (added : ℕ) (x : Section) → ClimbPremises added x → (unit : ℕ) → 0 < unit → (d e : ℕ) → d ≤ e → e ≤ x.L →
    Tabled added unit x d e (in_units unit (outer_edge x (whole d))) (in_units unit (outer_edge x (whole e)))
