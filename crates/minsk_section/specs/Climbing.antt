-- Demand 3, the climbing rule, of the handbook's method: "the climbing rule from its first stage on"; before that stage the edge is level.
-- Assumes nothing.
use Rattle.std.specs.Prelude.{ℕ, ◌*◌, ◌≤◌, ◌<◌, ℤ}
use Rattle.exact.specs.Exact.{Exact, whole, ◌≼◌, ◌≈◌}
use Rattle.exact.specs.Strict.{StrictClimb}
use Rattle.exact.specs.Tabled.{TabledClimb}
use Rattle.card.specs.declared.Datum.{Datum}
use Rattle.card.specs.Rows.{in_units}
use Rattle.minsk_section.specs.Lines.{Section, On, stage_start, outer_edge, Premises, Gentle}
use Rattle.minsk_section.specs.Datum.{above_axis, read_height}

-- a station at or past the first stage's start, L × R / 2000 less the stage
pub record Staged (x : Section) (s : Exact) : Type 0 where
  pub on : On x s
  pub past : stage_start x ≼ s

-- a station at or before it
pub record Unstaged (x : Section) (s : Exact) : Type 0 where
  pub on : On x s
  pub before : s ≼ stage_start x

-- from the first stage on, at any two stations, fractions included, the farther is the higher, by at most the added slope times the distance; the
-- exact heights are those that `height` gives
abbrev pub ClimbsBy : (Section → Exact → Exact) → ℕ → Section → Type 0
ClimbsBy height added x = (s t : Exact) → Staged x s → Staged x t → StrictClimb added s t (height x s) (height x t)

-- before it the outer edge is level
abbrev pub LevelBy : (Section → Exact → Exact) → Section → Type 0
LevelBy height x = (s t : Exact) → Unstaged x s → Unstaged x t → height x s ≈ height x t

-- the rule of exact heights over the whole runoff
pub record EdgeRule (height : Section → Exact → Exact) (added : ℕ) (x : Section) : Type 0 where
  pub climbs : ClimbsBy height added x
  pub level : LevelBy height x

-- the tabled heights, 1000 × unit × n micrometres at d and 1000 × unit × k at e, d not past e: each within half a unit of the exact one at its station;
-- the later not lower than the earlier, nor higher by more than one unit plus the added slope times the distance
abbrev pub Tabled : ℕ → ℕ → Section → ℕ → ℕ → ℤ → ℤ → Type 0
Tabled added unit x d e n k = TabledClimb added (1000 * unit) (outer_edge x (whole d)) (outer_edge x (whole e)) d e n k

-- THEOREM (proofs/ExactClimb.antt): the exact heights of the outer edge, counted from nought
abbrev pub ClimbsTheorem : Type 0
ClimbsTheorem = (added : ℕ) (x : Section) → Premises x → Gentle added x → EdgeRule outer_edge added x

-- THEOREMS (proofs/DatumClimb.antt): with any datum, the heights above the axis, and those that the rule reads
abbrev pub AboveTheorem : Type 0
AboveTheorem = (datum : Datum) (added : ℕ) (x : Section) → Premises x → Gentle added x → EdgeRule (above_axis datum) added x

abbrev pub ReadTheorem : Type 0
ReadTheorem = (datum : Datum) (added : ℕ) (x : Section) → Premises x → Gentle added x → EdgeRule (read_height datum) added x

-- THEOREM (proofs/TabledClimb.antt): the rounded heights, at any two whole stations, those before the first stage too
abbrev pub TabledTheorem : Type 0
TabledTheorem =
    (added : ℕ) (x : Section) → Premises x → Gentle added x → (unit : ℕ) → 0 < unit → (d e : ℕ) → d ≤ e → e ≤ x.L →
    Tabled added unit x d e (in_units unit (outer_edge x (whole d))) (in_units unit (outer_edge x (whole e)))
