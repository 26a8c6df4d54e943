-- Document 02, Slip 5, "Heights above the benchmark": where the lines of an absolute card stand. The same for every method, which says where
-- the axis of its relative card stays.
-- Assumes nothing.
use Rattle.std.specs.Prelude.{◌<◌, ℤ, pos, ◌*ℤ◌}
use Rattle.exact.specs.Exact.{Exact, ◌⊕◌, ◌⊖◌, ◌⊗◌, ◌≈◌}
use Rattle.card.specs.declared.Datum.{Datum}
use Rattle.card.specs.declared.Datum.TheVariants.{Relative, Absolute}

-- a whole number of either sign
abbrev pub signed : ℤ → Exact
signed n = record { num = n; den = 1 }

-- the axis stands at the height, in mm, plus the grade, in ‰, times station: in micrometres
abbrev pub surveyed_axis : ℤ → ℤ → Exact → Exact
surveyed_axis height grade s = signed (pos 1000 *ℤ height) ⊕ signed grade ⊗ s

-- the axis at the station s; that of the relative card stays at `still`
unfoldable pub axis_from : Datum → Exact → Exact → Exact
axis_from Relative still s = still
axis_from (Absolute height grade) still s = surveyed_axis height grade s

-- the other lines keep their distance from the axis: y is a line of the relative card at the station s
unfoldable pub moved_from : Datum → Exact → Exact → Exact → Exact
moved_from Relative still s y = y
moved_from (Absolute height grade) still s y = surveyed_axis height grade s ⊕ (y ⊖ still)

-- a moved line keeps its distance from the axis; the axis, moved as a line, is the axis
pub record Kept (datum : Datum) (still s y : Exact) : Type 0 where
  pub fractions : (0 < (axis_from datum still s).den) × (0 < (moved_from datum still s y).den)
  pub distance : moved_from datum still s y ⊖ axis_from datum still s ≈ y ⊖ still
  pub axis : moved_from datum still s still ≈ axis_from datum still s

-- THEOREM (proofs/Moving.antt): at every station, of every line that is a fraction
abbrev pub KeptTheorem : Type 0
KeptTheorem = (datum : Datum) (still s y : Exact) → 0 < still.den → 0 < s.den → 0 < y.den → Kept datum still s y

-- an absolute card of height 0 and grade 0 beside the relative one: every line, and the axis, is lower by the relative axis alone
pub record AtNought (still s y : Exact) : Type 0 where
  pub line : moved_from Relative still s y ⊖ moved_from (Absolute (pos 0) (pos 0)) still s y ≈ still
  pub axis : axis_from Relative still s ⊖ axis_from (Absolute (pos 0) (pos 0)) still s ≈ still

-- THEOREM (proofs/Moving.antt): at every station, of every line that is a fraction
abbrev pub AtNoughtTheorem : Type 0
AtNoughtTheorem = (still s y : Exact) → 0 < still.den → 0 < s.den → 0 < y.den → AtNought still s y
