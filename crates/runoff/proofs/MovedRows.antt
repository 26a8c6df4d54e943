-- The row that is reckoned on the axis that the code holds is the card's row, where that axis is the card's.
-- Assumes nothing.
use mathlib.Core.Path.{◌≡◌, refl, ◌∙◌}
use Prim.Native.Nat.{ℕ}
use native.Mathlib.Omega.{arith}
use lib.IntN.{ℤ}
use Rattle.exact.specs.Exact.{whole, ratio, ◌⊕◌}
use Rattle.card.specs.declared.Datum.{Datum}
use Rattle.card.specs.Rows.{in_units}
use Rattle.section.specs.Lines.{Section, Fractions, axis}
use Rattle.section.specs.Datum.{axis_on}
use Rattle.heights.specs.declared.axis.Axis.{Axis}
use Rattle.heights.specs.Heights.{height_of, AxisIs}
use Rattle.heights.proofs.OnAxis.{counted_moved, counted_axis}
use Rattle.runoff.specs.Rows.{row}
use Rattle.runoff.specs.Reckoning.{row_on}
use Rattle.runoff.proofs.Fields.{same_row}

pub row_is :
    (datum : Datum) (x : Section) (d : ℕ) {u : ℕ} (a : Axis) (n : ℤ) → AxisIs (axis_on datum x (whole d)) u a →
    n ≡ in_units a.unit (height_of a ⊕ ratio 0 0 1) → Fractions x (whole d) → row_on a n x d ≡ row datum x u d
unfolding row_on row
row_is datum x d a n is number lines =
    let counted = counted_moved datum (axis x) (whole d) a is (omega arith) (omega arith) in
    rw (← is.unit)
    (same_row refl refl
    (counted _ lines.inner_brow)
    (counted _ lines.inner_edge)
    (number ∙ counted_axis datum (axis x) (whole d) a is (omega arith) (omega arith))
    (counted _ lines.outer_edge)
    (counted _ lines.outer_brow))
