-- The rows of a card as blocks of nine numbers; and that the row which is reckoned on the axis that the code holds is the card's, where that axis
-- is the card's.
-- Assumes nothing.
use mathlib.Core.Path.{◌≡◌, refl, ap, ◌∙◌}
use mathlib.Core.List.{List, ◌++◌}
use Prim.Native.Nat.{ℕ, ◌+◌, ◌*◌, ◌<◌}
use native.Mathlib.Omega.{arith}
use lib.IntN.{ℤ, pos}
use lib.ListN.{length, get_or}
use Rattle.exact.specs.Exact.{whole, ratio, ◌⊕◌}
use Rattle.card.specs.declared.Card.{Card}
use Rattle.card.specs.declared.Datum.{Datum}
use Rattle.card.specs.Rows.{in_units, joined}
use Rattle.card.proofs.RowPlaces.{station_most}
use Rattle.card.proofs.RowsInto as into
use Rattle.heights.specs.declared.axis.Axis.{Axis}
use Rattle.heights.specs.Heights.{height_of, AxisIs}
use Rattle.heights.proofs.OnAxis.{counted_moved, counted_axis}
use Rattle.minsk_section.specs.Lines.{Section, section_of, Fractions, axis}
use Rattle.minsk_section.specs.Datum.{axis_on}
use Rattle.minsk_section.proofs.EdgePieces.{on_whole}
use Rattle.minsk_section.proofs.Proper.{proper}
use Rattle.minsk.specs.Refusal.{refusal}
use Rattle.minsk.specs.Rows.{row, row_of, cells, row_count, row_width, station_of, rows}
use Rattle.minsk.specs.Reckoning.{row_on, rows_on}
use Rattle.minsk.proofs.Accepts.{accepted}
use Rattle.minsk.proofs.Fields.{same_row}

module _ (card : Card) where
  -- the numbers of row i
  abbrev pub block : ℕ → List ℤ
  block i = cells (row_of card (station_of card i))

  pub length_block : (i : ℕ) → length (block i) ≡ row_width
  length_block i = refl

  pub all_rows : joined block (row_count card) ≡ rows card
  unfolding rows
  all_rows = refl

  pub length_rows : length (rows card) ≡ row_width * row_count card
  length_rows = into.length_rows row_width block length_block (row_count card) all_rows

  -- number m of row i
  pub number_in :
      (rest : List ℤ) (i m : ℕ) → i < row_count card → m < row_width →
      get_or (rows card ++ rest) (row_width * i + m) (pos 0) ≡ get_or (block i) m (pos 0)
  number_in = into.number_in row_width block length_block (row_count card) all_rows

row_is :
    (datum : Datum) (x : Section) (d : ℕ) {u : ℕ} (a : Axis) (n : ℤ) → AxisIs (axis_on datum (whole d)) u a →
    n ≡ in_units a.unit (height_of a ⊕ ratio 0 0 1) → Fractions x (whole d) → row_on a n x d ≡ row datum x u d
unfolding row_on row
row_is datum x d a n is number lines =
    let counted = counted_moved datum axis (whole d) a is (omega arith) (omega arith) in
    rw (← is.unit)
    (same_row refl refl
    (number ∙ counted_axis datum axis (whole d) a is (omega arith) (omega arith))
    (counted _ lines.outer_edge)
    (counted _ lines.outer_strip)
    (counted _ lines.outer_brow)
    (counted _ lines.inner_edge)
    (counted _ lines.inner_strip)
    (counted _ lines.inner_brow))

module _ (card : Card) (passes : refusal card ≡ 0) where
  -- the row on the axis where it stands, with the axis's number, is the card's row
  pub same_row_on :
      {x : Section} {a : Axis} {n : ℤ} (i : ℕ) → x ≡ section_of card → AxisIs (axis_on card.datum (whole (station_of card i))) card.unit a →
      n ≡ in_units a.unit (height_of a ⊕ ratio 0 0 1) → rows_on a n x card.clothoid card.step i ≡ block card i
  same_row_on {x} {a} {n} i is stands number =
      let d = station_of card i in
      let lines = proper (accepted card passes).lines (on_whole (section_of card) d (station_most card.clothoid card.step i)) in
      rw is (ap cells (row_is card.datum (section_of card) d a n stands number lines))
