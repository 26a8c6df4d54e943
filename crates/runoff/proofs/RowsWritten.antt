-- The rows of a card, as they are written one after the other, and that each is the card's on the axis where it stands.
-- Assumes nothing.
use mathlib.Core.Path.{◌≡◌, ap, ◌∙◌}
use mathlib.Core.List.{List, ◌++◌}
use Prim.Native.Nat.{ℕ, ◌+◌, ◌*◌, ◌-◌, ◌≤◌}
use lib.IntN.{ℤ}
use lib.ListN.{drop}
use Rattle.exact.specs.Exact.{whole, ratio, ◌⊕◌}
use Rattle.card.specs.declared.Card.{Card}
use Rattle.card.specs.Rows.{in_units}
use Rattle.card.specs.RowsInto.{with_rows}
use Rattle.card.proofs.RowsInto as into
use Rattle.card.proofs.RowPlaces.{station_most}
use Rattle.section.specs.Lines.{section_of, Fractions}
use Rattle.section.proofs.EdgePieces.{on_whole}
use Rattle.section.proofs.Proper.{proper}
use Rattle.runoff.specs.declared.Runoff.{Runoff}
use Rattle.runoff.specs.Refusal.{refusal}
use Rattle.runoff.specs.Rows.{row, cells, row_count, row_width, station_of, rows}
use Rattle.runoff.specs.Runoff.{runoff_of}
use Rattle.heights.specs.declared.axis.Axis.{Axis}
use Rattle.heights.specs.Heights.{height_of, AxisIs}
use Rattle.section.specs.Datum.{axis_on}
use Rattle.runoff.specs.Reckoning.{section_in, rows_on}
use Rattle.runoff.proofs.RowBlocks.{block, length_block, all_rows}
use Rattle.runoff.proofs.MovedRows.{row_is}
use Rattle.runoff.proofs.ClimbingRule.{premises}
use Rattle.runoff.proofs.Limits.{same_section}

module _ (card : Card) where
  -- the first i rows stand in the table, and past them what stood there
  abbrev pub so_far : ℕ → List ℤ → List ℤ
  so_far = into.so_far row_width (block card) (length_block card)

  pub none_written : (old : List ℤ) → old ≡ so_far 0 old
  none_written = into.none_written row_width (block card) (length_block card)

  -- one row more, and all of them at once
  pub one_written :
      (f : ℕ → List ℤ) (i : ℕ) (old : List ℤ) {table after : List ℤ} → f i ≡ block card i → table ≡ so_far i old →
      after ≡ with_rows row_width f i (i + 1 - i) table → after ≡ so_far (i + 1) old
  one_written = into.one_written row_width (block card) (length_block card)

  pub all_on : (f : ℕ → List ℤ) (old : List ℤ) → ((i : ℕ) → f i ≡ block card i) → (n : ℕ) → with_rows row_width f 0 n old ≡ so_far n old
  all_on = into.all_on row_width (block card) (length_block card)

  pub all_written : (old : List ℤ) {n : ℕ} → n ≡ row_count card → so_far n old ≡ rows card ++ drop (row_width * row_count card) old
  all_written = into.all_written row_width (block card) (length_block card) (row_count card) (all_rows card)

module _ (card : Card) (passes : refusal card ≡ 0) where
  -- a row of the card is within the clothoid
  pub on : (i : ℕ) → station_of card i ≤ (runoff_of card).clothoid
  unfolding runoff_of
  on i = station_most card.clothoid card.step i

  -- there every line of its section is a fraction
  pub fractions : {r : Runoff} (i : ℕ) → r ≡ runoff_of card → Fractions (section_in r) (whole (station_of card i))
  fractions i is =
      rw (ap section_in is ∙ same_section card)
      (proper (premises card passes) (on_whole (section_of card) (station_of card i) (station_most card.clothoid card.step i)))

  -- the row on the axis where it stands, with the axis's number, is the card's row
  pub same_row_on :
      {r : Runoff} {a : Axis} {n : ℤ} (i : ℕ) → r ≡ runoff_of card → AxisIs (axis_on card.datum (section_in r) (whole (station_of card i))) card.unit a →
      n ≡ in_units a.unit (height_of a ⊕ ratio 0 0 1) → rows_on a n (section_in r) card.clothoid card.step i ≡ block card i
  same_row_on {r} {a} {n} i is stands number =
      let d = station_of card i in
      ap cells
      (row_is card.datum (section_in r) d a n stands number (fractions i is)
      ∙ ap (λ x. row card.datum x card.unit d) (ap section_in is ∙ same_section card))
