-- Document 02, Slip 7: the nine numbers of a row, and the rows of a card.
-- Assumes nothing.
use Rattle.std.specs.Prelude.{List, [], ◌∷◌, ℕ, ℤ, pos}
use Rattle.exact.specs.Exact.{whole, ◌⊗◌}
use Rattle.card.specs.declared.Card.{Card}
use Rattle.card.specs.declared.Datum.{Datum}
use Rattle.card.specs.Rows.{rows_to, station_to, in_units, joined}
use Rattle.minsk.specs.declared.rows.Row.{Row}
use Rattle.minsk_section.specs.Lines.{Section, section_of, widening, outer_edge, outer_strip, outer_brow, inner_edge, inner_strip, inner_brow}
use Rattle.minsk_section.specs.Datum.{axis_on, moved}

-- how many rows a card has, and the station of row i: as by 503-0-45
abbrev pub row_count : Card → ℕ
row_count card = rows_to card.clothoid card.step

abbrev pub station_of : Card → ℕ → ℕ
station_of card i = station_to card.clothoid card.step i

-- "A row has nine numbers: station, widening, axis, outer edge, outer strip edge, outer brow, inner edge, inner strip edge, inner brow"
-- (the struct Row of src/rows.rt, in this order)
abbrev pub row_width : ℕ
row_width = 9

abbrev pub cells : Row → List ℤ
cells r =
    r.station ∷ r.widening ∷ r.axis ∷ r.outer_edge ∷ r.outer_strip ∷ r.outer_brow ∷ r.inner_edge ∷ r.inner_strip ∷ r.inner_brow ∷ []

-- the row at the station d, in counts of the unit: every height with its axis in it is rounded once; the widening is in mm, 1000 micrometres
-- each, and is no height
unfoldable pub row : Datum → Section → ℕ → ℕ → Row
row datum x unit d =
    record {
      station = pos d;
      widening = in_units unit (whole 1000 ⊗ widening x (whole d));
      axis = in_units unit (axis_on datum (whole d));
      outer_edge = in_units unit (moved datum (whole d) (outer_edge x (whole d)));
      outer_strip = in_units unit (moved datum (whole d) (outer_strip x (whole d)));
      outer_brow = in_units unit (moved datum (whole d) (outer_brow x (whole d)));
      inner_edge = in_units unit (moved datum (whole d) (inner_edge x (whole d)));
      inner_strip = in_units unit (moved datum (whole d) (inner_strip x (whole d)));
      inner_brow = in_units unit (moved datum (whole d) (inner_brow x (whole d)));
    }

-- the card's row at the station d
abbrev pub row_of : Card → ℕ → Row
row_of card d = row card.datum (section_of card) card.unit d

-- the rows of a card, one after the other
unfoldable pub rows : Card → List ℤ
rows card = joined (λ (i : ℕ). cells (row_of card (station_of card i))) (row_count card)
