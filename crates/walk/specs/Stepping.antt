-- A row that is walked: its step, and its numbers as they stand in a table.
-- Assumes nothing.
use Rattle.std.specs.Prelude.{List, [], ◌∷◌, ℕ, zero, suc, ◌+◌, ◌%◌, ◌^◌, ℤ}
use Rattle.std.specs.Int.{w32, cast_signed}
use Rattle.walking.specs.Curves.{stepped, number}
use Rattle.walk.specs.declared.stepping.Walker.{Walker}

-- one row on
unfoldable pub row_stepped : Walker → Walker
row_stepped w =
    record {
      station = (w.station + w.step) % 2 ^ 32;
      step = w.step;
      widening = stepped w.widening;
      inner_brow = stepped w.inner_brow;
      inner_edge = stepped w.inner_edge;
      axis = stepped w.axis;
      outer_edge = stepped w.outer_edge;
      outer_brow = stepped w.outer_brow;
    }

-- k rows on
unfoldable pub row_walked : ℕ → Walker → Walker
row_walked zero w = w
row_walked (suc k) w = row_stepped (row_walked k w)

-- its seven numbers
abbrev pub cells_of : Walker → List ℤ
cells_of w =
    cast_signed w32 w.station ∷ number w.widening ∷ number w.inner_brow ∷ number w.inner_edge ∷ number w.axis ∷ number w.outer_edge
    ∷ number w.outer_brow ∷ []

-- and those k rows on
abbrev pub cells_on : Walker → ℕ → List ℤ
cells_on w k = cells_of (row_walked k w)
