-- The invariant of the loop of `walk::stepping::walk_rows`: the row is the one k rows on, and those before it are written.
-- Assumes nothing.
use Rattle.std.proofs.Common.{◌≡◌, ◌-◌}
use Rattle.card.specs.RowsInto.{with_rows}
use Rattle.runoff.specs.Rows.{row_width}
use Rattle.walk.specs.Stepping.{row_walked, cells_on}
use Rattle.walk.proofs.stepping.walk_rows.Given as goal

abbrev pub invariant-loop-k : goal.invariant-loop-k
invariant-loop-k l = (l.row ≡ row_walked l.k l.initial.row) × (l.part ≡ with_rows row_width (cells_on l.initial.row) 0 (l.k - 0) l.initial.part)
