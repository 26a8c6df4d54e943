-- Document 02, Slips 5 and 7: the lines of a section with its card's datum, and the heights that the climbing rule reads.
-- Assumes nothing.
use Rattle.exact.specs.Exact.{Exact, ◌⊖◌}
use Rattle.card.specs.declared.Datum.{Datum}
use Rattle.card.specs.declared.Datum.TheVariants.{Relative, Absolute}
use Rattle.card.specs.Datum.{axis_from, moved_from}
use Rattle.minsk_section.specs.Lines.{Section, axis, outer_edge}

-- the axis at the station s
abbrev pub axis_on : Datum → Exact → Exact
axis_on datum s = axis_from datum axis s

-- another line at s, which keeps its distance from the axis: y is that line by the rules of `Lines.antt`, where the axis stays
abbrev pub moved : Datum → Exact → Exact → Exact
moved datum s y = moved_from datum axis s y

-- the outer edge above the axis
abbrev pub above_axis : Datum → Section → Exact → Exact
above_axis datum x s = moved datum s (outer_edge x s) ⊖ axis_on datum s

-- the exact outer-edge height that the climbing rule reads: of a relative card from its nought, of an absolute one above the axis
unfoldable pub read_height : Datum → Section → Exact → Exact
read_height Relative x s = outer_edge x s
read_height (Absolute height grade) x s = above_axis (Absolute height grade) x s
