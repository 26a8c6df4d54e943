-- The invariant of the loop of `day::fill_day`: the cards before this one are done.
-- Assumes nothing.
use Rattle.std.proofs.Common.{map, length}
use Rattle.day.proofs.DayLoop.{Turn}
use Rattle.day.proofs.fill_day.Given as goal

abbrev pub invariant-loop-i : goal.invariant-loop-i
invariant-loop-i g l =
    Turn (map g.C.AsCard.as_card l.cards) l.initial.table l.initial.replies (length (map g.C.AsCard.as_card l.cards)) l.i l.used l.table l.replies
