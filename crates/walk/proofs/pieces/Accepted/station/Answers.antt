-- `walk::pieces::Accepted::station` meets its contract: a row stands on the clothoid of an accepted card.
-- Assumes nothing.
use Prim.Native.Nat.{◌<◌}
use native.Mathlib.Omega.{arith}
use Rattle.runoff.proofs.Accepts.{accepted_rule}
use Rattle.runoff.proofs.RowsWritten.{on}
use Rattle.walk.proofs.AcceptedCards.{limits}
use Rattle.walk.proofs.pieces.Accepted.station.Goals as goal

pub overflow_cast-i : goal.overflow_cast-i
overflow_cast-i c =
    let a = c.args.self in
    let few : c.args.i < a.count = c.requires in
    record { fits = omega (arith, few, a.counted, (accepted_rule a.card).few a.passes) }

pub invariant_of-result : goal.invariant_of-result
invariant_of-result c =
    let a = c.args.self in
    record { limits = limits a; within = rw (a.made, c.station_of-d.ensures) (on a.card a.passes _) }
