-- `runoff::rows::Accepted::station` meets its contract: a row stands on the clothoid of an accepted card.
-- Assumes nothing.
use Rattle.runoff.proofs.Limits.{limits_of}
use Rattle.runoff.proofs.RowsWritten.{on}
use Rattle.runoff.proofs.rows.Accepted.station.Goals as goal

pub invariant_of-result : goal.invariant_of-result
invariant_of-result c =
    let a = c.args.self in
    record { limits = rw a.made (limits_of a.card a.passes); within = rw (a.made, c.station_of-d.ensures) (on a.card a.passes _) }
