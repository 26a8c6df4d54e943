-- The climbing rule on rounded heights, at any two whole stations.
-- Assumes nothing.
use Prim.Native.Nat.{◌*◌}
use native.Mathlib.Omega.{arith}
use Rattle.exact.proofs.Is.{whole_le}
use Rattle.exact.proofs.RoundedClimb.{rounded_climb}
use Rattle.card.specs.Rows.{tie}
use Rattle.section.specs.Climbing.{TabledTheorem}
use Rattle.section.proofs.EdgePieces.{on_whole}
use Rattle.section.proofs.ExactClimb.{edge_climb, climbs}

pub tabled : TabledTheorem
tabled added x ok unit some d e h to =
    let a = on_whole x d (omega arith) in
    let b = on_whole x e to in
    let proper = (climbs added x ok _ _ a b).fractions in
    rounded_climb (tie unit) (1000 * unit) d e (omega arith) proper.0 proper.1 (edge_climb ok a b (whole_le d e h))
