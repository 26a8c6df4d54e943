-- The climbing rule on rounded heights, at any two whole stations.
-- Assumes nothing.
use Prim.Native.Nat.{◌*◌}
use native.Mathlib.Omega.{arith}
use Rattle.exact.proofs.Is.{whole_le}
use Rattle.exact.proofs.RoundedClimb.{rounded_climb}
use Rattle.card.specs.Rows.{tie}
use Rattle.minsk_section.specs.Climbing.{TabledTheorem}
use Rattle.minsk_section.proofs.EdgePieces.{on_whole}
use Rattle.minsk_section.proofs.ExactClimb.{edge_proper, edge_climb}

pub tabled : TabledTheorem
tabled added x ok soft unit some d e h to =
    let a = on_whole x d (omega arith) in
    let b = on_whole x e to in
    rounded_climb (tie unit) (1000 * unit) d e (omega arith) (edge_proper ok a) (edge_proper ok b) (edge_climb ok soft a b (whole_le d e h))
