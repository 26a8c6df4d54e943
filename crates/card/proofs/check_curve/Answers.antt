-- `card::check_curve` meets its contract: no least length is above 120.
-- Assumes nothing.
use Rattle.std.proofs.Common.{◌≤◌, arith}
use Rattle.card.proofs.Clothoids.{at_most_120, found_length}
use Rattle.card.proofs.check_curve.Goals as goal

pub overflow_mul-shortest : goal.overflow_mul-shortest
overflow_mul-shortest c =
    let small : c.least_length-shortest.result.length ≤ 120 = rw (found_length _ _ c.least_length-shortest.ensures.found) (at_most_120 _) in
    record { fits = omega arith }
