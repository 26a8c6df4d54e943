-- `minsk::check_section` meets its contract.
-- Assumes nothing.
use native.Mathlib.Omega.{arith}
use Rattle.card.proofs.Accepts.{shared_rule}
use Rattle.minsk.proofs.check_section.Goals as goal

pub is_too_steep-requires-clause-slope : goal.is_too_steep-requires-clause-slope
is_too_steep-requires-clause-slope c =
    let rule = shared_rule c.args.card in
    let a = rule.before.0 c.requires in
    (omega (arith, (rule.sizes c.requires).crown_least, a.slope_least), a.slope_most)

pub is_too_steep-requires-clause-length : goal.is_too_steep-requires-clause-length
is_too_steep-requires-clause-length c =
    let a = (shared_rule c.args.card).before.0 c.requires in
    (a.radius_most, a.clothoid_most)
