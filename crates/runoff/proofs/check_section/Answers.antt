-- `runoff::check_section` meets its contract.
-- Assumes nothing.
use Rattle.card.proofs.Accepts.{passed_before}
use Rattle.runoff.proofs.check_section.Goals as goal

pub is_too_steep-requires : goal.is_too_steep-requires
is_too_steep-requires c =
    let a = passed_before _ c.requires in
    (rw c.profile_at-p.ensures a.slope_least, a.slope_most)
