-- `runoff::runoff_of` meets its contract.
-- Assumes nothing.
use Rattle.runoff.proofs.Accepts.{accepted, sizes_of}
use Rattle.runoff.proofs.runoff_of.Goals as goal

pub stages_of-requires : goal.stages_of-requires
stages_of-requires c =
    let is = c.profile_at-p.ensures in
    let s = sizes_of _ c.requires in
    (rw is s.half_most, rw is s.crown_most, (accepted _ c.requires).before.slope_most)
