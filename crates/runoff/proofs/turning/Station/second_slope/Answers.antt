-- `runoff::turning::Station::second_slope` meets its contract: the joint's numbers are those of the rules.
-- Assumes nothing.
use Rattle.runoff.proofs.StationSlopes.{second_are}
use Rattle.runoff.proofs.turning.Station.second_slope.Goals as goal

pub returns : goal.returns
returns c =
    let z = c.requires in
    rw (z.joint.0, z.joint.1) (second_are c.args.self z.two_stage z.second)
