-- `runoff::turning::Station::first_slope` meets its contract.
-- Assumes nothing.
use Rattle.runoff.proofs.StationSlopes.{first_are}
use Rattle.runoff.proofs.turning.Station.first_slope.Goals as goal

pub returns : goal.returns
returns c = first_are c.args.self c.requires.two_stage c.requires.first
