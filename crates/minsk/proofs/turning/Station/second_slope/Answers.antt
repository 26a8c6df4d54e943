-- `minsk::turning::Station::second_slope` meets its contract.
-- Assumes nothing.
use Rattle.minsk.proofs.StationSlopes.{second_slope_lem}
use Rattle.minsk.proofs.turning.Station.second_slope.Goals as goal

pub returns : goal.returns
returns c = second_slope_lem c.args.self c.args.past c.requires
