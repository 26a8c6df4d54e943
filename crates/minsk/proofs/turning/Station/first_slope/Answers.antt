-- `minsk::turning::Station::first_slope` meets its contract.
-- Assumes nothing.
use Rattle.minsk.proofs.StationSlopes.{first_slope_lem}
use Rattle.minsk.proofs.turning.Station.first_slope.Goals as goal

pub returns : goal.returns
returns c = first_slope_lem c.args.self c.args.past c.requires.past c.requires.first
