-- `runoff::turning::Station::even_slope` meets its contract.
-- Assumes nothing.
use Rattle.runoff.proofs.StationSlopes.{even_are}
use Rattle.runoff.proofs.turning.Station.even_slope.Goals as goal

pub returns : goal.returns
returns c = even_are c.args.self c.requires
