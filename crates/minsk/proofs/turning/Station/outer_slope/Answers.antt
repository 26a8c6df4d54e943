-- `minsk::turning::Station::outer_slope` meets its contract: before the first stage the road is crowned.
-- Assumes nothing.
use Rattle.minsk.proofs.StationSlopes.{crowned_slope_lem}
use Rattle.minsk.proofs.turning.Station.outer_slope.Goals as goal

pub returns-then-far-start : goal.returns-then-far-start
returns-then-far-start c = crowned_slope_lem c.args.self c.if-far-start.true
