-- `minsk::turning::Station::widening` meets its contract.
-- Assumes nothing.
use Rattle.minsk.proofs.StationSlopes.{wide_lem}
use Rattle.minsk.proofs.turning.Station.widening.Goals as goal

pub returns : goal.returns
returns c = rw (c.min-grown.ensures, c.saturating_sub.ensures) (wide_lem c.args.self)
