-- `minsk::turning::Station::slopes` meets its contract.
-- Assumes nothing.
use native.Mathlib.Nat.{sub-zero}
use Rattle.minsk.specs.Reckoning.{section_in}
use Rattle.minsk.proofs.StationSlopes.{all_slopes}
use Rattle.minsk.proofs.turning.Station.slopes.Goals as goal

pub returns : goal.returns
returns c =
    rw (c.at_least-shoulder.ensures, c.at_least-inner.ensures, sub-zero)
    (all_slopes (section_in c.args.self.runoff) c.args.self.d _ c.outer_slope-outer.ensures)
