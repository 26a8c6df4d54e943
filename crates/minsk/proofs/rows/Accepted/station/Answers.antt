-- `minsk::rows::Accepted::station` meets its contract: a row stands on the clothoid of an accepted card.
-- Assumes nothing.
use mathlib.Core.Path.{ap}
use Rattle.card.proofs.RowPlaces.{station_most}
use Rattle.minsk_section.specs.Lines.{Section}
use Rattle.minsk.proofs.rows.Accepted.station.Goals as goal

pub invariant_of-result : goal.invariant_of-result
invariant_of-result c =
    let a = c.args.self in
    record {
      limits = a.limits;
      within = rw (ap (λ (x : Section). x.L) a.made, c.station_of-d.ensures) (station_most a.card.clothoid a.card.step c.args.i);
    }
