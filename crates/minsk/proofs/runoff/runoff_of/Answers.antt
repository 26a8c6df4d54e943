-- `minsk::runoff::runoff_of` meets its contract.
-- Assumes nothing.
use mathlib.Core.Path.{refl}
use Rattle.minsk.specs.Reckoning.{widths_in}
use Rattle.minsk.proofs.Places.{limits_by}
use Rattle.minsk.proofs.runoff.runoff_of.Goals as goal

pub returns-clause-limits : goal.returns-clause-limits
returns-clause-limits c =
    rw (
      c.from.ensures,
      c.from-2.ensures,
      c.from-3.ensures,
      c.from-4.ensures,
      c.from-5.ensures,
      c.from-6.ensures,
      c.from-7.ensures,
      c.from-8.ensures,
    )
    (limits_by c.args.card (widths_in c.widths_at-w.result) _ c.widths_at-w.ensures refl c.requires c.stage_of.ensures c.growth_of.ensures)
