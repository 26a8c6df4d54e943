-- `minsk::conditions::is_too_long` meets its contract.
-- Assumes nothing.
use Rattle.std.proofs.Common.{sym}
use Rattle.minsk_section.specs.Lines.{section_by}
use Rattle.minsk.specs.Reckoning.{widths_in}
use Rattle.minsk.proofs.Unmet.{too_long_lem}
use Rattle.minsk.proofs.conditions.is_too_long.Goals as goal

pub returns : goal.returns
returns c = rw (c.from.ensures, c.from-2.ensures, c.from-first.ensures) (sym (too_long_lem (section_by (widths_in c.args.widths) c.args.card)))
