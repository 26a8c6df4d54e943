-- `minsk::widths::widths_at` meets its contract.
-- Assumes nothing.
use Rattle.std.proofs.Common.{◌≡◌, true, rules, sym, ◌∙◌}
use Rattle.card.specs.Words.{outside}
use Rattle.minsk_section.specs.Widths.{no_widths}
use Rattle.minsk_section.proofs.WidthEntries.{none_outside}
use Rattle.minsk.specs.Reckoning.{widths_in}
use Rattle.minsk.proofs.HeldWidths.{read_widths}
use Rattle.minsk.proofs.widths.widths_at.Goals as goal

pub returns-then-not-contains : goal.returns-then-not-contains
returns-then-not-contains c =
    let is : outside c.args.profile 1 3 ≡ true = search rules in
    let none : widths_in c.default.result ≡ no_widths = search rules in
    none ∙ sym (none_outside _ is)

pub returns : goal.returns
returns c = read_widths c.args.profile (search rules) (search rules)
