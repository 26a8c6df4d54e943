-- `minsk::conditions::is_too_steep` meets its contract.
-- Assumes nothing.
use Rattle.std.proofs.Common.{◌≡◌, ◌*◌, ◌-◌, sym, arith}
use native.Mathlib.Nat.{mul-sub}
use Rattle.minsk_section.specs.Lines.{section_by}
use Rattle.minsk.specs.Reckoning.{widths_in}
use Rattle.minsk.proofs.Unmet.{too_steep_lem}
use Rattle.minsk.proofs.conditions.is_too_steep.Goals as goal

pub returns : goal.returns
returns c =
    let x = section_by (widths_in c.args.widths) c.args.card in
    let left : x.L * (2000 - x.R) ≡ 2000 * x.L - x.L * x.R = omega (arith, mul-sub x.L 2000 x.R) in
    rw (c.from-4.ensures, c.from-3.ensures, c.from-2.ensures, c.from.ensures, c.from-turned.ensures, left)
    (sym (too_steep_lem c.args.added x c.requires.length.0))
