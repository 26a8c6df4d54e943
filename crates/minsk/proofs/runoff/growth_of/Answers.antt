-- `minsk::runoff::growth_of` meets its contract.
-- Assumes nothing.
use Rattle.std.proofs.Common.{arith}
use Rattle.minsk.proofs.Accepts.{accepted}
use Rattle.minsk.proofs.Places.{far, growth_none, growth_wide}
use Rattle.minsk.proofs.runoff.growth_of.Goals as goal

pub overflow_sub-start : goal.overflow_sub-start
overflow_sub-start c = rw (c.from.ensures, c.from-2.ensures) (far (accepted c.args.card c.requires).lines)

pub returns-then-card-eq0 : goal.returns-then-card-eq0
returns-then-card-eq0 c =
    rw (c.from.ensures, c.from-2.ensures) (growth_none (accepted c.args.card c.requires).lines c.if-card-eq0.true)

pub returns : goal.returns
returns c =
    rw (c.from.ensures, c.from-2.ensures) (growth_wide (accepted c.args.card c.requires).lines (omega (arith, c.if-card-eq0.false)))
