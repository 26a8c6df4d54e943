-- `minsk::runoff::stage_of` meets its contract.
-- Assumes nothing.
use Rattle.std.proofs.Common.{arith}
use Rattle.minsk.proofs.Accepts.{accepted}
use Rattle.minsk.proofs.Places.{stage_plain, stage_quarter}
use Rattle.minsk.proofs.runoff.stage_of.Goals as goal

pub returns-then-card-eq0 : goal.returns-then-card-eq0
returns-then-card-eq0 c =
    rw (c.from.ensures, c.from-2.ensures) (stage_plain (accepted c.args.card c.requires).lines c.if-card-eq0.true)

pub returns : goal.returns
returns c =
    rw (c.from.ensures, c.from-2.ensures) (stage_quarter (accepted c.args.card c.requires).lines (omega (arith, c.if-card-eq0.false)))
