-- `size` of a signed number: below nought the minus is one byte more.
use Rattle.std.proofs.Common.{arith, ap, length}
use mir.Facts.{to_z-of_z}
use Rattle.decimal.proofs.DecimalLaws.{text_below, text_above}
use Rattle.decimal.proofs.I32Text.size.Goals as goal

pub returns-then-self-lt0-clause-value : goal.returns-then-self-lt0-clause-value
returns-then-self-lt0-clause-value c = omega (arith, ap length (text_below (to_z-of_z c.ranges.self) c.unsigned_abs.ensures.value c.if-self-lt0.true))

pub returns-else-self-lt0-clause-value : goal.returns-else-self-lt0-clause-value
returns-else-self-lt0-clause-value c = omega (arith, ap length (text_above (to_z-of_z c.ranges.self) c.unsigned_abs.ensures.value c.if-self-lt0.false))
