-- `write` of bytes meets its contract.
-- Assumes nothing.
use Rattle.std.proofs.Common.{rules}
use Rattle.std.proofs.lemmas.Grind.{same_number_lists}
use Rattle.decimal.proofs.RefSliceU8Text.write.Goals as goal

pub returns-after-loop-i-clause-whole : goal.returns-after-loop-i-clause-whole
returns-after-loop-i-clause-whole c e = same_number_lists _ _ c.loop-i.invariant.0 (λ k h. c.loop-i.invariant.1 k (search rules))
