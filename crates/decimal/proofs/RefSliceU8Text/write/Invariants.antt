-- `write` of bytes: those before this one stand in the part.
-- Assumes nothing.
use Rattle.std.proofs.Common.{◌≡◌, ℕ, ◌<◌, length, get_or}
use Rattle.decimal.proofs.RefSliceU8Text.write.Given as goal

abbrev pub invariant-loop-i : goal.invariant-loop-i
invariant-loop-i l = (length l.part ≡ length l.self) × ((k : ℕ) → k < l.i → get_or l.part k 0 ≡ get_or l.self k 0)
