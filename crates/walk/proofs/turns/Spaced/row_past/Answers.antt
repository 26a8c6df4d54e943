-- `walk::turns::Spaced::row_past` meets its contract.
-- Assumes nothing.
use mathlib.Core.Path.{◌≡◌}
use Prim.Native.Nat.{ℕ, ◌+◌, ◌-◌, ◌/◌, ◌≤◌}
use native.Mathlib.Omega.{arith}
use Rattle.std.specs.Int.{div_ceil}
use Rattle.walk.specs.Turns.{row_past}
use Rattle.walk.proofs.turns.Spaced.row_past.Goals as goal

-- rounded up
upwards : (a b : ℕ) → 1 ≤ b → div_ceil a b ≡ (a + (b - 1)) / b
upwards a b h = grind arith

pub returns : goal.returns
unfolding row_past
returns c = rw (c.min.ensures, c.div_ceil-row.ensures, c.from.ensures, upwards _ c.args.self.step c.args.self.apart)
