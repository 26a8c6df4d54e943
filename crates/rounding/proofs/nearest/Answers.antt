-- `rounding::nearest` meets its contract.
-- Assumes nothing.
use mathlib.Core.Path.{◌≡◌, sym}
use native.Mathlib.Omega.{arith}
use lib.IntN.{ℤ, pos}
use Prim.Native.Nat.{ℕ}
use Rattle.rounding.specs.Nearest.{tie_of, Roundable, nearest_of}
use Rattle.rounding.specs.declared.Tie.{Tie as TieRule}
use Rattle.rounding.proofs.Sizes.{nearest_laws}
use Rattle.rounding.proofs.nearest.Goals as goal

-- ---- beyond the bounds of den and unit
beyond : (rule : TieRule) (num : ℤ) (den unit : ℕ) → ¬ Roundable num den unit → pos 0 ≡ nearest_of (tie_of rule) unit num den
beyond rule num den unit never = sym ((nearest_laws (tie_of rule) num den unit).beyond never)

pub returns-then-den-gt-MOST_OVER : goal.returns-then-den-gt-MOST_OVER
returns-then-den-gt-MOST_OVER c = beyond c.args.tie c.args.num c.args.den c.args.unit (λ z. omega (arith, z.few))

pub returns-then-unit-eq0 : goal.returns-then-unit-eq0
returns-then-unit-eq0 c = beyond c.args.tie c.args.num c.args.den c.args.unit (λ z. omega (arith, z.unit_least))

pub returns-then-unit-gt10 : goal.returns-then-unit-gt10
returns-then-unit-gt10 c = beyond c.args.tie c.args.num c.args.den c.args.unit (λ z. omega (arith, z.unit_most))
