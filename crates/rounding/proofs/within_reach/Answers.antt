-- `rounding::within_reach` meets its contract.
-- Assumes nothing.
use mathlib.Core.Path.{sym, ◌∙◌}
use native.Mathlib.Omega.{arith}
use borrow.Author.Rules.{rules}
use mir.Syntax.{w32}
use mir.Facts.{to_z-of_z}
use Rattle.rounding.specs.Nearest.{tie_of, Roundable}
use Rattle.rounding.proofs.Sizes.{nearest_laws}
use Rattle.rounding.proofs.within_reach.Goals as goal

sized : (c : goal.Then-size-reach) → Roundable c.args.num c.args.den c.args.unit
sized c =
    let pre = c.requires in
    record { few = pre.1; unit_least = pre.2; unit_most = pre.3; near = omega (arith, pre.0, c.if-size-reach.true) }

pub overflow_mul-reach : goal.overflow_mul-reach
overflow_mul-reach c = search rules

pub divided-requires : goal.divided-requires
divided-requires c = rw (to_z-of_z c.ranges.num) (sized c)

pub returns-then-size-reach : goal.returns-then-size-reach
returns-then-size-reach c =
    let s = c.before.before in
    to_z-of_z {w = w32} (record { sfits = c.divided.type_inv })
    ∙ (rw (to_z-of_z s.ranges.num) at c.divided.ensures)
    ∙ sym ((nearest_laws (tie_of s.args.tie) s.args.num s.args.den s.args.unit).within (sized c.before))

pub returns-else-size-reach : goal.returns-else-size-reach
returns-else-size-reach c =
    let s = c.before in
    let never : ¬ Roundable s.args.num s.args.den s.args.unit = λ z. omega (arith, z.near, s.requires.0, c.if-size-reach.false) in
    sym ((nearest_laws (tie_of s.args.tie) s.args.num s.args.den s.args.unit).beyond never)
