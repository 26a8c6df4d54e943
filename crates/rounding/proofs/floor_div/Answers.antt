-- `rounding::floor_div` meets its contract.
-- Assumes nothing.
use mathlib.Core.Path.{◌∙◌, sym}
use native.Mathlib.Omega.{arith}
use borrow.Author.Tests.{le-leb, lt-leb}
use mir.Syntax.{w64}
use mir.Facts.{to_z-of_z}
use Rattle.rounding.specs.Nearest.{most_divisor, floor_of}
use Rattle.rounding.proofs.Sizes.{floor_of_lem}
use Rattle.rounding.proofs.floor_div.Goals as goal

pub returns-then-m-eq0 : goal.returns-then-m-eq0
unfolding floor_of
returns-then-m-eq0 c = simp (lt-leb 1 c.args.m (omega arith))

pub returns-then-m-gt-MOST_DIVISOR : goal.returns-then-m-gt-MOST_DIVISOR
unfolding floor_of
returns-then-m-gt-MOST_DIVISOR c = simp (le-leb 1 c.args.m (omega arith), lt-leb c.args.m most_divisor (omega arith))

pub divided_down-requires : goal.divided_down-requires
divided_down-requires c = (omega arith, omega arith)

pub returns : goal.returns
returns c =
    let s = c.before.before.before in
    to_z-of_z {w = w64} (record { sfits = c.divided_down.type_inv })
    ∙ (rw (to_z-of_z s.ranges.a) at c.divided_down.ensures)
    ∙ sym (floor_of_lem s.args.a s.args.m (omega arith) (omega arith))
