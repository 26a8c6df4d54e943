-- `heights::axis::Axis::height` meets its contract.
-- Assumes nothing.
use mathlib.Core.Path.{◌≡◌, ap, ap₂, ◌∙◌}
use Prim.Native.Nat.{ℕ, ◌*◌, ◌^◌}
use native.Mathlib.Nat.{mod-add-mod}
use borrow.Author.Rules.{rules}
use lib.IntN.{◌+ℤ◌}
use mir.Syntax.{w32}
use mir.Val.{SFits, to_z, of_z}
use mir.Facts.{to_z-of_z}
use Rattle.exact.proofs.Machine.{back, fits_as}
use Rattle.heights.specs.Counts.{count_of}
use Rattle.heights.specs.Heights.{count_above}
use Rattle.heights.proofs.OnAxis.{near, total_fits}
use Rattle.heights.proofs.axis.Axis.height.Goals as goal
use Rattle.heights.proofs.axis.Axis.height.Goals.{After-height-near}

-- the rounded number and the axis's count, as they are read back
module _ (c : After-height-near) where
  count_fits : SFits w32 c.args.self.count
  count_fits = search rules

  total-is : to_z w32 (of_z w32 c.height-near.result) +ℤ to_z w32 (of_z w32 c.args.self.count) ≡ near c.args.self c.args.up c.args.down c.args.over +ℤ c.args.self.count
  total-is = ap₂ ◌+ℤ◌ (to_z-of_z {w = w32} (record { sfits = c.height-near.type_inv }) ∙ c.height-near.ensures ∙ ap (λ (n : ℕ). count_of n c.args.down c.args.over c.args.self.unit) (mod-add-mod (c.args.self.rest * c.args.over) (2 ^ 64) c.args.up)) (to_z-of_z count_fits)

pub overflow_add-result : goal.overflow_add-result
overflow_add-result c =
    let a = c.args in
    fits_as (total-is (goal.at.overflow_add-result c).After-height-near) (total_fits a.self a.up a.down a.over)

pub returns : goal.returns
unfolding count_above
returns c =
    let a = c.args in
    back (total-is (goal.at.returns c).After-height-near) (total_fits a.self a.up a.down a.over)
