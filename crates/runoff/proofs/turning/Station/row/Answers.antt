-- `runoff::turning::Station::row` meets its contract: each number is what its function ensures.
-- Assumes nothing.
use mathlib.Core.Path.{ap, ◌∙◌}
use native.Mathlib.Omega.{arith}
use borrow.Author.Rules.{rules}
use mir.Syntax.{w32}
use mir.Val.{SFits}
use mir.Facts.{to_z-of_z}
use Rattle.exact.proofs.Machine.{nat_back}
use Rattle.runoff.specs.declared.rows.Sides.{Sides}
use Rattle.runoff.specs.Reckoning.{inner_sides, outer_sides, row_on}
use Rattle.runoff.proofs.StationSlopes.{slopes_at}
use Rattle.runoff.proofs.Fields.{same_row}
use Rattle.runoff.proofs.turning.Station.row.Goals as goal

pub inner_sides-inner-requires : goal.inner_sides-inner-requires
inner_sides-inner-requires c = rw c.slopes-s.ensures (slopes_at c.args.self)

pub outer_sides-outer-requires : goal.outer_sides-outer-requires
outer_sides-outer-requires c = rw c.slopes-s.ensures (slopes_at c.args.self)

pub returns : goal.returns
unfolding row_on inner_sides outer_sides
returns c =
    let inner = c.inner_sides-inner in
    let outer = c.outer_sides-outer in
    let in_brow : SFits w32 inner.result.brow = search rules in
    let in_edge : SFits w32 inner.result.edge = search rules in
    let out_brow : SFits w32 outer.result.brow = search rules in
    let out_edge : SFits w32 outer.result.edge = search rules in
    same_row
    (nat_back w32 c.args.self.d (omega (arith, c.args.self.within, c.args.self.limits.clothoid_most)))
    (to_z-of_z {w = w32} (record { sfits = c.widening.type_inv }) ∙ c.widening.ensures)
    (to_z-of_z in_brow ∙ ap (λ (x : Sides). x.brow) inner.ensures)
    (to_z-of_z in_edge ∙ ap (λ (x : Sides). x.edge) inner.ensures)
    (to_z-of_z c.ranges.number)
    (to_z-of_z out_edge ∙ ap (λ (x : Sides). x.edge) outer.ensures)
    (to_z-of_z out_brow ∙ ap (λ (x : Sides). x.brow) outer.ensures)
