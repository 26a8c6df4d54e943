-- `minsk::turning::Station::row` meets its contract: each number is what its function ensures.
-- Assumes nothing.
use mathlib.Core.Path.{ap, ◌∙◌}
use native.Mathlib.Omega.{arith}
use borrow.Author.Rules.{rules}
use mir.Syntax.{w32}
use mir.Val.{SFits}
use mir.Facts.{to_z-of_z}
use Rattle.exact.proofs.Machine.{nat_back}
use Rattle.minsk.specs.declared.rows.Sides.{Sides}
use Rattle.minsk.specs.Reckoning.{inner_sides, outer_sides, row_on}
use Rattle.minsk.proofs.Fields.{same_row}
use Rattle.minsk.proofs.turning.Station.row.Goals as goal

pub returns : goal.returns
unfolding row_on inner_sides outer_sides
returns c =
    let inner = c.inner_sides-inner in
    let outer = c.outer_sides-outer in
    let out_edge : SFits w32 outer.result.edge = search rules in
    let out_strip : SFits w32 outer.result.strip = search rules in
    let out_brow : SFits w32 outer.result.brow = search rules in
    let in_edge : SFits w32 inner.result.edge = search rules in
    let in_strip : SFits w32 inner.result.strip = search rules in
    let in_brow : SFits w32 inner.result.brow = search rules in
    same_row
    (nat_back w32 c.args.self.d (omega (arith, c.args.self.within, c.args.self.limits.sizes.clothoid_most)))
    (to_z-of_z {w = w32} (record { sfits = c.widened.type_inv }) ∙ c.widened.ensures)
    (to_z-of_z c.ranges.number)
    (to_z-of_z out_edge ∙ ap (λ (x : Sides). x.edge) outer.ensures)
    (to_z-of_z out_strip ∙ ap (λ (x : Sides). x.strip) outer.ensures)
    (to_z-of_z out_brow ∙ ap (λ (x : Sides). x.brow) outer.ensures)
    (to_z-of_z in_edge ∙ ap (λ (x : Sides). x.edge) inner.ensures)
    (to_z-of_z in_strip ∙ ap (λ (x : Sides). x.strip) inner.ensures)
    (to_z-of_z in_brow ∙ ap (λ (x : Sides). x.brow) inner.ensures)
