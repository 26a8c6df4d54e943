-- `runoff::turning::Station::slopes` meets its contract; nothing overflows, since the slopes at a station have their bounds.
-- Assumes nothing.
use mathlib.Core.Path.{◌≡◌, refl}
use native.Mathlib.Nat.{sub-zero}
use native.Mathlib.Omega.{arith}
use Rattle.runoff.specs.declared.turning.Station.{Station}
use Rattle.runoff.specs.declared.turning.Slope.{Slope}
use Rattle.runoff.specs.Reckoning.{section_in, SlopeIs, slope_parts, slopes_parts}
use Rattle.exact.specs.Exact.{whole}
use Rattle.section.specs.Lines.{outer_slope}
use Rattle.runoff.proofs.StationSlopes.{slope_lem, crown_most, side_most}
use Rattle.runoff.proofs.turning.Station.slopes.Goals as goal

-- the outer slope, as the call gives it, is what the bounds are of
bounded : (t : Station) {s : Slope} → s ≡ slope_parts (section_in t.runoff) t.d → SlopeIs (outer_slope (section_in t.runoff) (whole t.d)) s
bounded t is = rw is (slope_lem t)

pub overflow_mul-r : goal.overflow_mul-r
overflow_mul-r c =
    let t = c.args.self in
    let f = bounded t c.outer_slope-outer.ensures in
    record { fits = omega (arith, f.few, crown_most t _ f) }

pub overflow_mul-r-2 : goal.overflow_mul-r-2
overflow_mul-r-2 c =
    let t = c.args.self in
    let f = bounded t c.outer_slope-outer.ensures in
    record { fits = omega (arith, f.few, side_most t _ f) }

pub returns : goal.returns
unfolding slopes_parts
returns c = rw (c.at_least-shoulder.ensures, c.at_least-inner.ensures, sub-zero, c.outer_slope-outer.ensures) refl
