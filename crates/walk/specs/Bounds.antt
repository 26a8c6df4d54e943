-- Bounds of what is reckoned afresh.
-- Assumes nothing.
use Rattle.std.specs.Prelude.{ℕ, ◌*◌, ◌≤◌}
use Rattle.walking.specs.declared.Parts.{Parts}
use Rattle.runoff.specs.declared.turning.Station.{Station}
use Rattle.runoff.specs.Reckoning.{section_in, slopes_parts}
use Rattle.walk.specs.declared.afresh.Gains.{Gains}

-- the gains of a row at a station
pub record Bounded (t : Station) (g : Gains) : Type 0 where
  pub outer : g.outer ≤ 90 * (slopes_parts (section_in t.runoff) t.d).outer.over
  pub inner : g.inner ≤ g.outer
  pub shoulder : g.shoulder ≤ g.outer
  pub widening : g.widening ≤ 3500 * t.runoff.clothoid
  pub lost : g.lost ≤ g.widening

-- a height above the axis, its rise and its bend, over one denominator
pub record Raised (at rise bend : Parts) (over : ℕ) : Type 0 where
  pub some : 1 ≤ over
  pub few : over ≤ 270000000000
  pub at_up : at.up ≤ 4000000 * over
  pub at_down : at.down ≤ 4000000 * over
  pub rise_up : rise.up ≤ 4000000 * over
  pub rise_down : rise.down ≤ 4000000 * over
  pub bend_up : bend.up ≤ 4000000 * over
  pub bend_down : bend.down ≤ 4000000 * over
