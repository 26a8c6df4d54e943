-- What the private functions that work a row afresh ask and promise: what its numbers gain until the next row, and how they are walked from there.
-- Assumes nothing.
use Rattle.std.specs.Prelude.{◌≡◌, cond, List, ℕ, suc, ◌+◌, ◌*◌, ◌-◌, ◌<◌, leb, ltb, max, ℤ, pos, negsuc}
use Rattle.exact.specs.Exact.{whole, ratio, ◌⊕◌, ◌≈◌}
use Rattle.exact.specs.Rounding.{units}
use Rattle.card.specs.declared.Card.{Card}
use Rattle.card.specs.Rows.{tie}
use Rattle.section.specs.Lines.{Section, section_of, is_even, joint_num}
use Rattle.section.specs.Datum.{axis_on}
use Rattle.walking.specs.declared.Parts.{Parts}
use Rattle.walking.specs.declared.Curve.{Curve}
use Rattle.walking.specs.Curves.{rounded_curve}
use Rattle.runoff.specs.declared.turning.Slopes.{Slopes}
use Rattle.runoff.specs.Reckoning.{slopes_parts}
use Rattle.runoff.specs.Rows.{cells, row_of, station_of}
use Rattle.walk.specs.declared.afresh.Curves.{Curves}
use Rattle.walk.specs.declared.afresh.Footing.{Footing}
use Rattle.walk.specs.declared.afresh.Gains.{Gains}
use Rattle.walk.specs.declared.stepping.Walker.{Walker}
use Rattle.walk.specs.declared.turns.Turns.{Turns}
use Rattle.walk.specs.Stepping.{cells_on}
use Rattle.walk.specs.Turns.{end_of}

abbrev pub parts : ℕ → ℕ → Parts
parts a b = record { up = a; down = b }

-- ---- what is gained until the next row, s mm on
-- by the outer slope over its denominator at the station d
unfoldable pub outer_gain : Section → ℕ → ℕ → ℕ
outer_gain x s d = cond (is_even x) ((x.p + x.v) * s) (cond (leb (3 * d) (joint_num x)) (3 * s) (3 * (x.v - x.p) * s))

-- from row i, which stands at d: the inner slope and the shoulder's gain it from their change of sides on, and the shoulder loses what is widened up to its own
unfoldable pub gains_in : Turns → Section → ℕ → ℕ → ℕ → Gains
gains_in t x s i d =
    let outer = outer_gain x s d in
    let inner = cond (ltb i t.inner) 0 outer in
    record {
      outer = outer;
      inner = inner;
      shoulder = cond (ltb i t.shoulder) 0 inner;
      widening = x.W * s;
      lost = cond (ltb i t.kept) (x.W * s) 0;
    }

-- what an axis of this grade climbs until the next row
unfoldable pub climb_of : ℤ → ℕ → Parts
climb_of (pos n) s = parts (n * s) 0
climb_of (negsuc n) s = parts 0 (suc n * s)

-- the axis of a card at the stations d, d + step and so on: so many whole units, and the rest with what is climbed until there
pub record Foots (card : Card) (d : ℕ) (f : Footing) : Type 0 where
  pub unit : f.axis.unit ≡ card.unit
  pub stands :
      (k : ℕ) →
      axis_on card.datum (section_of card) (whole (d + k * card.step))
      ≈ units (1000 * card.unit) f.axis.count ⊕ ratio (f.axis.rest + k * f.climb.up) (k * f.climb.down) 1

-- ---- the numbers, as they are walked from a row
-- a height, at/e micrometres above the axis: the axis's rest is rounded with it, its whole units are added after
unfoldable pub height_curve : Footing → Parts → Parts → Parts → ℕ → Curve
height_curve f at rise bend e =
    let a = f.axis in
    rounded_curve (tie a.unit) (1000 * a.unit) e (parts (a.rest * e + at.up) at.down) (parts (f.climb.up * e + rise.up) (f.climb.down * e + rise.down))
    bend a.count

-- the widening counts from nought
unfoldable pub widening_curve : ℕ → Section → Gains → ℕ → Curve
widening_curve unit x g d = rounded_curve (tie unit) (1000 * unit) x.L (parts (1000 * (x.W * d)) 0) (parts (1000 * g.widening) 0) (parts 0 0) (pos 0)

-- n times the outer slope: n is the half carriageway, or the shoulder with it
abbrev pub outer_curve : Footing → ℕ → Gains → Slopes → Curve
outer_curve f n g s = height_curve f (parts (n * s.outer.up) (n * s.outer.down)) (parts (n * g.outer) 0) (parts 0 0) s.outer.over

unfoldable pub outer_curves : Footing → Section → Gains → Slopes → Curves
outer_curves f x g s = record { brow = outer_curve f (x.h + x.c) g s; edge = outer_curve f x.h g s }

-- what is kept of the shoulder at d, over L
abbrev pub kept_at : Section → ℕ → ℕ
kept_at x d = max (x.m * x.L) (x.c * x.L - x.W * d)

abbrev pub wide_at : Section → ℕ → ℕ
wide_at x d = x.h * x.L + x.W * d

abbrev pub lane_rise : Section → Gains → Slopes → ℕ → ℕ
lane_rise x g s d = wide_at x d * g.inner + g.widening * (s.inner + g.inner)

abbrev pub lane_bend : Gains → ℕ
lane_bend g = 2 * (g.widening * g.inner)

unfoldable pub inner_curves : Footing → Section → Gains → Slopes → ℕ → Curves
inner_curves f x g s d =
    let lane = wide_at x d * s.inner in
    let full = x.L * s.outer.over in
    record {
      brow =
          height_curve f (parts 0 (lane + kept_at x d * s.shoulder))
          (parts (g.lost * (s.shoulder + g.shoulder)) (lane_rise x g s d + kept_at x d * g.shoulder))
          (parts (2 * (g.lost * g.shoulder)) (lane_bend g))
          full;
      edge = height_curve f (parts 0 lane) (parts 0 (lane_rise x g s d)) (parts 0 (lane_bend g)) full;
    }

-- the row at the station d
unfoldable pub walker_by : Footing → Section → Gains → ℕ → ℕ → Walker
walker_by f x g d step =
    let s = slopes_parts x d in
    let inner = inner_curves f x g s d in
    let outer = outer_curves f x g s in
    record {
      station = d;
      step = step;
      widening = widening_curve f.axis.unit x g d;
      inner_brow = inner.brow;
      inner_edge = inner.edge;
      axis = height_curve f (parts 0 0) (parts 0 0) (parts 0 0) 1;
      outer_edge = outer.edge;
      outer_brow = outer.brow;
    }

-- ---- the rows of a card
-- the numbers of row i
abbrev pub rows_of : Card → ℕ → List ℤ
rows_of card i = cells (row_of card (station_of card i))

-- a row, walked from row i of a card, gives the card's rows up to the end of its piece
abbrev pub Walks : Card → ℕ → Walker → Type 0
Walks card i w = (k : ℕ) → i + k < end_of card i → cells_on w k ≡ rows_of card (i + k)

-- k rows on from the station d the lines have gained so: the piece has one stage and one side of every rule
pub record Holds (x : Section) (s d : ℕ) (g : Gains) (k : ℕ) : Type 0 where
  pub outer_up : (slopes_parts x (d + k * s)).outer.up ≡ (slopes_parts x d).outer.up + k * g.outer
  pub outer_down : (slopes_parts x (d + k * s)).outer.down ≡ (slopes_parts x d).outer.down
  pub outer_over : (slopes_parts x (d + k * s)).outer.over ≡ (slopes_parts x d).outer.over
  pub inner : (slopes_parts x (d + k * s)).inner ≡ (slopes_parts x d).inner + k * g.inner
  pub shoulder : (slopes_parts x (d + k * s)).shoulder ≡ (slopes_parts x d).shoulder + k * g.shoulder
  pub kept : kept_at x (d + k * s) + k * g.lost ≡ kept_at x d
