-- Document 02, Slip 7, the method of the Minsk handbook: each line at any exact station s, from 0 to L, fractions included.
-- A length in mm times a slope in ‰ is a height in micrometres. Heights count from the axis; those of an absolute card are these, moved with its
-- axis (`Datum.antt`).
-- Assumes nothing.
use Rattle.std.specs.Prelude.{◌≡◌, cond, ℕ, ◌+◌, ◌*◌, ◌-◌, ◌/◌, ◌≤◌, ◌<◌}
use Rattle.exact.specs.Exact.{Exact, frac, whole, minus, ◌⊕◌, ◌⊖◌, ◌⊗◌, ◌⊘◌, ◌≼◌, at_most, greater, line}
use Rattle.card.specs.declared.Card.{Card}
use Rattle.minsk_section.specs.Widths.{Widths, widths_at}

-- the letters: half carriageway h, shoulder with its strip c, strip t, least shoulder m, full widening W and clothoid L in mm;
-- full slope v in ‰; radius R in m
pub record Section : Type 0 where
  pub h : ℕ
  pub c : ℕ
  pub t : ℕ
  pub m : ℕ
  pub v : ℕ
  pub W : ℕ
  pub L : ℕ
  pub R : ℕ

abbrev pub section_by : Widths → Card → Section
section_by w card =
    record {
      h = w.half;
      c = w.shoulder;
      t = w.strip;
      m = w.least;
      v = card.full_slope;
      W = card.full_widening;
      L = card.clothoid;
      R = card.radius;
    }

abbrev pub section_of : Card → Section
section_of card = section_by (widths_at card.profile) card

-- station d runs from 0 to L, in mm; fractions of a millimetre are stations too
pub record On (x : Section) (s : Exact) : Type 0 where
  pub fraction : 0 < s.den
  pub from : whole 0 ≼ s
  pub to : s ≼ whole x.L

-- "with crown 20‰"
abbrev pub crown : ℕ
crown = 20

-- "The first stage ends at L × R / 2000 .."
abbrev pub stage_end : Section → Exact
stage_end x = frac (x.L * x.R) 2000

-- ".. and is 2 × h × 20 / 5 mm long, .."
abbrev pub first_length : Section → Exact
first_length x = frac (2 * x.h * crown) 5

abbrev pub stage_start : Section → Exact
stage_start x = stage_end x ⊖ first_length x

-- ".. the outer edge climbing at 5‰; ..": its slope gains 5 × the way over the half carriageway
abbrev pub first_slope : Section → Exact → Exact
first_slope x s = minus crown ⊕ whole 5 ⊗ (s ⊖ stage_start x) ⊘ whole x.h

-- "From its end the slope goes in a straight line from 20‰ to full slope at L."
abbrev pub second_slope : Section → Exact → Exact
second_slope x s = line (stage_end x) (whole crown) (whole x.L) (whole x.v) s

-- ".. before it the road is crowned."
unfoldable pub outer_slope : Section → Exact → Exact
outer_slope x s = cond (at_most s (stage_start x)) (minus crown) (cond (at_most s (stage_end x)) (first_slope x s) (second_slope x s))

-- "The inner slope is as before.": the greater of the crown slope and the outer slope
unfoldable pub inner_slope : Section → Exact → Exact
inner_slope x s = greater (whole crown) (outer_slope x s)

-- "Widening starts 20 m before L × R / 500, .."
abbrev pub wide_end : Section → Exact
wide_end x = frac (x.L * x.R) 500

abbrev pub wide_start : Section → Exact
wide_start x = wide_end x ⊖ whole 20000

-- ".. grows in a straight line over 20 m ..": from 0 to W; past L × R / 500 it stays W
abbrev pub growing : Section → Exact → Exact
growing x s = line (wide_start x) (whole 0) (wide_end x) (whole x.W) s

unfoldable pub widening : Section → Exact → Exact
widening x s = cond (at_most s (wide_start x)) (whole 0) (cond (at_most s (wide_end x)) (growing x s) (whole x.W))

-- ".. and narrows the inner shoulder to no less than 1500 (II, III) or 1000 (IV).": the shoulder with its strip
unfoldable pub inner_shoulder : Section → Exact → Exact
inner_shoulder x s = greater (whole x.m) (whole x.c ⊖ widening x s)

-- "Seven lines are reckoned from the axis, which is 0, .."
abbrev pub axis : Exact
axis = whole 0

-- the outer edge, half the carriageway from the axis
unfoldable pub outer_edge : Section → Exact → Exact
outer_edge x s = axis ⊕ whole x.h ⊗ outer_slope x s

-- "the strip lies at carriageway slope; .."
unfoldable pub outer_strip : Section → Exact → Exact
outer_strip x s = outer_edge x s ⊕ whole x.t ⊗ outer_slope x s

-- ".. the outer shoulder too; ..": c is the shoulder with its strip
unfoldable pub outer_brow : Section → Exact → Exact
outer_brow x s = outer_edge x s ⊕ whole x.c ⊗ outer_slope x s

-- ".. the inner shoulder beyond the strip at 40‰ or the inner slope, whichever is greater."
unfoldable pub shoulder_slope : Section → Exact → Exact
shoulder_slope x s = greater (whole 40) (inner_slope x s)

-- the inner edge is the axis less (h + widening) times the inner slope
unfoldable pub inner_edge : Section → Exact → Exact
inner_edge x s = axis ⊖ (whole x.h ⊕ widening x s) ⊗ inner_slope x s

-- the strip follows the widened edge, at carriageway slope
unfoldable pub inner_strip : Section → Exact → Exact
inner_strip x s = inner_edge x s ⊖ whole x.t ⊗ inner_slope x s

-- the brow beyond the rest of the shoulder, at the shoulder's own slope
unfoldable pub inner_brow : Section → Exact → Exact
inner_brow x s = inner_strip x s ⊖ (inner_shoulder x s ⊖ whole x.t) ⊗ shoulder_slope x s

-- all of these are exact fractions: a whole number over a whole number above nought
pub record Fractions (x : Section) (s : Exact) : Type 0 where
  pub outer_slope : 0 < (outer_slope x s).den
  pub inner_slope : 0 < (inner_slope x s).den
  pub widening : 0 < (widening x s).den
  pub inner_shoulder : 0 < (inner_shoulder x s).den
  pub shoulder_slope : 0 < (shoulder_slope x s).den
  pub outer_edge : 0 < (outer_edge x s).den
  pub outer_strip : 0 < (outer_strip x s).den
  pub outer_brow : 0 < (outer_brow x s).den
  pub inner_edge : 0 < (inner_edge x s).den
  pub inner_strip : 0 < (inner_strip x s).den
  pub inner_brow : 0 < (inner_brow x s).den

-- ---- what an accepted card gives the lines, each in whole numbers
pub record Premises (x : Section) : Type 0 where
  pub wide : 3000 ≤ x.h
  pub strips : x.t ≤ x.m
  pub kept : x.m ≤ x.c
  -- not 36: the radius is not 2000, the full slope not 20
  pub curved : x.R < 2000
  pub turned : crown < x.v
  pub long : 0 < x.L
  -- not 37: the first stage is not longer than L × R / 2000
  pub room : 16000 * x.h ≤ x.L * x.R
  -- not 38: where there is a widening, R is at most 500 and L × R / 500 is whole
  pub near : 0 < x.W → x.R ≤ 500
  pub exactly : 0 < x.W → 500 * (x.L * x.R / 500) ≡ x.L * x.R

-- what it gives the climbing rule besides: not 8, h × (v − 20) is not above added slope × (L − L × R / 2000)
pub record Gentle (added : ℕ) (x : Section) : Type 0 where
  pub gentle : 2000 * (x.h * (x.v - crown)) ≤ added * (2000 * x.L - x.L * x.R)
  pub steep : 5 ≤ added
