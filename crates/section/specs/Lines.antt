-- Document 01, "Lines of the cross-section", with the inner shoulder of document 02, Slip 1: each line at any exact station s, from 0 to L,
-- fractions included.
-- A length in mm times a slope in ‰ is a height in micrometres. Heights count from the inner brow at station 0; those of an absolute card are
-- these, moved with its axis (`Datum.antt`).
-- Assumes nothing.
use Rattle.std.specs.Prelude.{Bool, cond, ℕ, ◌+◌, ◌*◌, ◌<◌, leb}
use Rattle.exact.specs.Exact.{Exact, frac, whole, minus, ◌⊕◌, ◌⊖◌, ◌⊗◌, ◌⊘◌, ◌≼◌, at_most, greater, line}
use Rattle.card.specs.declared.Card.{Card}
use Rattle.card.specs.declared.Profile.{Profile}
use Rattle.card.specs.Profile.{profile_at}

-- the paper's letters: half carriageway h, shoulder c, least shoulder m, full widening W and clothoid L in mm; crown slope p, shoulder slope q
-- and full slope v in ‰
pub record Section : Type 0 where
  pub h : ℕ
  pub c : ℕ
  pub p : ℕ
  pub q : ℕ
  pub m : ℕ
  pub v : ℕ
  pub W : ℕ
  pub L : ℕ

abbrev pub section_by : Profile → Card → Section
section_by r card =
    record {
      h = r.half_width;
      c = r.shoulder_width;
      p = r.crown_slope;
      q = r.shoulder_slope;
      m = r.least_shoulder;
      v = card.full_slope;
      W = card.full_widening;
      L = card.clothoid;
    }

abbrev pub section_of : Card → Section
section_of card = section_by (profile_at card.profile) card

-- station d runs from 0 to L, in mm; fractions of a millimetre are stations too
pub record On (x : Section) (s : Exact) : Type 0 where
  pub fraction : 0 < s.den
  pub from : whole 0 ≼ s
  pub to : s ≼ whole x.L

-- the axis stays at c × q + h × p
abbrev pub axis_height : Section → ℕ
axis_height x = x.c * x.q + x.h * x.p

abbrev pub axis : Section → Exact
axis x = whole (axis_height x)

-- a runoff is even when h × (p + v) is at least 3 × L, else two-stage
abbrev pub is_even : Section → Bool
is_even x = leb (3 * x.L) (x.h * (x.p + x.v))

-- the joint of the two stages, where the outer slope is p: station 2 × h × p / 3
abbrev pub joint_num : Section → ℕ
joint_num x = 2 * x.h * x.p

abbrev pub joint_den : ℕ
joint_den = 3

abbrev pub joint : Section → Exact
joint x = frac (joint_num x) joint_den

-- even: the outer slope goes in a straight line from −p at 0 to v at L
abbrev pub even_slope : Section → Exact → Exact
even_slope x s = line (whole 0) (minus x.p) (whole x.L) (whole x.v) s

-- two-stage: the outer edge climbs at 3‰ until the joint, so that its slope gains 3 × s over the half carriageway
abbrev pub first_slope : Section → Exact → Exact
first_slope x s = minus x.p ⊕ whole 3 ⊗ s ⊘ whole x.h

-- from there the outer slope goes in a straight line from p to v at L
abbrev pub second_slope : Section → Exact → Exact
second_slope x s = line (joint x) (whole x.p) (whole x.L) (whole x.v) s

unfoldable pub outer_slope : Section → Exact → Exact
outer_slope x s = cond (is_even x) (even_slope x s) (cond (at_most s (joint x)) (first_slope x s) (second_slope x s))

-- the outer edge is the axis plus h times the outer slope
unfoldable pub outer_edge : Section → Exact → Exact
outer_edge x s = axis x ⊕ whole x.h ⊗ outer_slope x s

-- the outer brow is the outer edge plus c times the outer slope
unfoldable pub outer_brow : Section → Exact → Exact
outer_brow x s = outer_edge x s ⊕ whole x.c ⊗ outer_slope x s

-- the inner slope is the greater of p and the outer slope
unfoldable pub inner_slope : Section → Exact → Exact
inner_slope x s = greater (whole x.p) (outer_slope x s)

-- the widening at s is W × s / L, in mm, all on the inner side
unfoldable pub widening : Section → Exact → Exact
widening x s = whole x.W ⊗ s ⊘ whole x.L

-- the inner edge is the axis less (h + widening) times the inner slope
unfoldable pub inner_edge : Section → Exact → Exact
inner_edge x s = axis x ⊖ (whole x.h ⊕ widening x s) ⊗ inner_slope x s

-- the inner shoulder is the greater of m and c less the widening, in mm: where m is greater, the bank is widened
unfoldable pub inner_shoulder : Section → Exact → Exact
inner_shoulder x s = greater (whole x.m) (whole x.c ⊖ widening x s)

-- its slope is the greater of q and the inner slope
unfoldable pub shoulder_slope : Section → Exact → Exact
shoulder_slope x s = greater (whole x.q) (inner_slope x s)

-- the inner brow is the inner edge less shoulder times that slope
unfoldable pub inner_brow : Section → Exact → Exact
inner_brow x s = inner_edge x s ⊖ inner_shoulder x s ⊗ shoulder_slope x s

-- "first reached": where the outer slope first is v, when v equals p: station L in the even case and 2 × h × p / 3 in the two-stage case
unfoldable pub first_reached : Section → Exact
first_reached x = cond (is_even x) (whole x.L) (joint x)

-- all of these are exact fractions over a number above nought
pub record Fractions (x : Section) (s : Exact) : Type 0 where
  pub outer_slope : 0 < (outer_slope x s).den
  pub inner_slope : 0 < (inner_slope x s).den
  pub widening : 0 < (widening x s).den
  pub inner_shoulder : 0 < (inner_shoulder x s).den
  pub shoulder_slope : 0 < (shoulder_slope x s).den
  pub inner_brow : 0 < (inner_brow x s).den
  pub inner_edge : 0 < (inner_edge x s).den
  pub outer_edge : 0 < (outer_edge x s).den
  pub outer_brow : 0 < (outer_brow x s).den
