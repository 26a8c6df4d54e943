-- Document 02, Slip 8: "each station where a greater-of rule changes sides".
-- Assumes nothing.
use Rattle.std.specs.Prelude.{◌≡◌, ◌⊎◌, ◌<◌}
use Rattle.exact.specs.Exact.{Exact, whole, greater, ◌⊖◌, ◌≼◌, ◌≺◌}
use Rattle.section.specs.Lines.{Section, On, outer_slope, inner_slope, inner_shoulder, shoulder_slope, widening}

-- the three rules of `Lines.antt` that take the greater of two
pub data Rule : Type 0 where
  inner_slope_rule : Rule
  shoulder_slope_rule : Rule
  inner_shoulder_rule : Rule

-- the two sides of each, in the words of the rule: "the greater of p and the outer slope", "the greater of q and the inner slope",
-- "the greater of m and c less the widening"
unfoldable pub one_side : Rule → Section → Exact → Exact
one_side inner_slope_rule x s = whole x.p
one_side shoulder_slope_rule x s = whole x.q
one_side inner_shoulder_rule x s = whole x.m

unfoldable pub other_side : Rule → Section → Exact → Exact
other_side inner_slope_rule x s = outer_slope x s
other_side shoulder_slope_rule x s = inner_slope x s
other_side inner_shoulder_rule x s = whole x.c ⊖ widening x s

-- a is greater before the station z and b after it: from some station before z up to z, and past z up to some station after it
pub record Crosses (x : Section) (a b : Exact → Exact) (z : Exact) : Type 0 where
  pub fraction : 0 < z.den
  pub from : Exact
  pub to : Exact
  pub from_on : On x from
  pub to_on : On x to
  pub earlier : from ≺ z
  pub later : z ≺ to
  pub before : (s : Exact) → On x s → from ≼ s → s ≺ z → b s ≺ a s
  pub after : (s : Exact) → On x s → z ≺ s → s ≼ to → a s ≺ b s

-- the rule changes sides at z: one side is greater before it and the other after; a rule that only touches does not
abbrev pub ChangesSides : Rule → Section → Exact → Type 0
ChangesSides rule x z = Crosses x (one_side rule x) (other_side rule x) z ⊎ Crosses x (other_side rule x) (one_side rule x) z

-- these are the sides of the rules of `Lines.antt`
pub record Sides (x : Section) (s : Exact) : Type 0 where
  pub inner_slope : inner_slope x s ≡ greater (one_side inner_slope_rule x s) (other_side inner_slope_rule x s)
  pub shoulder_slope : shoulder_slope x s ≡ greater (one_side shoulder_slope_rule x s) (other_side shoulder_slope_rule x s)
  pub inner_shoulder : inner_shoulder x s ≡ greater (one_side inner_shoulder_rule x s) (other_side inner_shoulder_rule x s)

-- THEOREM (proofs/Changing.antt): so it is at every station of every section
abbrev pub SidesTheorem : Type 0
SidesTheorem = (x : Section) (s : Exact) → Sides x s
