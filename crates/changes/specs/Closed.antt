-- Where the rules change sides, in closed form: as numerator and denominator, where there is such a station.
-- Assumes nothing.
use Rattle.std.specs.Prelude.{◌≡◌, ◌↔◌, Bool, true, cond, ℕ, ◌+◌, ◌*◌, ◌-◌, ◌<◌, ltb}
use Rattle.exact.specs.Exact.{Exact, frac, ◌≈◌}
use Rattle.section.specs.Lines.{Section, is_even, joint_num, joint_den}
use Rattle.section.specs.Climbing.{ClimbPremises}
use Rattle.changes.specs.Rules.{Rule, inner_slope_rule, shoulder_slope_rule, inner_shoulder_rule, ChangesSides}

-- whether the rule changes sides: the full slope is above p, or above q, or the full widening leaves less than m of the shoulder
unfoldable pub changes : Rule → Section → Bool
changes inner_slope_rule x = ltb x.p x.v
changes shoulder_slope_rule x = ltb x.q x.v
changes inner_shoulder_rule x = ltb x.c (x.m + x.W)

-- what is left of the clothoid past the joint, in thirds of a mm, and what the outer slope gains there
abbrev pub run : Section → ℕ
run x = 3 * x.L - joint_num x

abbrev pub turned : Section → ℕ
turned x = x.v - x.p

-- the outer slope is p at 2 p L / (p + v), or at the joint; it is q at (p + q) L / (p + v), or as far past the joint as it gains q − p of v − p;
-- the widening is c − m at (c − m) L / W
unfoldable pub change_num : Rule → Section → ℕ
change_num inner_slope_rule x = cond (is_even x) (2 * x.p * x.L) (joint_num x)
change_num shoulder_slope_rule x = cond (is_even x) ((x.p + x.q) * x.L) (joint_num x * turned x + (x.q - x.p) * run x)
change_num inner_shoulder_rule x = (x.c - x.m) * x.L

unfoldable pub change_den : Rule → Section → ℕ
change_den inner_slope_rule x = cond (is_even x) (x.p + x.v) joint_den
change_den shoulder_slope_rule x = cond (is_even x) (x.p + x.v) (joint_den * turned x)
change_den inner_shoulder_rule x = x.W

abbrev pub change_at : Rule → Section → Exact
change_at rule x = frac (change_num rule x) (change_den rule x)

-- what the rules ask of a section besides what the climbing rule does: every profile's shoulder is steeper than its crown and wider than its least
pub record ChangePremises (added : ℕ) (x : Section) : Type 0 where
  pub climb : ClimbPremises added x
  pub steeper : x.p < x.q
  pub wider : x.m < x.c

-- where it changes sides, it does so at one station, which has this closed form and lies between the ends of the clothoid
pub record ChangeRule (rule : Rule) (x : Section) : Type 0 where
  pub fraction : changes rule x ≡ true → 0 < change_den rule x
  pub inside : changes rule x ≡ true → (0 < change_num rule x) × (change_num rule x < change_den rule x * x.L)
  pub exactly : (z : Exact) → 0 < z.den → ChangesSides rule x z ↔ ((changes rule x ≡ true) × (z ≈ change_at rule x))

-- THEOREM (proofs/Changing.antt): so it is with each of the three rules
abbrev pub ChangeTheorem : Type 0
ChangeTheorem = (added : ℕ) (x : Section) → ChangePremises added x → (rule : Rule) → ChangeRule rule x
