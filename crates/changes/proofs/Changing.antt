-- Each greater-of rule changes sides where its closed form says, and nowhere else.
-- Assumes nothing.
use mathlib.Core.Path.{◌≡◌, refl}
use mathlib.Core.Bool.{true}
use mathlib.Core.Logic.{◌↔◌}
use Prim.Native.Nat.{ℕ, ◌+◌, ◌*◌, ◌≤◌, ◌<◌}
use native.Mathlib.Nat.{mul-pos, mul-lt-mul_of_pos_right}
use native.Mathlib.Decide.{dec_le}
use native.Mathlib.Omega.{arith}
use Rattle.exact.specs.Exact.{Exact, whole, ◌⊖◌, ◌≈◌}
use Rattle.exact.specs.Parts.{Is}
use Rattle.exact.proofs.Order.{above}
use Rattle.exact.proofs.Is.{is_whole, is_one, is_sub, is_le, le_is, is_lt, station_is}
use Rattle.section.specs.Lines.{Section, On, joint_num, outer_slope, inner_slope, inner_shoulder, shoulder_slope, widening}
use Rattle.section.specs.Climbing.{ClimbPremises}
use Rattle.section.proofs.Slopes.{even?, even_is, first-is, second_is}
use Rattle.section.proofs.Heights.{inner_slope_lem, widening_is}
use Rattle.section.proofs.EdgePieces.{joint_before}
use Rattle.changes.specs.Rules.{Rule, inner_slope_rule, shoulder_slope_rule, inner_shoulder_rule, one_side, other_side, ChangesSides, SidesTheorem}
use Rattle.changes.specs.Closed.{changes, change_at, ChangePremises, ChangeTheorem}
use Rattle.changes.proofs.Stations.{OuterAt, evenly, firstly, secondly, inner_sided, shoulder_sided, width_sided}
use Rattle.changes.proofs.Compared.{Reads, reads, Compared, exactly, exactly_back}
use Rattle.changes.proofs.Insides.{inside}

-- the sides are those of the rules
pub sides_theorem : SidesTheorem
unfolding one_side other_side inner_slope shoulder_slope inner_shoulder
sides_theorem x s = record { inner_slope = refl; shoulder_slope = refl; inner_shoulder = refl }

-- the outer slope at a station, in its stage
record Outer (x : Section) (s : Exact) : Type 0 where
  up : ℕ
  down : ℕ
  over : ℕ
  is : Is (outer_slope x s) up down over
  parts : OuterAt x (above s) s.den up down over

outer : {x : Section} {s : Exact} {up down over : ℕ} → Is (outer_slope x s) up down over → OuterAt x (above s) s.den up down over → Outer x s
outer {up = up} {down} {over} f g = record { up = up; down = down; over = over; is = f; parts = g }

-- the greater of p and the outer slope is below q where the outer slope is
floored :
    (x : Section) (s : Exact) {up down over : ℕ} → x.p < x.q → Is (outer_slope x s) up down over →
    Reads (whole x.q) (inner_slope x s) up (x.q * over + down)
floored x s h f =
    let inner = inner_slope_lem x s f in
    let q = is_one x.q in
    let lower = mul-lt-mul_of_pos_right h f.over in
    record {
      less = λ k. is_lt inner q (omega (arith, lower));
      most = λ k. is_le inner q (omega (arith, lower));
      more = λ k. is_lt q inner (omega arith);
    }

module _ {added : ℕ} {x : Section} (ok : ChangePremises added x) where
  z : ClimbPremises added x
  z = ok.climb

  module _ (s : Exact) (on : On x s) where
    at : Is s (above s) 0 s.den
    at = station_is on.fraction on.from

    to : above s ≤ x.L * s.den
    to = omega (arith, le_is at (is_one x.L) on.to)

    outer_at : Dec (3 * x.L ≤ x.h * (x.p + x.v)) → Dec (3 * above s ≤ joint_num x * s.den) → Outer x s
    outer_at (yes t) _ = outer (even_is x at z.long t) (evenly t refl refl refl)
    outer_at (no t) (yes j) = outer (first-is x at (omega arith) z.wide j) (firstly (omega arith) j refl refl refl)
    outer_at (no t) (no j) =
        outer (second_is x at (omega arith) z.turned (joint_before x (omega arith) z.turned) (omega arith))
        (secondly (omega arith) (omega arith) refl refl refl)

    slope : Outer x s
    slope = outer_at (even? x) (dec_le (3 * above s) (joint_num x * s.den))

    inner_compared : Compared inner_slope_rule x s (whole x.p) (outer_slope x s)
    inner_compared =
        record {
          u = slope.up;
          w = x.p * slope.over + slope.down;
          order = reads (is_one x.p) slope.is (omega arith) (omega arith);
          sided = inner_sided ok on.fraction to slope.parts;
        }

    shoulder_compared : Compared shoulder_slope_rule x s (whole x.q) (inner_slope x s)
    shoulder_compared =
        record {
          u = slope.up;
          w = x.q * slope.over + slope.down;
          order = floored x s ok.steeper slope.is;
          sided = shoulder_sided ok on.fraction to slope.parts;
        }

    width_compared : Compared inner_shoulder_rule x s (whole x.c ⊖ widening x s) (whole x.m)
    width_compared =
        let long : 0 < x.L * s.den = mul-pos z.long on.fraction in
        record {
          u = x.m * (x.L * s.den) + x.W * above s;
          w = x.c * (x.L * s.den);
          order = reads (is_sub (is_whole x.c (x.L * s.den) long) (widening_is x at z.long)) (is_one x.m) (omega arith) (omega arith);
          sided = width_sided ok on.fraction to;
        }

  exactly_at : (rule : Rule) (w : Exact) → 0 < w.den → ChangesSides rule x w ↔ ((changes rule x ≡ true) × (w ≈ change_at rule x))
  unfolding one_side other_side
  exactly_at inner_slope_rule w = exactly inner_compared (inside ok inner_slope_rule)
  exactly_at shoulder_slope_rule w = exactly shoulder_compared (inside ok shoulder_slope_rule)
  exactly_at inner_shoulder_rule w = exactly_back width_compared (inside ok inner_shoulder_rule)

pub change_theorem : ChangeTheorem
change_theorem added x ok rule =
    record {
      fraction = λ e. (inside ok rule e).fraction;
      inside = λ e. ((inside ok rule e).some, (inside ok rule e).less);
      exactly = exactly_at ok rule;
    }
