-- `walk::pieces::Accepted::footing` meets its contract.
-- Assumes nothing.
use mathlib.Core.Path.{◌≡◌, ap, ◌∙◌, subst}
use native.Mathlib.Omega.{arith}
use Rattle.heights.specs.declared.axis.Axis.{Axis}
use Rattle.heights.specs.Heights.{AxisIs}
use Rattle.section.specs.Lines.{Section, axis}
use Rattle.walking.specs.declared.Parts.{Parts}
use Rattle.walk.proofs.AcceptedCards.{section, step_most, stays, steep, grade_back, height_back, climbs}
use Rattle.walk.proofs.Footings.{climb_up_most, climb_down_most, foots_level, foots_climbing}
use Rattle.walk.proofs.pieces.Accepted.footing.Goals as goal
use Rattle.walk.proofs.pieces.Accepted.footing.Goals.{in-Relative, in-Absolute}

-- what a match gives
abbrev Given : Type 0
Given = Axis × (Parts × Unit {0})

axis_given : {x y : Given} → x ≡ y → x.0 ≡ y.0
axis_given = ap (λ (z : Given). z.0)

climb_given : {x y : Given} → x ≡ y → x.1.0 ≡ y.1.0
climb_given = ap (λ (z : Given). z.1.0)

pub climb_of-requires : goal.climb_of-requires
climb_of-requires c = step_most c.args.self

pub invariant_of-result : goal.invariant_of-result
invariant_of-result c =
    elim c.match-self.branch [
      | in-Relative w ↦
          let level = climb_given w.result-is in
          record { up_most = rw level (omega arith); down_most = rw level (omega arith) }
      | in-Absolute w ↦
          let a = c.args.self in
          let climb = climb_given w.result-is ∙ w.climb_of.ensures in
          let back = grade_back a w.in-Absolute.is in
          let few = steep a w.in-Absolute.is in
          record {
            up_most = rw (climb, back) (climb_up_most w.in-Absolute.grade a.card.step few (step_most a));
            down_most = rw (climb, back) (climb_down_most w.in-Absolute.grade a.card.step few (step_most a));
          }
    ]

pub returns : goal.returns
returns c =
    let a = c.args.self in
    let d = c.args.t.d in
    elim c.match-self.branch [
      | in-Relative w ↦
          let stands = rw (c.from-unit.ensures, w.axis_height.ensures, c.requires.0) at w.still.ensures.within (stays a) in
          foots_level a.card d _ w.in-Relative.is
          (rw (axis_given w.result-is) (subst (λ (x : Section). AxisIs (axis x) a.card.unit w.still.result) (section a) stands))
          (climb_given w.result-is)
      | in-Absolute w ↦
          let is = w.in-Absolute.is in
          let stands = rw c.from-unit.ensures at w.surveyed.ensures.within (climbs a is d c.requires.1) in
          foots_climbing a.card d _ is
          (rw (axis_given w.result-is) (rw (height_back a is, grade_back a is) at stands))
          (climb_given w.result-is ∙ (rw (grade_back a is) at w.climb_of.ensures))
    ]
