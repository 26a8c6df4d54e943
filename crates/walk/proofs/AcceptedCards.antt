-- What an accepted card that is walked keeps to.
-- Assumes nothing.
use mathlib.Core.Path.{◌≡◌, ap, ◌∙◌}
use Prim.Native.Nat.{ℕ, ◌≤◌}
use native.Mathlib.Omega.{arith}
use lib.IntN.{ℤ, nat_abs}
use mir.Syntax.{w32}
use mir.Val.{to_z, of_z}
use mir.Facts.{to_z-of_z}
use Rattle.exact.proofs.Integers.{abs_parts}
use Rattle.exact.proofs.Machine.{within_sfits}
use Rattle.card.specs.declared.Datum.TheVariants.{Absolute}
use Rattle.card.specs.Accepted.{Surveyed, PassedAfter}
use Rattle.card.proofs.Surveys.{survey_sizes}
use Rattle.heights.specs.Heights.{Stays, Climbs}
use Rattle.heights.proofs.Passed.{stays_of, climbs_of}
use Rattle.section.specs.Lines.{section_of, axis_height}
use Rattle.runoff.specs.Reckoning.{section_in, Limits}
use Rattle.runoff.proofs.Accepts.{accepted}
use Rattle.runoff.proofs.Limits.{limits_of, same_section, axis_most}
use Rattle.walk.specs.declared.pieces.Accepted.{Accepted}

-- a number of no great size is read back as it is
back : (z : ℤ) → nat_abs z ≤ 9000000 → to_z w32 (of_z w32 z) ≡ z
back z few = to_z-of_z (within_sfits w32 z (omega (arith, few, abs_parts z)))

module _ (a : Accepted) where
  pub limits : Limits a.runoff
  limits = rw a.made (limits_of a.card a.passes)

  pub section : section_in a.runoff ≡ section_of a.card
  section = ap section_in a.made ∙ same_section a.card

  pub after : PassedAfter a.card
  after = (accepted a.card a.passes).after

  pub step_most : a.card.step ≤ 20000
  step_most = after.step_most

  pub stays : Stays (axis_height (section_in a.runoff)) a.card.unit
  stays = stays_of after (axis_most limits)

  -- an absolute card's height and grade, as they are read back
  module _ {h g : ℤ} (is : a.card.datum ≡ Absolute h g) where
    survey : Surveyed h g a.card.unit
    survey = rw is at after.survey

    pub steep : nat_abs g ≤ 80
    steep = (survey_sizes survey).steep

    pub height_back : to_z w32 (of_z w32 h) ≡ h
    height_back = back h (survey_sizes survey).high

    pub grade_back : to_z w32 (of_z w32 g) ≡ g
    grade_back = back g (omega (arith, steep))

    pub climbs : (d : ℕ) → d ≤ 300000 → Climbs (to_z w32 (of_z w32 h)) (to_z w32 (of_z w32 g)) d a.card.unit
    climbs d most = rw (height_back, grade_back) (climbs_of after is (omega (arith, most)))
