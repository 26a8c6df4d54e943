-- What the runoff of an accepted card keeps to.
-- Assumes nothing.
use mathlib.Core.Path.{◌≡◌, refl}
use Prim.Native.Nat.{◌*◌, ◌≤◌}
use native.Mathlib.Nat.{mul-le-mul}
use native.Mathlib.Omega.{arith}
use Rattle.card.specs.declared.Card.{Card}
use Rattle.runoff.specs.Refusal.{refusal}
use Rattle.section.specs.Lines.{section_of, axis_height}
use Rattle.runoff.specs.declared.Runoff.{Runoff}
use Rattle.runoff.specs.Runoff.{runoff_of}
use Rattle.runoff.specs.Reckoning.{section_in, Limits}
use Rattle.runoff.proofs.Accepts.{accepted_rule}

pub same_section : (card : Card) → section_in (runoff_of card) ≡ section_of card
unfolding runoff_of
same_section card = refl

module _ (card : Card) (passes : refusal card ≡ 0) where
  pub limits_of : Limits (runoff_of card)
  unfolding runoff_of
  limits_of =
      let a = (accepted_rule card).exactly.0 passes in
      let z = (accepted_rule card).sizes passes in
      record {
        half_least = omega (arith, z.half_least);
        half_most = z.half_most;
        shoulder_most = z.shoulder_most;
        crown_most = z.crown_most;
        side_most = z.side_most;
        turned = a.before.slope_least;
        slope_most = a.before.slope_most;
        long = omega (arith, (accepted_rule card).long passes);
        clothoid_most = a.before.clothoid_most;
        kept_most = z.kept_most;
        widening_most = a.before.widening_most;
        stages = refl;
      }

-- the height of the axis is the sum of these two
module _ (r : Runoff) (z : Limits r) where
  pub shoulder_rise : r.shoulder_width * r.shoulder_slope ≤ 3750 * 60
  shoulder_rise = mul-le-mul z.shoulder_most z.side_most

  pub crown_rise : r.half_width * r.crown_slope ≤ 3750 * 30
  crown_rise = mul-le-mul z.half_most z.crown_most

-- so it stays no higher than an axis can be held
pub axis_most : {r : Runoff} → Limits r → axis_height (section_in r) ≤ 337500
axis_most {r} z = omega (arith, shoulder_rise r z, crown_rise r z)
