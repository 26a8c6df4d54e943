-- What the stages of a runoff say of its section.
-- Assumes nothing.
use mathlib.Core.Path.{◌≡◌, refl, sym, ◌∙◌}
use mathlib.Core.Bool.{Bool, true, false, cond}
use Prim.Native.Nat.{ℕ}
use Rattle.std.proofs.Common.{rules}
use Rattle.runoff.specs.declared.Runoff.{Runoff}
use Rattle.runoff.specs.declared.Stages.TheVariants.{Even, TwoStage}
use Rattle.runoff.specs.Reckoning.{section_in, Limits}
use Rattle.section.specs.Lines.{is_even, joint_num, joint_den}

-- in two stages, with the joint's numbers
pub record TwoStages (even : Bool) (j e n d : ℕ) : Type 0 where
  pub not_even : even ≡ false
  pub num : n ≡ j
  pub den : d ≡ e

evenly : (b : Bool) (j e : ℕ) → cond b Even (TwoStage j e) ≡ Even → b ≡ true
evenly true j e is = refl
evenly false j e is = search rules

in_two : (b : Bool) (j e num den : ℕ) → cond b Even (TwoStage j e) ≡ TwoStage num den → TwoStages b j e num den
in_two true j e num den is = search rules
in_two false j e num den is = record { not_even = refl; num = search rules; den = search rules }

module _ {r : Runoff} (z : Limits r) where
  pub even_stages : r.stages ≡ Even → is_even (section_in r) ≡ true
  even_stages is = evenly _ _ _ (sym z.stages ∙ is)

  pub two_stages : {num den : ℕ} → r.stages ≡ TwoStage num den → TwoStages (is_even (section_in r)) (joint_num (section_in r)) joint_den num den
  two_stages is = in_two _ _ _ _ _ (sym z.stages ∙ is)
