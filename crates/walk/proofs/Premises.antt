-- What an accepted card's section keeps to: every profile's shoulder is steeper than its crown and wider than its least.
-- Assumes nothing.
use mathlib.Core.Path.{◌≡◌, refl}
use mathlib.Core.Bool.{Bool, true}
use Prim.Native.Nat.{◌-◌}
use native.Mathlib.Omega.{arith}
use lib.Dec.{ltb}
use borrow.Author.Tests.{ltb-true}
use Rattle.card.specs.declared.Card.{Card}
use Rattle.card.specs.declared.Profile.{Profile}
use Rattle.card.specs.Profile.{profiles, profile_at, no_profile, added_of}
use Rattle.card.specs.Accepted.{PassedBefore}
use Rattle.card.proofs.Entries.{from_one}
use Rattle.card.proofs.Every.{every, at_place}
use Rattle.section.specs.Lines.{section_of}
use Rattle.changes.specs.Closed.{ChangePremises}
use Rattle.runoff.specs.Refusal.{refusal}
use Rattle.runoff.proofs.Accepts.{accepted}
use Rattle.runoff.proofs.ClimbingRule.{premises}

module _ (card : Card) (passes : refusal card ≡ 0) where
  before : PassedBefore (profile_at card.profile) card
  before = (accepted card passes).before

  -- what every profile of the table passes, the card's does
  in_table : (f : Profile → Bool) → every f profiles ≡ true → f (profile_at card.profile) ≡ true
  unfolding profiles
  in_table f t =
      rw (from_one card.profile before.profile_least)
      (at_place f profiles no_profile t (card.profile - 1) (omega (arith, before.profile_least, before.profile_most)))

  pub change_premises : ChangePremises (added_of card) (section_of card)
  unfolding profiles
  change_premises =
      record {
        climb = premises card passes;
        steeper = ltb-true _ _ (in_table (λ r. ltb r.crown_slope r.shoulder_slope) refl);
        wider = ltb-true _ _ (in_table (λ r. ltb r.least_shoulder r.shoulder_width) refl);
      }
