-- Neither list refuses a card exactly when each of its reasons, turned round, holds; and then its profile has the sizes of the table.
-- Assumes nothing.
use mathlib.Core.Path.{◌≡◌, refl}
use mathlib.Core.Bool.{false}
use Prim.Native.Nat.{ℕ, ◌≤◌, ◌<◌}
use native.Mathlib.Nat.{le_trans, mul-le-mul_left}
use native.Mathlib.Omega.{arith}
use lib.Dec.{lit<}
use lib.ListN.{length, get_or}
use Rattle.card.specs.declared.Card.{Card}
use Rattle.card.specs.declared.Profile.{Profile}
use Rattle.card.specs.Profile.{profile_at, added_of}
use Rattle.card.specs.Rows.{rows_to}
use Rattle.card.specs.Reasons.{test, tests_before, tests_after, refusal_before, refusal_after}
use Rattle.card.specs.Accepted.{PassedBefore, PassedAfter, Sizes, SharedTheorem}
use Rattle.card.proofs.Clothoids.{at_least_30}
use Rattle.card.proofs.Entries.{least_radius_lem, sizes}
use Rattle.card.proofs.RowPlaces.{count_most}
use Rattle.card.proofs.Steps.{at_start, passed}
use Rattle.card.proofs.Tests.{passes}
use Rattle.card.proofs.Unmet.{not_outside, not_neither, not_too_wide, one_or_ten}
use Rattle.card.proofs.Surveys.{in_survey}

module _ (card : Card) where
  abbrev its : Profile
  its = profile_at card.profile

  past_before : refusal_before card ≡ 0 → (k : ℕ) → k < length (tests_before card) → (get_or (tests_before card) k (test 0 false)).met ≡ false
  unfolding refusal_before
  past_before e = passes (tests_before card) refl e

  past_after : refusal_after card ≡ 0 → (k : ℕ) → k < length (tests_after card) → (get_or (tests_after card) k (test 0 false)).met ≡ false
  unfolding refusal_after
  past_after e = passes (tests_after card) refl e

  pub passed_before : refusal_before card ≡ 0 → PassedBefore its card
  passed_before e =
      let profile = (not_outside _ 1 5).0 (past_before e 0 (lit< tt)) in
      let radius = (not_outside _ _ 2000).0 (past_before e 2 (lit< tt)) in
      let clothoid = (not_outside _ _ 300000).0 (past_before e 3 (lit< tt)) in
      let slope = (not_outside _ _ 60).0 (past_before e 4 (lit< tt)) in
      let widening = (not_too_wide _ _).0 (past_before e 5 (lit< tt)) in
      record {
        profile_least = profile.0;
        profile_most = profile.1;
        terrain = (not_neither _ 1 2).0 (past_before e 1 (lit< tt));
        radius_least = radius.0;
        radius_most = radius.1;
        clothoid_least = clothoid.0;
        clothoid_most = clothoid.1;
        slope_least = slope.0;
        slope_most = slope.1;
        widening_most = widening.0;
        widening_none = widening.1;
      }

  none_before : PassedBefore its card → refusal_before card ≡ 0
  unfolding refusal_before
  none_before a =
      let past1 = passed (at_start (tests_before card)) refl ((not_outside _ 1 5).1 (a.profile_least, a.profile_most)) in
      let past2 = passed past1 refl ((not_neither _ 1 2).1 a.terrain) in
      let past3 = passed past2 refl ((not_outside _ _ 2000).1 (a.radius_least, a.radius_most)) in
      let past4 = passed past3 refl ((not_outside _ _ 300000).1 (a.clothoid_least, a.clothoid_most)) in
      let past5 = passed past4 refl ((not_outside _ _ 60).1 (a.slope_least, a.slope_most)) in
      (passed past5 refl ((not_too_wide _ _).1 (a.widening_most, a.widening_none))).says

  pub passed_after : refusal_after card ≡ 0 → PassedAfter card
  passed_after e =
      let step = (not_outside _ 1000 20000).0 (past_after e 0 (lit< tt)) in
      record {
        step_least = step.0;
        step_most = step.1;
        unit = (not_neither _ 1 10).0 (past_after e 1 (lit< tt));
        survey = (in_survey card.datum card.unit).0 (past_after e 2 (lit< tt), past_after e 3 (lit< tt));
      }

  none_after : PassedAfter card → refusal_after card ≡ 0
  unfolding refusal_after
  none_after a =
      let past9 = passed (at_start (tests_after card)) refl ((not_outside _ 1000 20000).1 (a.step_least, a.step_most)) in
      let past10 = passed past9 refl ((not_neither _ 1 10).1 a.unit) in
      let unmet = (in_survey card.datum card.unit).1 a.survey in
      let past34 = passed past10 refl unmet.0 in
      (passed past34 refl unmet.1).says

  sizes_of : refusal_before card ≡ 0 → Sizes its (added_of card)
  sizes_of e = sizes card.profile (passed_before e).profile_least (passed_before e).profile_most card.terrain

  long : refusal_before card ≡ 0 → 30000 ≤ card.clothoid
  long e =
      let a = passed_before e in
      let radius : 30 ≤ card.radius = le_trans (least_radius_lem card.profile a.profile_least a.profile_most) a.radius_least in
      le_trans (mul-le-mul_left 1000 (at_least_30 card.radius radius)) a.clothoid_least

  few : refusal_before card ≡ 0 → refusal_after card ≡ 0 → rows_to card.clothoid card.step ≤ 301
  few e f = count_most card.clothoid card.step 300 (omega (arith, (passed_before e).clothoid_most, (passed_after f).step_least)) (omega (arith, (passed_after f).step_least))

-- the unit is 1 or 10
pub unit_in : {card : Card} → PassedAfter card → (1 ≤ card.unit) × (card.unit ≤ 10)
unit_in a = one_or_ten a.unit

pub shared_rule : SharedTheorem
shared_rule card =
    record {
      before = (passed_before card, none_before card);
      after = (passed_after card, none_after card);
      sizes = sizes_of card;
      long = long card;
      few = few card;
    }
