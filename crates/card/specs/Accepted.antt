-- What holds of a card that none of the reasons that every method shares refuses.
-- Assumes nothing.
use Rattle.std.specs.Prelude.{◌≡◌, ◌↔◌, ◌⊎◌, ℕ, ◌*◌, ◌%◌, ◌≤◌, ◌<◌, ℤ, pos, neg_ℤ, nat_abs, ◌≤ℤ◌}
use Rattle.card.specs.declared.Card.{Card}
use Rattle.card.specs.declared.Datum.{Datum}
use Rattle.card.specs.declared.Datum.TheVariants.{Relative, Absolute}
use Rattle.card.specs.declared.Profile.{Profile}
use Rattle.card.specs.Profile.{profile_at, added_of}
use Rattle.card.specs.Clothoid.{least_length}
use Rattle.card.specs.Rows.{rows_to}
use Rattle.card.specs.Reasons.{refusal_before, refusal_after}

-- the reasons before a method's own, each turned round, in the order of the list
pub record PassedBefore (r : Profile) (card : Card) : Type 0 where
  pub profile_least : 1 ≤ card.profile
  pub profile_most : card.profile ≤ 5
  pub terrain : (card.terrain ≡ 1) ⊎ (card.terrain ≡ 2)
  pub radius_least : r.least_radius ≤ card.radius
  pub radius_most : card.radius ≤ 2000
  pub clothoid_least : 1000 * least_length card.radius ≤ card.clothoid
  pub clothoid_most : card.clothoid ≤ 300000
  pub slope_least : r.crown_slope ≤ card.full_slope
  pub slope_most : card.full_slope ≤ 60
  pub widening_most : card.full_widening ≤ 3500
  pub widening_none : 1000 < card.radius → card.full_widening ≡ 0

-- the height and the grade of an absolute card; a relative one has neither
pub record Surveyed (height grade : ℤ) (unit : ℕ) : Type 0 where
  pub height_least : neg_ℤ (pos 100000) ≤ℤ height
  pub height_most : height ≤ℤ pos 9000000
  pub whole_units : nat_abs height % unit ≡ 0
  pub grade_least : neg_ℤ (pos 80) ≤ℤ grade
  pub grade_most : grade ≤ℤ pos 80

abbrev pub InSurvey : Datum → ℕ → Type 0
InSurvey Relative unit = Unit
InSurvey (Absolute height grade) unit = Surveyed height grade unit

-- the reasons after a method's own
pub record PassedAfter (card : Card) : Type 0 where
  pub step_least : 1000 ≤ card.step
  pub step_most : card.step ≤ 20000
  pub unit : (card.unit ≡ 1) ⊎ (card.unit ≡ 10)
  pub survey : InSurvey card.datum card.unit

-- the sizes of every profile in the table
pub record Sizes (r : Profile) (added : ℕ) : Type 0 where
  pub half_least : 2250 ≤ r.half_width
  pub half_most : r.half_width ≤ 3750
  pub shoulder_most : r.shoulder_width ≤ 3750
  pub kept_most : r.least_shoulder ≤ r.shoulder_width
  pub crown_least : 20 ≤ r.crown_slope
  pub crown_most : r.crown_slope ≤ 30
  pub side_least : r.crown_slope ≤ r.shoulder_slope
  pub side_most : r.shoulder_slope ≤ 60
  pub added_least : 5 ≤ added
  pub added_most : added ≤ 20

-- neither list refuses a card exactly when all of its bounds hold; then its profile has these sizes, its clothoid is no shorter than 30 m,
-- and it has at most 301 rows
pub record SharedRule (card : Card) : Type 0 where
  pub before : (refusal_before card ≡ 0) ↔ PassedBefore (profile_at card.profile) card
  pub after : (refusal_after card ≡ 0) ↔ PassedAfter card
  pub sizes : refusal_before card ≡ 0 → Sizes (profile_at card.profile) (added_of card)
  pub long : refusal_before card ≡ 0 → 30000 ≤ card.clothoid
  pub few : refusal_before card ≡ 0 → refusal_after card ≡ 0 → rows_to card.clothoid card.step ≤ 301

-- THEOREM (proofs/Accepts.antt): so it is with every card
abbrev pub SharedTheorem : Type 0
SharedTheorem = (card : Card) → SharedRule card
