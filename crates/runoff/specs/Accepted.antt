-- What holds of a card that none of its own reasons refuses.
-- Assumes nothing.
use Rattle.std.specs.Prelude.{◌≡◌, ◌↔◌, ◌+◌, ◌*◌, ◌≤◌}
use Rattle.card.specs.declared.Card.{Card}
use Rattle.card.specs.declared.Profile.{Profile}
use Rattle.card.specs.Profile.{profile_at, added_slope, added_of}
use Rattle.card.specs.Accepted.{PassedBefore, PassedAfter, Sizes}
use Rattle.runoff.specs.Rows.{row_count}
use Rattle.runoff.specs.Refusal.{refusal}

-- each reason turned round, in the order of the list
pub record AcceptedBy (r : Profile) (card : Card) : Type 0 where
  pub before : PassedBefore r card
  pub added : r.half_width * (r.crown_slope + card.full_slope) ≤ added_slope r card.terrain * card.clothoid
  pub after : PassedAfter card

-- a card is accepted exactly when all of these hold; then its profile has these sizes, its clothoid is no shorter than 30 m,
-- and it has at most 301 rows, so that a table of 2107 numbers is long enough for every card
pub record AcceptedRule (card : Card) : Type 0 where
  pub exactly : (refusal card ≡ 0) ↔ AcceptedBy (profile_at card.profile) card
  pub sizes : refusal card ≡ 0 → Sizes (profile_at card.profile) (added_of card)
  pub long : refusal card ≡ 0 → 30000 ≤ card.clothoid
  pub few : refusal card ≡ 0 → row_count card ≤ 301

-- THEOREM (proofs/Accepts.antt): so it is with every card
abbrev pub AcceptedTheorem : Type 0
AcceptedTheorem = (card : Card) → AcceptedRule card
