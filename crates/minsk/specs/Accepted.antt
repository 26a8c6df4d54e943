-- What holds of a card that none of its own reasons refuses by this method.
-- Assumes nothing.
use Rattle.std.specs.Prelude.{◌≡◌, ◌↔◌, ◌*◌, ◌≤◌}
use Rattle.card.specs.declared.Card.{Card}
use Rattle.card.specs.Profile.{profile_at, added_of}
use Rattle.card.specs.Accepted.{PassedBefore, PassedAfter}
use Rattle.minsk_section.specs.Lines.{Section, section_of, Premises, Gentle}
use Rattle.minsk.specs.Rows.{row_count, row_width}
use Rattle.minsk.specs.Refusal.{refusal}

-- the sizes of a section of the method
pub record Sizes (x : Section) : Type 0 where
  pub half_most : x.h ≤ 3500
  pub shoulder_most : x.c ≤ 3000
  pub strip_most : x.t ≤ 750
  pub least_most : x.m ≤ 1500
  pub slope_most : x.v ≤ 60
  pub clothoid_most : x.L ≤ 300000
  pub widening_most : x.W ≤ 3500

-- each reason turned round, in the order of the list
pub record AcceptedBy (card : Card) : Type 0 where
  pub before : PassedBefore (profile_at card.profile) card
  pub category : card.profile ≤ 3
  pub lines : Premises (section_of card)
  pub added : Gentle (added_of card) (section_of card)
  pub after : PassedAfter card

-- a card is accepted exactly when all of these hold; then its section has these sizes, its first stage ends at 24 m or later, its widening starts
-- at 76 m or later, and it has at most 301 rows, so that a table of 2709 numbers is long enough for every card
pub record AcceptedRule (card : Card) : Type 0 where
  pub exactly : (refusal card ≡ 0) ↔ AcceptedBy card
  pub sizes : refusal card ≡ 0 → Sizes (section_of card)
  pub far : refusal card ≡ 0 → 48000000 ≤ card.clothoid * card.radius
  pub few : refusal card ≡ 0 → row_count card ≤ 301
  pub room : refusal card ≡ 0 → row_width * row_count card ≤ 2709

-- THEOREM (proofs/Accepts.antt): so it is with every card
abbrev pub AcceptedTheorem : Type 0
AcceptedTheorem = (card : Card) → AcceptedRule card
