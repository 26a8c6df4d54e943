-- Document 02, Slip 7: the lines of a card that this method accepts are as the request words them.
-- Assumes nothing.
use Rattle.std.specs.Prelude.{◌≡◌}
use Rattle.card.specs.declared.Card.{Card}
use Rattle.minsk_section.specs.Lines.{section_of}
use Rattle.minsk_section.specs.Turning.{Turning}
use Rattle.minsk.specs.Refusal.{refusal}

-- THEOREM (proofs/ClimbingRule.antt): each is a fraction, the stages join, the edge is level before the first, the widening joins, and the inner
-- shoulder keeps its least width
abbrev pub TurningTheorem : Type 0
TurningTheorem = (card : Card) → refusal card ≡ 0 → Turning (section_of card)
