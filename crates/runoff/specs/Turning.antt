-- Document 01, "Lines of the cross-section": the lines of an accepted card are as the paper words them.
-- Assumes nothing.
use Rattle.std.specs.Prelude.{◌≡◌}
use Rattle.card.specs.declared.Card.{Card}
use Rattle.section.specs.Lines.{section_of}
use Rattle.section.specs.Turning.{Turning}
use Rattle.runoff.specs.Refusal.{refusal}

-- THEOREM (proofs/ClimbingRule.antt): each is a fraction, the outer slope turns from −p to v, the inner shoulder keeps its least width, and
-- heights count from the inner brow at 0
abbrev pub TurningTheorem : Type 0
TurningTheorem = (card : Card) → refusal card ≡ 0 → Turning (section_of card)
