-- The accuracy rule of this method: what each of the nine numbers of a row is.
-- Assumes nothing.
use Rattle.std.specs.Prelude.{◌≡◌, ℕ, ◌≤◌, ℤ, pos}
use Rattle.exact.specs.Exact.{Exact, whole, ◌⊗◌}
use Rattle.card.specs.declared.Card.{Card}
use Rattle.card.specs.Rows.{Accurate}
use Rattle.minsk_section.specs.Lines.{section_of, widening, outer_edge, outer_strip, outer_brow, inner_edge, inner_strip, inner_brow}
use Rattle.minsk_section.specs.Datum.{axis_on, moved}
use Rattle.minsk.specs.Rows.{row_of}
use Rattle.minsk.specs.Refusal.{refusal}

-- a line y of the card's section at the station d, with the card's datum: n units are nearest to it
abbrev pub AccurateLine : Card → ℕ → Exact → ℤ → Type 0
AccurateLine card d y n = Accurate card.unit (moved card.datum (whole d) y) n

-- the accuracy rule of the row at the station d, of relative and of absolute cards
pub record AccurateRow (card : Card) (d : ℕ) : Type 0 where
  pub station : (row_of card d).station ≡ pos d
  pub widening : Accurate card.unit (whole 1000 ⊗ widening (section_of card) (whole d)) (row_of card d).widening
  pub axis : Accurate card.unit (axis_on card.datum (whole d)) (row_of card d).axis
  pub outer_edge : AccurateLine card d (outer_edge (section_of card) (whole d)) (row_of card d).outer_edge
  pub outer_strip : AccurateLine card d (outer_strip (section_of card) (whole d)) (row_of card d).outer_strip
  pub outer_brow : AccurateLine card d (outer_brow (section_of card) (whole d)) (row_of card d).outer_brow
  pub inner_edge : AccurateLine card d (inner_edge (section_of card) (whole d)) (row_of card d).inner_edge
  pub inner_strip : AccurateLine card d (inner_strip (section_of card) (whole d)) (row_of card d).inner_strip
  pub inner_brow : AccurateLine card d (inner_brow (section_of card) (whole d)) (row_of card d).inner_brow

-- THEOREM (proofs/ClimbingRule.antt): it holds at every whole station of every accepted card
abbrev pub AccuracyTheorem : Type 0
AccuracyTheorem = (card : Card) → refusal card ≡ 0 → (d : ℕ) → d ≤ card.clothoid → AccurateRow card d
