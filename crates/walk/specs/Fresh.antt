-- Document 02, Slip 8, "Walk from row to row": which rows are worked afresh, and how many they are.
-- Assumes nothing.
use Rattle.std.specs.Prelude.{◌≡◌, ◌⊎◌, false, ℕ, zero, suc, ◌+◌, ◌≤◌, ◌<◌}
use Rattle.exact.specs.Exact.{Exact, whole, ◌≼◌, ◌≺◌}
use Rattle.card.specs.declared.Card.{Card}
use Rattle.section.specs.Lines.{section_of, is_even, joint}
use Rattle.changes.specs.Rules.{Rule, ChangesSides}
use Rattle.changes.specs.Closed.{ChangeRule}
use Rattle.runoff.specs.Refusal.{refusal}
use Rattle.runoff.specs.Rows.{row_count, station_of}
use Rattle.runoff.specs.Table.{reply_number}

-- row i is the first past the station z: it is strictly past it, and no row before is
pub record FirstPast (card : Card) (z : Exact) (i : ℕ) : Type 0 where
  pub past : z ≺ whole (station_of card i)
  pub first : (j : ℕ) → j < i → whole (station_of card j) ≼ z

-- "working afresh only at the first row, at the last, at the first row past the stage joint and at the first row past each station where a
-- greater-of rule changes sides"
pub data Afresh (card : Card) (i : ℕ) : Type 0 where
  first_row : i ≡ 0 → Afresh card i
  last_row : i + 1 ≡ row_count card → Afresh card i
  past_joint : is_even (section_of card) ≡ false → FirstPast card (joint (section_of card)) i → Afresh card i
  past_change : (rule : Rule) (z : Exact) → ChangesSides rule (section_of card) z → FirstPast card z i → Afresh card i

-- THEOREM (proofs/FreshPieces.antt): the rules of an accepted card change sides where `Closed.antt` says, and nowhere else
abbrev pub CardChangeTheorem : Type 0
CardChangeTheorem = (card : Card) → refusal card ≡ 0 → (rule : Rule) → ChangeRule rule (section_of card)

-- n of the numbers below k are among P: each of these once and no other
unfoldable pub Counted : (ℕ → Type 0) → ℕ → ℕ → Type 0
Counted P zero n = n ≡ 0
Counted P (suc k) zero = (¬ P k) × Counted P k zero
Counted P (suc k) (suc n) = (P k × Counted P k n) ⊎ ((¬ P k) × Counted P k (suc n))

-- how many rows are worked afresh of a card with a table of `room` numbers: each of these once and no other, nought on a refusal
pub record FreshRows (card : Card) (room n : ℕ) : Type 0 where
  pub accepted : reply_number card room ≡ 0 → Counted (Afresh card) (row_count card) n
  pub refused : ¬ (reply_number card room ≡ 0) → n ≡ 0

-- THEOREM (proofs/FreshCount.antt): it is one number only, and of an accepted card 2 to 5
pub record FreshRule (card : Card) (room n : ℕ) : Type 0 where
  pub only : (m : ℕ) → FreshRows card room m → m ≡ n
  pub least : reply_number card room ≡ 0 → 2 ≤ n
  pub most : n ≤ 5

abbrev pub FreshTheorem : Type 0
FreshTheorem = (card : Card) (room n : ℕ) → FreshRows card room n → FreshRule card room n
