-- How many rows were worked afresh, by what a card and a lent table are answered.
-- Assumes nothing.
use mathlib.Core.Path.{◌≡◌, refl, sym, ap, ◌∙◌}
use Prim.Native.Nat.{ℕ}
use Rattle.card.specs.declared.Card.{Card}
use Rattle.card.specs.Table.{Reply, reply_by}
use Rattle.runoff.specs.Rows.{row_count}
use Rattle.runoff.specs.Table.{reply_number, reply_to}
use Rattle.walk.specs.Fresh.{Afresh, Counted, FreshRows}

module _ (card : Card) (room : ℕ) {r : Reply} (is : r ≡ reply_to card room) where
  number_is : r.number ≡ reply_number card room
  unfolding reply_to reply_by
  number_is = ap (λ (s : Reply). s.number) is

  -- none where the table stays
  pub none_fresh : (r.number ≡ 0 → ⊥) → FreshRows card room 0
  none_fresh ne = record { accepted = λ e. absurd (ne (number_is ∙ e)); refused = λ _. refl }

  -- those counted where it is written
  pub some_fresh : {n : ℕ} → r.number ≡ 0 → Counted (Afresh card) (row_count card) n → FreshRows card room n
  some_fresh e f = record { accepted = λ _. f; refused = λ ne. absurd (ne (sym number_is ∙ e)) }
