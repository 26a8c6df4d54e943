-- What a card and a lent table are answered, and the table afterwards: refused by one of its own reasons, short of room, or accepted.
-- Assumes nothing.
use mathlib.Core.Path.{◌≡◌, refl}
use mathlib.Core.List.{List, ◌++◌}
use Prim.Native.Nat.{ℕ, ◌*◌, ◌≤◌}
use lib.IntN.{ℤ}
use lib.ListN.{length, drop}
use Rattle.card.specs.declared.Card.{Card}
use Rattle.card.specs.Reasons.{refusal_room}
use Rattle.card.specs.Table.{Reply}
use Rattle.card.proofs.Replies as replies
use Rattle.minsk.specs.Refusal.{own_tests, refusal}
use Rattle.minsk.specs.Rows.{row_count, row_width, rows}
use Rattle.minsk.specs.Table.{reply_number, reply_to, table_after}
use Rattle.minsk.specs.Climbing.{ClimbingTable}
use Rattle.minsk.proofs.ClimbingTable.{climbing_table_lem}

-- the reply r, and the table afterwards, are what a card and the table `old` are due
abbrev Due : Card → List ℤ → Reply → List ℤ → Type 0
Due card old r table =
    (r ≡ reply_to card (length old)) × ((table ≡ table_after card old) × (r.number ≡ 0 → ClimbingTable card r.count table))

module _ (card : Card) (old : List ℤ) where
  -- the same without the climbing rule
  abbrev Answered : Reply → List ℤ → Type 0
  Answered = replies.Due (own_tests card) refl row_width (row_count card) (rows card) old

  due : {r : Reply} {table : List ℤ} → Answered r table → (r.number ≡ 0 → ClimbingTable card r.count table) → Due card old r table
  unfolding reply_number reply_to table_after
  due a climbs = (a.0, (a.1, climbs))

  -- refused by one of its own reasons
  pub refused : {n : ℕ} → n ≡ refusal card → (n ≡ 0 → ⊥) → Due card old (record { number = n; count = 0 }) old
  unfolding refusal
  refused is ne = due (replies.due_refused (own_tests card) refl row_width (row_count card) (rows card) old is ne) (λ z. absurd (ne z))

  -- short of room for the rows that it counts
  pub short :
      {n count : ℕ} → refusal card ≡ 0 → count ≡ row_count card → n ≡ refusal_room row_width count (length old) → (n ≡ 0 → ⊥) →
      Due card old (record { number = n; count = 0 }) old
  unfolding refusal
  short passes counts is ne =
      due (replies.due_short (own_tests card) refl row_width (row_count card) (rows card) old passes counts is ne) (λ z. absurd (ne z))

  -- accepted, and the rows are written
  pub filled :
      {count : ℕ} {table : List ℤ} → refusal card ≡ 0 → count ≡ row_count card → row_width * count ≤ length old →
      table ≡ rows card ++ drop (row_width * row_count card) old → Due card old (record { number = 0; count = count }) table
  unfolding refusal
  filled passes counts h wrote =
      due (replies.due_filled (own_tests card) refl row_width (row_count card) (rows card) old passes counts h wrote)
      (λ _. rw (counts, wrote) (climbing_table_lem card (drop (row_width * row_count card) old) passes))
