-- What a card and a lent table are answered by a method, and the table afterwards, by the number that its list of reasons gives.
-- Assumes nothing.
use mathlib.Core.Path.{◌≡◌, refl, sym, ap, ◌∙◌}
use mathlib.Core.Bool.{true}
use mathlib.Core.List.{List, ◌++◌}
use Prim.Native.Nat.{ℕ, ◌*◌, ◌≤◌}
use lib.IntN.{ℤ}
use lib.ListN.{length, drop}
use borrow.Author.Tests.{ne_eqb}
use Rattle.card.specs.Table.{Reply}
use Rattle.card.specs.Reasons.{Test, first, tests_room, refusal_room}
use Rattle.card.specs.Table.{reply_by, table_by}
use Rattle.card.proofs.Every.{every}
use Rattle.card.proofs.Tests.{numbered, then, first_then, then-first, room_first, room_held}

-- ---- the number: a card's own reasons, then the room
module _ (own : List Test) (named : every numbered own ≡ true) (width count room : ℕ) where
  abbrev number : ℕ
  number = first (own ++ tests_room width count room)

  number_is : number ≡ then (first own) (refusal_room width count room)
  number_is = first_then own (tests_room width count room) named ∙ ap (then (first own)) (room_first width count room)

  pub number_own : (first own ≡ 0 → ⊥) → number ≡ first own
  number_own ne = number_is ∙ then-first _ _ ne

  -- where none of its own is met, that of the room
  pub number_room : first own ≡ 0 → number ≡ refusal_room width count room
  number_room e = number_is ∙ rw e

  pub number-none : first own ≡ 0 → width * count ≤ room → number ≡ 0
  number-none e h = number_room e ∙ (room_held width count room).1 h

-- ---- the reply r and the table afterwards are those of the number n, for `count` rows that take so many numbers
abbrev pub Answered : ℕ → ℕ → ℕ → List ℤ → List ℤ → Reply → List ℤ → Type 0
Answered n count taken rows old r table = (r ≡ reply_by n count) × (table ≡ table_by n taken rows old)

module _ (count taken : ℕ) (rows old : List ℤ) where
  pub turned_away : (n : ℕ) → (n ≡ 0 → ⊥) → Answered n count taken rows old (record { number = n; count = 0 }) old
  unfolding reply_by table_by
  turned_away n ne = (rw (ne_eqb n 0 ne), rw (ne_eqb n 0 ne))

  pub accepted : Answered 0 count taken rows old (record { number = 0; count = count }) (rows ++ drop taken old)
  unfolding reply_by table_by
  accepted = (refl, refl)

-- ---- the same, where the number is that of all the reasons: refused by one of its own, short of room, or accepted
module _ (own : List Test) (named : every numbered own ≡ true) (width count : ℕ) (rows old : List ℤ) where
  abbrev pub Due : Reply → List ℤ → Type 0
  Due = Answered (first (own ++ tests_room width count (length old))) count (width * count) rows old

  by_number : {n : ℕ} {r : Reply} {table : List ℤ} → number own named width count (length old) ≡ n → Answered n count (width * count) rows old r table → Due r table
  by_number is a = rw is a

  not_taken : {n : ℕ} → number own named width count (length old) ≡ n → (n ≡ 0 → ⊥) → Due (record { number = n; count = 0 }) old
  not_taken {n} is ne = by_number is (turned_away count (width * count) rows old n ne)

  pub due_refused : {n : ℕ} → n ≡ first own → (n ≡ 0 → ⊥) → Due (record { number = n; count = 0 }) old
  due_refused is ne = not_taken (number_own own named width count (length old) (λ z. ne (is ∙ z)) ∙ sym is) ne

  -- the code counts the rows as k
  pub due_short :
      {n k : ℕ} → first own ≡ 0 → k ≡ count → n ≡ refusal_room width k (length old) → (n ≡ 0 → ⊥) → Due (record { number = n; count = 0 }) old
  due_short passes counts is ne = not_taken (number_room own named width count (length old) passes ∙ rw (← counts) (sym is)) ne

  pub due_filled :
      {k : ℕ} {table : List ℤ} → first own ≡ 0 → k ≡ count → width * k ≤ length old → table ≡ rows ++ drop (width * count) old →
      Due (record { number = 0; count = k }) table
  due_filled passes counts h wrote =
      rw (counts, wrote) (by_number (number-none own named width count (length old) passes (rw counts at h)) (accepted count (width * count) rows old))
