-- What a single call on a part of the table leaves, by the laws of that call: the card uses no more than its room, and what it does not use is
-- as it was.
-- Assumes nothing.
use mathlib.Core.Path.{◌≡◌, refl, ap, sym, ◌∙◌}
use mathlib.Core.Bool.{Bool, true, false}
use mathlib.Core.List.{List, ◌++◌}
use Prim.Native.Nat.{ℕ, ◌+◌, ◌*◌, ◌≤◌, ◌<◌}
use native.Mathlib.Omega.{arith}
use lib.Dec.{eqb}
use lib.IntN.{ℤ, pos}
use lib.ListN.{length, take, drop, length-append, length-drop}
use lib.Seq.{drop_at, get_or-take, length-take-le}
use borrow.Author.Tests.{eqb-true, eqb-false}
use Rattle.card.specs.declared.Card.{Card}
use Rattle.card.specs.Table.{Reply}
use Rattle.card.specs.Reasons.{refusal_room}
use Rattle.card.proofs.Tests.{room_held}
use Rattle.runoff.specs.Rows.{row_width, row_count, rows}
use Rattle.runoff.specs.Refusal.{refusal}
use Rattle.runoff.specs.Table.{reply_to, table_after}
use Rattle.runoff.specs.Climbing.{station_in, outer_edge_in, ClimbingTable}
use Rattle.runoff.proofs.Accepts.{accepted_rule}
use Rattle.runoff.proofs.RowBlocks.{length-rows}
use Rattle.runoff.proofs.ClimbingTable.{climbing_table_lem}
use Rattle.runoff.proofs.Replies.{refused, short, filled}
use Rattle.day.specs.Day.{used_by}
use Rattle.day.specs.Parts.{enough_for}

module _ (card : Card) (old : List ℤ) where
  abbrev room : ℕ
  room = length old

  -- the numbers that the rows of an accepted card take, and the table with these rows
  abbrev wanted : ℕ
  wanted = row_width * row_count card

  abbrev written : List ℤ
  written = rows card ++ drop wanted old

  -- a card is refused, and the table is as it was; or it is accepted, and its rows are written
  either :
      (P : Reply → List ℤ → Type 0) → ((n : ℕ) → (n ≡ 0 → ⊥) → P (record { number = n; count = 0 }) old) →
      (refusal card ≡ 0 → wanted ≤ room → P (record { number = 0; count = row_count card }) written) →
      P (reply_to card room) (table_after card old)
  either P away taken = own (eqb (refusal card) 0) refl
    where
      fits : refusal card ≡ 0 → (b : Bool) → eqb (refusal_room row_width (row_count card) room) 0 ≡ b → P (reply_to card room) (table_after card old)
      fits passes true e =
          let held = (room_held row_width (row_count card) room).0 (eqb-true _ 0 e) in
          let due = filled card old passes refl held refl in
          rw (← due.0, ← due.1.0) (taken passes held)
      fits passes false e =
          let due = short card old passes refl refl (eqb-false _ 0 e) in
          rw (← due.0, ← due.1.0) (away _ (eqb-false _ 0 e))

      own : (b : Bool) → eqb (refusal card) 0 ≡ b → P (reply_to card room) (table_after card old)
      own true e = fits (eqb-true _ 0 e) (eqb (refusal_room row_width (row_count card) room) 0) refl
      own false e =
          let due = refused card old refl (eqb-false _ 0 e) in
          rw (← due.0, ← due.1.0) (away _ (eqb-false _ 0 e))

  -- a card uses no more than its room
  pub uses_within : used_by card room ≤ room
  uses_within = either (λ r t. row_width * r.count ≤ room) (λ n ne. omega arith) (λ passes held. held)

  -- nor more than 301 rows take
  pub uses_few : used_by card room ≤ enough_for 1
  uses_few = either (λ r t. row_width * r.count ≤ enough_for 1) (λ n ne. omega arith) (λ passes held. omega (arith, (accepted_rule card).few passes))

  -- a refused card counts no row
  pub refused_counts : ¬ ((reply_to card room).number ≡ 0) → (reply_to card room).count ≡ 0
  refused_counts = either (λ r t. ¬ (r.number ≡ 0) → r.count ≡ 0) (λ n ne _. refl) (λ passes held some. absurd (some refl))

  -- the table is as long as it was
  pub same_long : length (table_after card old) ≡ room
  same_long =
      either (λ r t. length t ≡ room) (λ n ne. refl)
      (λ passes held. rw (length-append, length-drop, length-rows card) (omega (arith, held)))

  -- the numbers that the card does not use are as they were
  pub same_rest : drop (used_by card room) (table_after card old) ≡ drop (used_by card room) old
  same_rest =
      either (λ r t. drop (row_width * r.count) t ≡ drop (row_width * r.count) old) (λ n ne. refl)
      (λ passes held. drop_at (rows card) (drop wanted old) wanted (length-rows card))

  pub climbs_after : (reply_to card room).number ≡ 0 → ClimbingTable card (reply_to card room).count (table_after card old)
  climbs_after =
      either (λ r t. r.number ≡ 0 → ClimbingTable card r.count t) (λ n ne z. absurd (ne z))
      (λ passes held _. climbing_table_lem card (drop wanted old) passes)

  -- where there is room for 301 rows, only the card's own reasons refuse it
  pub own_only : enough_for 1 ≤ room → (reply_to card room).number ≡ refusal card
  own_only enough = go (eqb (refusal card) 0) refl
    where
      go : (b : Bool) → eqb (refusal card) 0 ≡ b → (reply_to card room).number ≡ refusal card
      go true e =
          let passes = eqb-true _ 0 e in
          let due = filled card old passes refl (omega (arith, enough, (accepted_rule card).few passes)) refl in
          sym (ap (λ (r : Reply). r.number) due.0) ∙ sym passes
      go false e = sym (ap (λ (r : Reply). r.number) (refused card old refl (eqb-false _ 0 e)).0)

-- demand 3 speaks of the counted rows only
module _ (card : Card) (count : ℕ) (table : List ℤ) (t : ClimbingTable card count table) where
  abbrev part : List ℤ
  part = take (row_width * count) table

  same_station : (i : ℕ) → i < count → station_in part i ≡ station_in table i
  same_station i h = get_or-take (row_width * count) table (row_width * i) (pos 0) (omega arith)

  same_outer_edge : (i : ℕ) → i < count → outer_edge_in part i ≡ outer_edge_in table i
  same_outer_edge i h = get_or-take (row_width * count) table (row_width * i + 5) (pos 0) (omega arith)

  pub climbs_in_part : ClimbingTable card count part
  climbs_in_part =
      record {
        held = rw (length-take-le (row_width * count) table t.held) (omega arith);
        stations = λ i h. same_station i h ∙ t.stations i h;
        farther = t.farther;
        exact = t.exact;
        above = t.above;
        rows = λ is i j h g. rw (same_outer_edge i (omega arith), same_outer_edge j g) (t.rows is i j h g);
      }
