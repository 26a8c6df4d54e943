-- The part of a card's table that one piece is written into, and that it has the card's rows then.
-- Assumes nothing.
use mathlib.Core.Path.{◌≡◌, refl, ap, ◌∙◌}
use mathlib.Core.List.{List}
use Prim.Native.Nat.{ℕ, ◌*◌, ◌-◌, ◌/◌, ◌≤◌, ◌<◌}
use native.Mathlib.Omega.{arith}
use lib.IntN.{ℤ}
use lib.ListN.{length}
use borrow.Rule.Slice.PartMut.{put_mid, mid_of}
use Rattle.card.specs.declared.Card.{Card}
use Rattle.card.specs.RowsInto.{with_rows}
use Rattle.runoff.specs.Rows.{row_count, row_width}
use Rattle.walk.specs.declared.stepping.Walker.{Walker}
use Rattle.walk.specs.Gains.{Walks, rows_of}
use Rattle.walk.specs.Stepping.{cells_on}
use Rattle.walk.specs.Turns.{turns_of, end_of}
use Rattle.walk.proofs.PieceEnds.{NextOf, Begins, piece_of}
use Rattle.walk.proofs.RowsLent.{lent}

module _
    (card : Card) (i end count : ℕ) (table : List ℤ) (is : end ≡ end_of card i) (counted : count ≡ row_count card) (begun : i < count)
    (room : row_width * count ≤ length table)
  where
    piece : NextOf (Begins (turns_of card) (row_count card)) (row_count card) i end
    piece = rw is (piece_of card i (omega (arith, counted)))

    pub on : i ≤ end
    on = omega (arith, piece.past)

    pub few : end ≤ row_count card
    few = piece.most

    pub held : row_width * end ≤ length table
    held = omega (arith, few, counted)

    abbrev part : List ℤ
    part = mid_of (row_width * i) (row_width * end - row_width * i) table

    pub wrote :
        (w : Walker) {after : List ℤ} → Walks card i w → after ≡ with_rows row_width (cells_on w) 0 (length part / row_width) part →
        put_mid (row_width * i) (row_width * end - row_width * i) table after ≡ with_rows row_width (rows_of card) i (end_of card i - i) table
    wrote w walks e =
        lent row_width (rows_of card) (λ k. refl) i end table (omega arith) on held (cells_on w) (λ k h. walks k (omega (arith, is))) e
        ∙ ap (λ (n : ℕ). with_rows row_width (rows_of card) i (n - i) table) is
