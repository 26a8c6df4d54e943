-- A table while its pieces are written: the rows that stand in it, and how many of them were worked afresh.
-- Assumes nothing.
use mathlib.Core.Path.{◌≡◌, refl, ap, ◌∙◌}
use mathlib.Core.List.{List, ◌++◌}
use Prim.Native.Nat.{ℕ, ◌+◌, ◌*◌, ◌-◌, ◌≤◌, ◌<◌}
use native.Mathlib.Numerals.{add-one}
use native.Mathlib.Omega.{arith}
use lib.IntN.{ℤ}
use lib.ListN.{drop}
use Rattle.card.specs.declared.Card.{Card}
use Rattle.card.specs.RowsInto.{with_rows}
use Rattle.card.proofs.RowsInto.{many_written}
use Rattle.runoff.specs.Refusal.{refusal}
use Rattle.runoff.specs.Rows.{row_count, row_width, rows}
use Rattle.runoff.proofs.RowBlocks.{block, length_block}
use Rattle.runoff.proofs.RowsWritten.{so_far, none_written, all_written}
use Rattle.walk.specs.Fresh.{Afresh, Counted, first_row}
use Rattle.walk.specs.Gains.{rows_of}
use Rattle.walk.specs.Turns.{end_of}
use Rattle.walk.proofs.Counting.{none_counted, counted_on}
use Rattle.walk.proofs.PieceEnds.{piece_of}
use Rattle.walk.proofs.FreshPieces.{none_between, end_fresh}

-- the first i rows are written, of which n were worked afresh; row i, if there is one, is the next of those
pub record Written (card : Card) (i n : ℕ) (old table : List ℤ) : Type 0 where
  pub on : i ≤ row_count card
  pub begun : i < row_count card → Afresh card i
  pub counted : Counted (Afresh card) i n
  pub rows : table ≡ so_far card i old

module _ (card : Card) (old : List ℤ) where
  pub none : Written card 0 0 old old
  none = record { on = omega arith; begun = λ h. first_row refl; counted = none_counted (Afresh card); rows = none_written card old }

  -- the piece that begins with row i
  module _ (passes : refusal card ≡ 0) (i n : ℕ) (begun : i < row_count card) where
    to_end : with_rows row_width (rows_of card) i (end_of card i - i) (so_far card i old) ≡ so_far card (end_of card i) old
    to_end =
        let whole : i + (end_of card i - i) ≡ end_of card i = omega (arith, (piece_of card i begun).past) in
        many_written row_width (block card) (length_block card) (rows_of card) old (λ k. refl) i (end_of card i - i)
        ∙ ap (λ (k : ℕ). so_far card k old) whole

    pub more :
        {table after : List ℤ} {end : ℕ} → Written card i n old table → end ≡ end_of card i →
        after ≡ with_rows row_width (rows_of card) i (end_of card i - i) table → Written card end (n + 1) old after
    more w is wrote =
        let piece = piece_of card i begun in
        rw (is, add-one n)
        (record {
          on = piece.most;
          begun = end_fresh card passes i begun;
          counted = counted_on (Afresh card) i (end_of card i) n piece.past (w.begun begun) (none_between card passes i begun) w.counted;
          rows = wrote ∙ ap (with_rows row_width (rows_of card) i (end_of card i - i)) w.rows ∙ to_end;
        })

  -- where no row is left
  module _ {i n : ℕ} {table : List ℤ} (w : Written card i n old table) (done : row_count card ≤ i) where
    past : i ≡ row_count card
    past = omega (arith, w.on)

    pub all_rows : table ≡ rows card ++ drop (row_width * row_count card) old
    all_rows = w.rows ∙ all_written card old past

    pub all_counted : Counted (Afresh card) (row_count card) n
    all_counted = rw past at w.counted
