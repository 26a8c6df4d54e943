-- The rows of a card as blocks of seven numbers.
-- Assumes nothing.
use mathlib.Core.Path.{◌≡◌, refl}
use mathlib.Core.List.{List, [], ◌++◌}
use Prim.Native.Nat.{ℕ, suc, ◌+◌, ◌*◌, ◌<◌}
use lib.IntN.{ℤ, pos}
use lib.ListN.{length, get_or}
use Rattle.card.specs.declared.Card.{Card}
use Rattle.card.specs.Rows.{joined}
use Rattle.card.proofs.Joined.{joined-none, joined-more, length_joined}
use Rattle.card.proofs.RowsInto as into
use Rattle.runoff.specs.Rows.{cells, row_of, row_count, row_width, station_of, rows}

module _ (card : Card) where
  -- the numbers of row i, and of the first i rows
  abbrev pub block : ℕ → List ℤ
  block i = cells (row_of card (station_of card i))

  abbrev pub first_rows : ℕ → List ℤ
  first_rows i = joined block i

  pub length_block : (i : ℕ) → length (block i) ≡ row_width
  length_block i = refl

  pub first-none : first_rows 0 ≡ []
  first-none = joined-none block

  pub first_more : (i : ℕ) → first_rows (suc i) ≡ first_rows i ++ block i
  first_more = joined-more block

  pub length_first : (i : ℕ) → length (first_rows i) ≡ row_width * i
  length_first = length_joined block row_width length_block

  pub all_rows : first_rows (row_count card) ≡ rows card
  unfolding rows
  all_rows = refl

  pub length-rows : length (rows card) ≡ row_width * row_count card
  length-rows = into.length_rows row_width block length_block (row_count card) all_rows

  -- number m of row i
  pub number_in :
      (rest : List ℤ) (i m : ℕ) → i < row_count card → m < row_width →
      get_or (rows card ++ rest) (row_width * i + m) (pos 0) ≡ get_or (block i) m (pos 0)
  number_in = into.number_in row_width block length_block (row_count card) all_rows
