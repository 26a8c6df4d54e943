-- Laws of the texts of a sheet: the lines of the rows that stand in a table, and how many bytes each text has at most.
-- Assumes nothing.
use Rattle.std.proofs.Common.{ℕ, zero, suc, ◌+◌, ◌*◌, ◌≤◌, ◌≡◌, sym, ap, ap₂, ◌∙◌, List, [], ◌∷◌, ◌++◌, append_assoc, append-nil, arith, ℤ, pos, negsuc, length, take, drop, length-append, take_at, drop_at, drop-drop}
use Rattle.decimal.specs.Decimal.{most_digits, signed_text}
use Rattle.decimal.proofs.Digits.{digits_most}
use Rattle.card.specs.declared.Card.{Card}
use Rattle.runoff.specs.Rows.{row_width}
use Rattle.runoff.proofs.RowBlocks.{block, first_rows, length_block, first-none, first_more, length_first}
use Rattle.sheet_text.specs.Text.{row_text, rows_text, ended_text}
use Rattle.sheet_text.specs.Sheet.{row_lines}
use Rattle.sheet_text.proofs.Buffers.{ended_length}

-- ---- the lines of rows that are joined from the left, as they are printed from the front
abbrev row_at : ℕ → List ℤ → List ℤ
row_at k table = take row_width (drop (row_width * k) table)

rows_next : (k : ℕ) (table : List ℤ) → rows_text (suc k) table ≡ rows_text k table ++ row_text (row_at k table)
unfolding rows_text
rows_next zero table = append-nil (row_text (take row_width table))
rows_next (suc k) table =
    let further : row_width + row_width * k ≡ row_width * suc k = omega arith in
    ap (λ (t : List ℕ). row_text (take row_width table) ++ t) (rows_next k (drop row_width table))
    ∙ sym (append_assoc (row_text (take row_width table)) (rows_text k (drop row_width table)) _)
    ∙ ap (λ (l : List ℤ). rows_text (suc k) table ++ row_text (take row_width l)) (drop-drop (row_width * k) row_width table)
    ∙ ap (λ (n : ℕ). rows_text (suc k) table ++ row_text (take row_width (drop n table))) further

module _ (card : Card) where
  block_there : (k : ℕ) (rest : List ℤ) → row_at k (first_rows card k ++ (block card k ++ rest)) ≡ block card k
  block_there k rest =
      ap (take row_width) (drop_at (first_rows card k) (block card k ++ rest) (row_width * k) (length_first card k))
      ∙ take_at (block card k) rest row_width (length_block card k)

  -- the first k rows of a card, whatever stands behind them in the table
  pub lines_there : (k : ℕ) (rest : List ℤ) → rows_text k (first_rows card k ++ rest) ≡ row_lines card k
  unfolding rows_text row_lines
  lines_there zero rest = ap (λ (l : List ℤ). rows_text 0 (l ++ rest)) (first-none card)
  lines_there (suc k) rest =
      ap (λ (l : List ℤ). rows_text (suc k) (l ++ rest)) (first_more card k)
      ∙ ap (rows_text (suc k)) (append_assoc (first_rows card k) (block card k) rest)
      ∙ rows_next k (first_rows card k ++ (block card k ++ rest))
      ∙ ap₂ (λ (t : List ℕ) (l : List ℤ). t ++ row_text l) (lines_there k (block card k ++ rest)) (block_there k rest)

-- ---- how many bytes a text has at most
-- a word, a count and the end of the line
pub ended_short : (word : List ℕ) (v : ℕ) → length (ended_text word v) ≤ length word + (most_digits + 1)
ended_short word v = omega (arith, ended_length word v, digits_most most_digits v)

-- ten digits and a minus
signed_short : (z : ℤ) → length (signed_text z) ≤ most_digits + 1
unfolding signed_text
signed_short (pos n) = omega (arith, digits_most most_digits n)
signed_short (negsuc n) = omega (arith, digits_most most_digits (suc n))

-- twelve bytes a number: eleven, and the byte that ends it
row_short : (row : List ℤ) → length (row_text row) ≤ 12 * length row
unfolding row_text
row_short [] = omega arith
row_short (z ∷ row) = simp length-append (omega (arith, signed_short z, row_short row))

pub lines_short : (card : Card) (k : ℕ) → length (row_lines card k) ≤ 84 * k
unfolding row_lines
lines_short card zero = omega arith
lines_short card (suc k) = simp length-append (omega (arith, lines_short card k, row_short (block card k), length_block card k))
