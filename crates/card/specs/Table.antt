-- Document 01, "What a turned-away card or book says": what a card and a lent table are answered by any method, and the table afterwards.
-- Assumes nothing.
use Rattle.std.specs.Prelude.{cond, List, ◌++◌, ℕ, eqb, ℤ, drop}

-- what a card and a lent table are answered, in the paper's numbers
pub record Reply : Type 0 where
  pub number : ℕ
  pub count : ℕ

-- an accepted card gives number 0 and the count of rows; a refused card gives its number and count 0
unfoldable pub reply_by : ℕ → ℕ → Reply
reply_by number count = record { number = number; count = cond (eqb number 0) count 0 }

-- accepted: the rows, which take so many numbers, and the numbers after the last row untouched; refused: the whole table untouched
unfoldable pub table_by : ℕ → ℕ → List ℤ → List ℤ → List ℤ
table_by number taken rows table = cond (eqb number 0) (rows ++ drop taken table) table
