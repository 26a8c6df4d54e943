-- Rows of `width` numbers written into a table, one after the other; the same for every method, which says how wide its rows are.
-- Assumes nothing.
use Rattle.std.specs.Prelude.{List, ◌++◌, ℕ, zero, suc, ◌+◌, ◌*◌, ℤ, take, drop}

-- a table with the numbers of row i replaced
abbrev pub with_row : ℕ → ℕ → List ℤ → List ℤ → List ℤ
with_row width i table numbers = take (width * i) table ++ (numbers ++ drop (width * i + width) table)

-- and with n rows from `first` on replaced, row i by f i
unfoldable pub with_rows : ℕ → (ℕ → List ℤ) → ℕ → ℕ → List ℤ → List ℤ
with_rows width f first zero table = table
with_rows width f first (suc n) table = with_row width (first + n) (with_rows width f first n table) (f (first + n))
