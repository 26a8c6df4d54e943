-- The text of a row number by number, and the text of rows row by row.
-- Assumes nothing.
use Rattle.std.proofs.Common.{ℕ, suc, zero, ◌+◌, ◌-◌, ◌/◌, ◌≤◌, ◌<◌, min, ◌≡◌, List, [], ◌∷◌, ◌++◌, flat_map, length, get_or, take, drop, length-append, length-drop, add-one, drop-cons, drop_of_length-le, append_assoc, refl, ap, sym, ◌∙◌, arith, ℤ, pos}
use Rattle.std.specs.Simd.{first_chunks}
use Rattle.decimal.specs.Decimal.{signed_text}
use Rattle.runoff.specs.Rows.{row_width}
use Rattle.book.specs.Body.{end_of}
use Rattle.book.proofs.LineLaws.{end_some}
use Rattle.sheet_text.specs.Text.{row_text, rows_text, held_rows}

-- past the last number, no text
pub row-none : (row : List ℤ) (i : ℕ) → length row ≤ i → row_text (drop i row) ≡ []
unfolding row_text
row-none row i h = ap row_text (drop_of_length-le row h)

-- the byte after the last of n numbers, and after number j of n, counted from 1, that is not the last
pub end_last : (n j : ℕ) → j ≡ n → end_of (n - j) ≡ 10
end_last n j e = let z : n - j ≡ 0 = omega arith in ap end_of z

pub end_other : (n j : ℕ) → j ≤ n → (j ≡ n → ⊥) → end_of (n - j) ≡ 32
end_other n j l h = end_some (n - j) (λ e. h (omega arith))

module _ (row : List ℤ) (i : ℕ) (inside : i < length row) where
  -- the text from a number on: its digits, the byte after it, and the text from the next number on
  pub row_turn : row_text (drop i row) ≡ (signed_text (get_or row i (pos 0)) ++ (end_of (length row - (i + 1)) ∷ [])) ++ row_text (drop (i + 1) row)
  unfolding row_text
  row_turn =
      ap row_text (drop-cons row i (pos 0) inside)
      ∙ rw (length-drop, add-one) (sym (append_assoc (signed_text (get_or row i (pos 0))) (end_of (length row - suc i) ∷ []) (row_text (drop (suc i) row))))

  pub row_size_turn : length (row_text (drop i row)) ≡ length (signed_text (get_or row i (pos 0))) + 1 + length (row_text (drop (i + 1) row))
  row_size_turn = ap length row_turn ∙ simp length-append (omega arith)

-- past the last row, no text
pub rows_none : (rows : List (List ℤ)) (i : ℕ) → length rows ≤ i → flat_map row_text (drop i rows) ≡ []
rows_none rows i h = ap (flat_map row_text) (drop_of_length-le rows h)

-- a row, and the rows after it
pub rows_turn : (rows : List (List ℤ)) (i : ℕ) → i < length rows → flat_map row_text (drop i rows) ≡ row_text (get_or rows i []) ++ flat_map row_text (drop (i + 1) rows)
rows_turn rows i h = ap (flat_map row_text) (drop-cons rows i [] h) ∙ rw add-one

pub rows_size_turn : (rows : List (List ℤ)) (i : ℕ) → i < length rows
    → length (flat_map row_text (drop i rows)) ≡ length (row_text (get_or rows i [])) + length (flat_map row_text (drop (i + 1) rows))
rows_size_turn rows i h = ap length (rows_turn rows i h) ∙ length-append (row_text (get_or rows i [])) _

-- the rows cut from a table: the first of more, and their text
first_few : (k count : ℕ) (table : List ℤ) → k ≤ count → take k (first_chunks row_width count table) ≡ first_chunks row_width k table
first_few zero count table h = refl
first_few (suc k) zero table h = absurd (omega arith)
first_few (suc k) (suc count) table h = ap (λ (rows : List (List ℤ)). take row_width table ∷ rows) (first_few k count (drop row_width table) (omega arith))

cut_text : (k : ℕ) (table : List ℤ) → flat_map row_text (first_chunks row_width k table) ≡ rows_text k table
unfolding rows_text
cut_text zero table = refl
cut_text (suc k) table = ap (λ (text : List ℕ). row_text (take row_width table) ++ text) (cut_text k (drop row_width table))

-- the rows that are written are those that the table holds
pub held_text : (table : List ℤ) (held : List (List ℤ)) (count k : ℕ) → held ≡ first_chunks row_width (length table / row_width) table
    → length held ≡ length table / row_width → k ≡ min (length held) count → flat_map row_text (take k held) ≡ rows_text (held_rows count table) table
held_text table held count k cut long e =
    let few : k ≤ length table / row_width = omega (arith, long, e) in
    let same : k ≡ held_rows count table = omega (arith, long, e) in
    ap (λ (rows : List (List ℤ)). flat_map row_text (take k rows)) cut ∙ ap (flat_map row_text) (first_few k (length table / row_width) table few) ∙ cut_text k table
    ∙ ap (λ (n : ℕ). rows_text n table) same
