-- Document 01, the sheet printer: "it prints name and row count, then rows as above, one blank between numbers, each line ended by
-- byte 10", "a refused card prints as `RAMP refused 8`, a refused book only as `book 24 line 2`".
-- Assumes nothing.
use Rattle.std.specs.Prelude.{ℕ, zero, suc, ◌/◌, min, cond, List, [], ◌∷◌, ◌++◌, eqb, ℤ, length, take, drop}
use Rattle.decimal.specs.Decimal.{count_text, signed_text}
use Rattle.card.specs.Table.{Reply}
use Rattle.runoff.specs.Rows.{row_width}
use Rattle.book.specs.Book.{BookReply}
use Rattle.book.specs.Body.{end_of}

-- the numbers of a row: one blank (byte 32) between two, byte 10 after the last
unfoldable pub row_text : List ℤ → List ℕ
row_text [] = []
row_text (z ∷ row) = signed_text z ++ (end_of (length row) ∷ row_text row)

-- the first k rows of a table
unfoldable pub rows_text : ℕ → List ℤ → List ℕ
rows_text zero table = []
rows_text (suc k) table = row_text (take row_width table) ++ rows_text k (drop row_width table)

-- of the counted rows those that the table holds: all of them, where the table call has counted
abbrev pub held_rows : ℕ → List ℤ → ℕ
held_rows count table = min count (length table / row_width)

-- a word, a count, and the end of the line (byte 10)
unfoldable pub ended_text : List ℕ → ℕ → List ℕ
ended_text word v = word ++ (count_text v ++ (10 ∷ []))

-- the words: a blank, ` refused `, `book `, ` line `
abbrev pub blank : List ℕ
blank = 32 ∷ []

abbrev pub refused_word : List ℕ
refused_word = 32 ∷ 114 ∷ 101 ∷ 102 ∷ 117 ∷ 115 ∷ 101 ∷ 100 ∷ 32 ∷ []

abbrev pub book_word : List ℕ
book_word = 98 ∷ 111 ∷ 111 ∷ 107 ∷ 32 ∷ []

abbrev pub line_word : List ℕ
line_word = 32 ∷ 108 ∷ 105 ∷ 110 ∷ 101 ∷ 32 ∷ []

-- name and row count, then the rows
unfoldable pub accepted_text : List ℕ → ℕ → List ℤ → List ℕ
accepted_text name count table = name ++ (ended_text blank count ++ rows_text (held_rows count table) table)

-- `RAMP refused 8`
unfoldable pub refused_text : List ℕ → ℕ → List ℕ
refused_text name number = name ++ ended_text refused_word number

-- a curve's text, by the reply to its card and the table afterwards
abbrev pub curve_text : List ℕ → Reply → List ℤ → List ℕ
curve_text name reply table =
    cond (eqb reply.number 0) (accepted_text name reply.count table) (refused_text name reply.number)

-- `book 24 line 2`
unfoldable pub refused_book_text : ℕ → ℕ → List ℕ
refused_book_text number line = book_word ++ (count_text number ++ ended_text line_word line)

-- a book's own text, by its reply: an accepted book prints nothing but its curves
abbrev pub book_line : BookReply → List ℕ
book_line reply = cond (eqb reply.number 0) [] (refused_book_text reply.number reply.line)
