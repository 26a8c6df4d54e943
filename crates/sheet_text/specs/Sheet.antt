-- Document 01, the sheet printer: the sheet of a book, "curves in book order, from a table long enough for every card".
-- Assumes nothing.
use Rattle.std.specs.Prelude.{ℕ, zero, suc, ◌≤◌, ◌<◌, cond, ◌≡◌, List, [], ◌∷◌, ◌++◌, eqb, ℤ, length}
use Rattle.card.specs.declared.Card.{Card}
use Rattle.runoff.specs.Rows.{cells, row_of, station_of, row_count}
use Rattle.runoff.specs.Refusal.{refusal}
use Rattle.runoff.specs.Table.{reply_to, table_after}
use Rattle.card_list.specs.List.{card_of, card_in, name_in}
use Rattle.book.specs.Book.{BookReply, least_list, reply_to_book, list_after}
use Rattle.book.specs.Printed.{Curve, IsBook, book_text}
use Rattle.sheet_text.specs.Text.{row_text, ended_text, blank, curve_text, refused_text, book_line}

-- the lines of the first k rows of a card
unfoldable pub row_lines : Card → ℕ → List ℕ
row_lines card zero = []
row_lines card (suc k) = row_lines card k ++ row_text (cells (row_of card (station_of card k)))

-- a curve: name and row count, then the rows of its card; or the number that refuses the card
unfoldable pub card_sheet : List ℕ → Card → List ℕ
card_sheet name card =
    cond (eqb (refusal card) 0)
    (name ++ (ended_text blank (row_count card) ++ row_lines card (row_count card)))
    (refused_text name (refusal card))

abbrev pub curve_sheet : Curve → List ℕ
curve_sheet curve = card_sheet curve.name (card_of curve.numbers)

-- curves in book order
unfoldable pub curves_sheet : List Curve → List ℕ
curves_sheet [] = []
curves_sheet (curve ∷ curves) = curve_sheet curve ++ curves_sheet curves

-- a table of 2107 numbers is long enough for every card, and a buffer of 25304 bytes for the text of every curve of a book
abbrev pub enough_numbers : ℕ
enough_numbers = 2107

abbrev pub enough_bytes : ℕ
enough_bytes = 25304

-- what the calls give for a curve of a list, counted from 0: its card is handed to the table call, and its name, the reply and the rows
-- become text
abbrev pub part_of : List ℕ → List ℤ → ℕ → List ℤ → List ℕ
part_of text list curve table =
    curve_text (name_in text list curve) (reply_to (card_in list curve) (length table)) (table_after (card_in list curve) table)

-- what they give for its first k curves, in order, each with the table that is lent for it
unfoldable pub parts_of : List ℕ → List ℤ → (ℕ → List ℤ) → ℕ → List ℕ
parts_of text list tables zero = []
parts_of text list tables (suc k) = parts_of text list tables k ++ part_of text list k (tables k)

-- the whole sheet of a text that is read into a lent list: the book's own line, and what the calls give for each curve that the book counts
unfoldable pub sheet_of : List ℕ → List ℤ → (ℕ → List ℤ) → List ℕ
sheet_of text list tables =
    book_line (reply_to_book text (length list))
    ++ parts_of text (list_after text list) tables (reply_to_book text (length list)).count

-- THEOREM (proofs/Sheets.antt):
pub record SheetTheorem : Type 0 where
  -- whatever table of 2107 numbers or more is lent, the text that the table call's reply and rows give is the curve's sheet
  pub curve : (name : List ℕ) (card : Card) (table : List ℤ) → enough_numbers ≤ length table
      → curve_text name (reply_to card (length table)) (table_after card table) ≡ card_sheet name card
  -- so what the calls give for each curve of a book is that curve's sheet, whatever list and table that are long enough are lent
  pub part : (before : List Curve) (curve : Curve) (later : List Curve) (list table : List ℤ)
      → IsBook (before ++ (curve ∷ later)) → least_list ≤ length list → enough_numbers ≤ length table
      → part_of (book_text (before ++ (curve ∷ later))) (list_after (book_text (before ++ (curve ∷ later))) list) (length before) table ≡ curve_sheet curve
  -- and the whole sheet of a book is that of its curves, in book order
  pub book : (curves : List Curve) (list : List ℤ) (tables : ℕ → List ℤ) → IsBook curves → least_list ≤ length list
      → ((k : ℕ) → enough_numbers ≤ length (tables k)) → sheet_of (book_text curves) list tables ≡ curves_sheet curves
  -- the sheet of a refused book is its one line
  pub refused : (text : List ℕ) (list : List ℤ) (tables : ℕ → List ℤ) → ((reply_to_book text (length list)).number ≡ 0 → ⊥)
      → sheet_of text list tables ≡ book_line (reply_to_book text (length list))
  -- no curve that a book counts needs more than 25304 bytes, nor does the line of any reply to a book
  pub fits : (text : List ℕ) (list : List ℤ) (curve : ℕ) (table : List ℤ) → curve < (reply_to_book text (length list)).count
      → enough_numbers ≤ length table → length (part_of text (list_after text list) curve table) ≤ enough_bytes
  pub line : (reply : BookReply) → length (book_line reply) ≤ enough_bytes
