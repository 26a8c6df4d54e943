-- What the definitions of a book mean: the reader accepts a text exactly when it is the text of the curves of a book, and then gives
-- those curves. The numbers of the curves are any numbers of 1 to 7 digits, the last two of either sign: a card that would be refused doesn't refuse its book.
-- Assumes nothing.
use Rattle.std.specs.Prelude.{ℕ, zero, suc, ◌+◌, ◌*◌, ◌≤◌, ◌≡◌, List, [], ◌∷◌, ◌++◌, ℤ, pos, length, take, drop}
use Rattle.card_list.specs.List.{curve_width, name_in}
use Rattle.book.specs.Body.{card_numbers}
use Rattle.book.specs.Book.{least_list, most_bytes, accepted_of, reply_to_book, list_after}
use Rattle.book.specs.Printed.{Curve, IsBook, number_text, contents_text, book_text, greatest_book}

-- thirteen numbers a curve: the byte place of its name, its length, the eleven numbers of its card;
-- the first contents line stands at this place and names this line
unfoldable pub entries : ℕ → ℕ → List Curve → List ℤ
entries at line [] = []
entries at line (curve ∷ curves) =
    (pos at ∷ pos (length curve.name) ∷ curve.numbers) ++ entries (at + length (contents_text curve.name line)) (line + 1) curves

-- of a whole book: the first contents line stands behind the count line, and names the line behind the contents
abbrev pub book_entries : List Curve → List ℤ
book_entries curves = entries (length (number_text (length curves) 10)) (length curves + 2) curves

-- the curve whose thirteen numbers stand first in a list: its name is read in the text
unfoldable pub curve_in : List ℕ → List ℤ → Curve
curve_in text list = record { name = name_in text list 0; numbers = take card_numbers (drop 2 list) }

-- the first n curves of a list
unfoldable pub curves_in : ℕ → List ℕ → List ℤ → List Curve
curves_in zero text list = []
curves_in (suc n) text list = curve_in text list ∷ curves_in n text (drop curve_width list)

-- a text is the text of the curves of a book
pub record TextOfBook (text : List ℕ) : Type 0 where
  pub curves : List Curve
  pub book : IsBook curves
  pub same : text ≡ book_text curves

-- THEOREM (proofs/BookMeaning.antt):
pub record MeaningTheorem : Type 0 where
  -- the text of the curves of a book is accepted, and the list then has their entries, whatever list of 832 numbers or more is lent
  pub accepted : (curves : List Curve) → IsBook curves → (list : List ℤ) → least_list ≤ length list
      → (reply_to_book (book_text curves) (length list) ≡ accepted_of (length curves))
      × (list_after (book_text curves) list ≡ book_entries curves ++ drop (curve_width * length curves) list)
  -- no other text is accepted
  pub only : (text : List ℕ) (list : List ℤ) → (reply_to_book text (length list)).number ≡ 0
      → (least_list ≤ length list) × TextOfBook text
  -- the names and numbers that the list gives are those of the curves
  pub given : (curves : List Curve) → IsBook curves → (rest : List ℤ)
      → curves_in (length curves) (book_text curves) (book_entries curves ++ rest) ≡ curves
  -- two books with the same text have the same curves
  pub one : (curves others : List Curve) → IsBook curves → IsBook others → book_text curves ≡ book_text others → curves ≡ others
  -- the text of a book is never too long: it has at most 6049 bytes, and so 21 refuses no book of 1 to 64 curves
  pub most : (curves : List Curve) → IsBook curves → length (book_text curves) ≤ greatest_book
  pub short : greatest_book ≤ most_bytes
