-- What the definitions of the writer mean: each number is given exactly when its words hold, what is written is a book with the list's own
-- names and numbers, and what was read from a book is written back byte for byte.
-- Assumes nothing.
use Rattle.std.specs.Prelude.{ℕ, ◌+◌, ◌*◌, ◌≤◌, ◌<◌, ◌↔◌, ◌≡◌, true, List, [], ◌∷◌, ◌++◌, ℤ, length, get_or, take, drop}
use Rattle.decimal.specs.Decimal.{Each}
use Rattle.card.specs.Words.{among}
use Rattle.card.specs.Table.{reply_by}
use Rattle.card_list.specs.declared.NamePlace.{NamePlace}
use Rattle.card_list.specs.List.{curve_width, name_place_in, name_bytes, name_in}
use Rattle.book.specs.Body.{card_numbers}
use Rattle.book.specs.Book.{most_curves, least_list, accepted_of, reply_to_book, list_after}
use Rattle.book.specs.Printed.{Curve, IsName, IsBody, NoTwins, IsBook, names_of, bodies_of, book_text}
use Rattle.book.specs.Meaning.{curves_in}
use Rattle.book.specs.Writing.{curve_count, curves_of, writer_number, reply_to_list, buffer_after}

-- a name stands whole in the bytes
pub record NameStands (names : List ℕ) (at : NamePlace) : Type 0 where
  pub inside : at.place + at.size ≤ length names
  pub name : IsName (name_bytes names at)

-- a list with nothing that 31 refuses: thirteen numbers for each of n curves, n from 1 to 64, and the name of each stands in the bytes
pub record RightList (list : List ℤ) (names : List ℕ) (n : ℕ) : Type 0 where
  pub some : 1 ≤ n
  pub few : n ≤ most_curves
  pub sized : length list ≡ curve_width * n
  pub named : (i : ℕ) → i < n → NameStands names (name_place_in list i)

-- 31: it is no such list, whatever n
pub record WrongList (list : List ℤ) (names : List ℕ) : Type 0 where
  pub wrong : (n : ℕ) → RightList list names n → ⊥

-- 32: such a list, and a name has a twin
pub record TwinList (list : List ℤ) (names : List ℕ) : Type 0 where
  pub n : ℕ
  pub right : RightList list names n
  pub twin : NoTwins (names_of (curves_of list names)) → ⊥

-- the numbers of each of its cards can stand in a body: the eight not below 0, mark 0 or 1, height and grade 0 beside mark 0, and none of
-- more than seven digits
abbrev pub RightCards : List ℤ → List ℕ → Type 0
RightCards list names = Each IsBody (bodies_of (curves_of list names))

-- 33: such a list without twins, and the numbers of a card cannot stand in a body or the buffer is shorter than the book
pub record Unwritable (list : List ℤ) (names : List ℕ) (room : ℕ) : Type 0 where
  pub n : ℕ
  pub right : RightList list names n
  pub twins : NoTwins (names_of (curves_of list names))
  pub short : RightCards list names → length (book_text (curves_of list names)) ≤ room → ⊥

-- 0: none of these; then the curves are a book's
pub record Fits (list : List ℤ) (names : List ℕ) (room : ℕ) : Type 0 where
  pub n : ℕ
  pub right : RightList list names n
  pub twins : NoTwins (names_of (curves_of list names))
  pub cards : RightCards list names
  pub long : length (book_text (curves_of list names)) ≤ room

-- a written book: its bytes, as many as the reply counts
abbrev pub written : List ℤ → List ℕ → List ℕ → List ℕ
written list names buffer = take (reply_to_list list names (length buffer)).count (buffer_after list names buffer)

-- the front part of a list that a reader has filled with the curves of a text: thirteen numbers for each curve that it counts
abbrev pub front_of : List ℕ → List ℤ → List ℤ
front_of text list = take (curve_width * (reply_to_book text (length list)).count) (list_after text list)

-- a curve of a list, counted from 0: the bytes at the place of its name, and the eleven numbers behind place and length
abbrev pub own_curve : List ℤ → List ℕ → ℕ → Curve
own_curve list names i = record { name = name_in names list i; numbers = take card_numbers (drop (curve_width * i + 2) list) }

-- the curves that are written are the list's own, thirteen numbers each
pub record OwnCurves (list : List ℤ) (names : List ℕ) : Type 0 where
  pub count : length (curves_of list names) ≡ curve_count (length list)
  pub curve : (i : ℕ) (other : Curve) → i < curve_count (length list) → get_or (curves_of list names) i other ≡ own_curve list names i

-- a book is written: its curves are a book's, the reply counts its bytes, which stand in the buffer, and the later ones are kept
pub record BookWritten (list : List ℤ) (names buffer : List ℕ) : Type 0 where
  pub book : IsBook (curves_of list names)
  pub reply : reply_to_list list names (length buffer) ≡ reply_by 0 (length (book_text (curves_of list names)))
  pub bytes : written list names buffer ≡ book_text (curves_of list names)
  pub later : drop (length (written list names buffer)) (buffer_after list names buffer) ≡ drop (length (written list names buffer)) buffer

-- THEOREM (proofs/WriterMeaning.antt): for every list, whatever bytes its names count in and whatever buffer is lent
pub record WriterTheorem : Type 0 where
  pub own : (list : List ℤ) (names : List ℕ) → OwnCurves list names
  -- each number is given exactly when its words hold
  pub wrong : (list : List ℤ) (names : List ℕ) (room : ℕ) → (writer_number list names room ≡ 31) ↔ WrongList list names
  pub twin : (list : List ℤ) (names : List ℕ) (room : ℕ) → (writer_number list names room ≡ 32) ↔ TwinList list names
  pub short : (list : List ℤ) (names : List ℕ) (room : ℕ) → (writer_number list names room ≡ 33) ↔ Unwritable list names room
  pub fits : (list : List ℤ) (names : List ℕ) (room : ℕ) → (writer_number list names room ≡ 0) ↔ Fits list names room
  -- and no other number is given
  pub only : (list : List ℤ) (names : List ℕ) (room : ℕ) → among (0 ∷ 31 ∷ 32 ∷ 33 ∷ []) (writer_number list names room) ≡ true
  -- a refusal gives its number and a count of 0, and leaves the buffer as it is
  pub refused : (list : List ℤ) (names buffer : List ℕ) → (writer_number list names (length buffer) ≡ 0 → ⊥)
      → (reply_to_list list names (length buffer) ≡ reply_by (writer_number list names (length buffer)) 0) × (buffer_after list names buffer ≡ buffer)
  -- an accepted list is written
  pub book : (list : List ℤ) (names buffer : List ℕ) → writer_number list names (length buffer) ≡ 0 → BookWritten list names buffer
  -- reading a written book gives those names and numbers, whatever list of 832 numbers or more is lent to the reader
  pub reads : (list : List ℤ) (names buffer : List ℕ) (lent : List ℤ) → writer_number list names (length buffer) ≡ 0 → least_list ≤ length lent
      → (reply_to_book (written list names buffer) (length lent) ≡ accepted_of (curve_count (length list)))
      × (curves_in (curve_count (length list)) (written list names buffer) (list_after (written list names buffer) lent) ≡ curves_of list names)
  -- writing back what was read from an accepted book gives its bytes, in any buffer that is as long
  pub back : (text : List ℕ) (lent : List ℤ) (buffer : List ℕ) → (reply_to_book text (length lent)).number ≡ 0 → length text ≤ length buffer
      → (reply_to_list (front_of text lent) text (length buffer) ≡ reply_by 0 (length text))
      × (buffer_after (front_of text lent) text buffer ≡ text ++ drop (length text) buffer)
