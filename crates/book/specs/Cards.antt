-- Document 01: "the book part relies only on what the section part promises". What a book hands to the section rules is a card: the
-- eleven numbers of a curve, in the card's order. Whether the section rules accept it is no matter of the book's. Beside it stands the name.
-- Assumes nothing.
use Rattle.std.specs.Prelude.{ℕ, ◌≤◌, ◌≡◌, List, ◌∷◌, ◌++◌, ℤ, length}
use Rattle.card_list.specs.List.{card_of, card_in, name_in}
use Rattle.book.specs.Book.{least_list, list_after}
use Rattle.book.specs.Printed.{Curve, IsBook, book_text}

-- a curve of a list hands over this curve's own numbers and name
pub record Hands (text : List ℕ) (list : List ℤ) (place : ℕ) (curve : Curve) : Type 0 where
  pub card : card_in list place ≡ card_of curve.numbers
  pub name : name_in text list place ≡ curve.name

-- THEOREM (proofs/HandedCards.antt): in the list of a book, whatever list of 832 numbers or more was lent, each curve hands over its own
-- numbers and its own name
abbrev pub HandedTheorem : Type 0
HandedTheorem =
    (before : List Curve) (curve : Curve) (later : List Curve) (list : List ℤ)
    → IsBook (before ++ (curve ∷ later))
    → least_list ≤ length list
    → Hands (book_text (before ++ (curve ∷ later))) (list_after (book_text (before ++ (curve ∷ later))) list) (length before) curve
