-- Document 02, Slip 2, "A whole day's cards in one call": what the call is answered, and the table and the reply list afterwards.
-- Assumes nothing.
use Rattle.std.specs.Prelude.{cond, List, [], ◌∷◌, ◌++◌, ℕ, ◌*◌, ◌-◌, eqb, ℤ, length, take, drop}
use Rattle.card.specs.declared.Card.{Card}
use Rattle.card.specs.Table.{Reply}
use Rattle.card.specs.Words.{◌below◌, ◌above◌}
use Rattle.card.specs.Reasons.{Test, test, first}
use Rattle.card.specs.Table.{reply_by}
use Rattle.runoff.specs.Rows.{row_width}
use Rattle.runoff.specs.Table.{reply_to, table_after}

-- "up to 64 cards"
abbrev pub most_cards : ℕ
most_cards = 64

-- "The number and count of each card go to a lent reply list": two numbers a card
abbrev pub reply_width : ℕ
reply_width = 2

-- "It refuses with 29 more than 64 cards and with 30 a reply list below two numbers a card, in that order": `count` cards, and a reply list of
-- `room` numbers
abbrev pub day_tests : ℕ → ℕ → List Test
day_tests count room =
    test 29 (count above most_cards) ∷
    test 30 (room below (reply_width * count)) ∷ []

unfoldable pub day_number : ℕ → ℕ → ℕ
day_number count room = first (day_tests count room)

-- "else it gives number 0 and the count of cards"; a refusal gives its number and count 0
unfoldable pub day_reply : ℕ → ℕ → Reply
day_reply count room = reply_by (day_number count room) count

-- how many numbers of a table a card uses that is given `room` of them: seven for each row that its reply counts, and a refused card counts none
abbrev pub used_by : Card → ℕ → ℕ
used_by card room = row_width * (reply_to card room).count

-- "Each card gets the part of the table that the cards before it haven't used": the first card's rows, as a single call leaves them, then what
-- the cards after it leave of the rest
unfoldable pub table_of : List Card → List ℤ → List ℤ
table_of [] table = table
table_of (card ∷ cards) table =
    take (used_by card (length table)) (table_after card table) ++ table_of cards (drop (used_by card (length table)) table)

-- "The number and count of each card .. in order", where `room` numbers of the table are not used
unfoldable pub replies_of : List Card → ℕ → List ℕ
replies_of [] room = []
replies_of (card ∷ cards) room =
    (reply_to card room).number ∷ (reply_to card room).count ∷ replies_of cards (room - used_by card room)

-- the table afterwards; on a refusal it is as it was
unfoldable pub day_table : List Card → List ℤ → List ℕ → List ℤ
day_table cards table replies = cond (eqb (day_number (length cards) (length replies)) 0) (table_of cards table) table

-- the reply list afterwards: "its other numbers are kept"; on a refusal it is as it was
unfoldable pub day_replies : List Card → List ℤ → List ℕ → List ℕ
day_replies cards table replies =
    cond (eqb (day_number (length cards) (length replies)) 0)
    (replies_of cards (length table) ++ drop (reply_width * length cards) replies)
    replies
