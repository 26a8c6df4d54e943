-- Document 02, Slip 7: what a card and a lent table are answered by this method, and the table afterwards.
-- Assumes nothing.
use Rattle.std.specs.Prelude.{List, ℕ, ◌*◌, ℤ, length}
use Rattle.card.specs.declared.Card.{Card}
use Rattle.card.specs.Reasons.{first}
use Rattle.card.specs.Table.{Reply, reply_by, table_by}
use Rattle.minsk.specs.Rows.{row_count, row_width, rows}
use Rattle.minsk.specs.Refusal.{tests}

-- the card's own reasons and then 11, first one met; room is the length of the lent table
unfoldable pub reply_number : Card → ℕ → ℕ
reply_number card room = first (tests card room)

-- an accepted card gives number 0 and the count of rows; a refused card gives its number and count 0
unfoldable pub reply_to : Card → ℕ → Reply
reply_to card room = reply_by (reply_number card room) (row_count card)

-- accepted: the rows, and the numbers after the last row untouched; refused: the whole table untouched
unfoldable pub table_after : Card → List ℤ → List ℤ
table_after card table = table_by (reply_number card (length table)) (row_width * row_count card) (rows card) table
