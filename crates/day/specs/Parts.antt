-- Document 02, Slip 2, in a road engineer's words: what the call leaves for each card. All of it is said of the table and the reply list that
-- the call leaves, so that whoever holds these can find a card's rows.
-- Assumes nothing.
use Rattle.std.specs.Prelude.{◌≡◌, cond, List, ℕ, zero, suc, ◌+◌, ◌*◌, ◌≤◌, ◌<◌, eqb, ℤ, length, get_or, take, drop}
use Rattle.card.specs.declared.Card.{Card}
use Rattle.runoff.specs.Rows.{row_width}
use Rattle.runoff.specs.Refusal.{refusal}
use Rattle.runoff.specs.Table.{reply_to, table_after}
use Rattle.runoff.specs.Climbing.{ClimbingTable}
use Rattle.day.specs.Day.{reply_width, day_reply, day_table, day_replies}

-- the two numbers of card i in a reply list, cards counted from 0
abbrev pub number_in : List ℕ → ℕ → ℕ
number_in replies i = get_or replies (reply_width * i) 0

abbrev pub count_in : List ℕ → ℕ → ℕ
count_in replies i = get_or replies (reply_width * i + 1) 0

-- how many of the first k cards are accepted
abbrev pub accepted_in : List ℕ → ℕ → ℕ
accepted_in replies zero = 0
accepted_in replies (suc k) = accepted_in replies k + cond (eqb (number_in replies k) 0) 1 0

-- where the part of card i begins in the table: behind the rows of the cards before it
abbrev pub start_in : List ℕ → ℕ → ℕ
start_in replies zero = 0
start_in replies (suc i) = start_in replies i + row_width * count_in replies i

-- the rest of a table that the cards before card i have not used
abbrev pub rest_in : List ℕ → ℕ → List ℤ → List ℤ
rest_in replies i table = drop (start_in replies i) table

-- the part of card i: its rows in that rest
abbrev pub part_in : List ℕ → ℕ → List ℤ → List ℤ
part_in replies i table = take (row_width * count_in replies i) (rest_in replies i table)

-- no card has more than 301 rows, so that so many numbers are enough for k cards
abbrev pub enough_for : ℕ → ℕ
enough_for k = row_width * 301 * k

-- what card i has in the reply list `replies` and the table `table`, where the table was `old`
pub record PartOf (card : Card) (i : ℕ) (old table : List ℤ) (replies : List ℕ) : Type 0 where
  -- its number and its count are those of a single call on the rest
  pub number : number_in replies i ≡ (reply_to card (length (rest_in replies i old))).number
  pub count : count_in replies i ≡ (reply_to card (length (rest_in replies i old))).count
  -- and so are its rows
  pub rows : part_in replies i table ≡ take (row_width * count_in replies i) (table_after card (rest_in replies i old))
  -- a refused card uses nothing: the next card's part begins where its own would have
  pub refused : ¬ (number_in replies i ≡ 0) → start_in replies (suc i) ≡ start_in replies i
  -- demand 3 holds of the part of an accepted card
  pub climbs : number_in replies i ≡ 0 → ClimbingTable card (count_in replies i) (part_in replies i table)
  -- where the table is long enough for the cards up to this one, it is refused for its own reasons only, and never with 11
  pub enough : enough_for (suc i) ≤ length old → number_in replies i ≡ refusal card

-- what the call leaves: table and reply list were `old` and `listed`, and are `table` and `replies`
pub record DayLeft (cards : List Card) (old : List ℤ) (listed : List ℕ) (table : List ℤ) (replies : List ℕ) : Type 0 where
  -- each card has its part (`none` stands for no card of the list)
  pub parts : (i : ℕ) (none : Card) → i < length cards → PartOf (get_or cards i none) i old table replies
  -- parts do not overlap: that of a later card begins where that of an earlier one ends, or behind it (this follows from where parts begin)
  pub apart : (i j : ℕ) → i < j → j < length cards → start_in replies i + row_width * count_in replies i ≤ start_in replies j
  -- the last of them ends in the table
  pub within : start_in replies (length cards) ≤ length old
  -- the numbers of the table past it are as they were
  pub table_kept : drop (start_in replies (length cards)) table ≡ drop (start_in replies (length cards)) old
  pub table_long : length table ≡ length old
  -- and so are those of the reply list past the last card's two
  pub replies_kept : drop (reply_width * length cards) replies ≡ drop (reply_width * length cards) listed
  pub replies_long : length replies ≡ length listed

-- THEOREM (proofs/DayParts.antt): so the call leaves every list of cards, table and reply list that it does not refuse
abbrev pub DayTheorem : Type 0
DayTheorem =
    (cards : List Card) (table : List ℤ) (replies : List ℕ) → (day_reply (length cards) (length replies)).number ≡ 0 →
    DayLeft cards table replies (day_table cards table replies) (day_replies cards table replies)

-- THEOREM (proofs/DayParts.antt): "leaving table and reply list untouched": so a call leaves them that it refuses
abbrev pub RefusedTheorem : Type 0
RefusedTheorem =
    (cards : List Card) (table : List ℤ) (replies : List ℕ) → ¬ ((day_reply (length cards) (length replies)).number ≡ 0) →
    (day_table cards table replies ≡ table) × (day_replies cards table replies ≡ replies)

-- demand 3 of every accepted card's part, as the call's contract has it
abbrev pub ClimbingDay : List Card → List ℤ → List ℕ → Type 0
ClimbingDay cards table replies =
    (i : ℕ) (none : Card) → i < length cards → number_in replies i ≡ 0 →
    ClimbingTable (get_or cards i none) (count_in replies i) (part_in replies i table)
