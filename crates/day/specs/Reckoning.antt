-- What the code's private functions ask and promise.
-- Assumes nothing.
use Rattle.std.specs.Prelude.{◌≡◌, List, ◌++◌, ℕ, ◌+◌, ◌*◌, ◌-◌, ◌≤◌, ◌<◌, ℤ, length, take, drop, set}
use Rattle.card.specs.declared.Card.{Card}
use Rattle.runoff.specs.Table.{reply_to, table_after}
use Rattle.day.specs.Day.{reply_width, used_by}

-- there is room for card i: the used numbers lie in the table, and the card's two places in the reply list
pub record Fits (i used : ℕ) (table : List ℤ) (replies : List ℕ) : Type 0 where
  pub within : used ≤ length table
  pub listed : reply_width * i + 1 < length replies

-- what card i leaves of the table and the reply list, and how many numbers are used then
pub record Step (card : Card) (i used : ℕ) (table : List ℤ) (replies : List ℕ) (used' : ℕ) (table' : List ℤ) (replies' : List ℕ) : Type 0 where
  pub more : used' ≡ used + used_by card (length table - used)
  pub filled : table' ≡ take used table ++ table_after card (drop used table)
  pub replied :
      replies'
      ≡ set (set replies (reply_width * i) (reply_to card (length table - used)).number) (reply_width * i + 1)
      (reply_to card (length table - used)).count
