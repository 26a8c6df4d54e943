-- Which numbers the call gives, and when: document 02, Slip 2, the other way round.
-- Assumes nothing.
use Rattle.std.specs.Prelude.{◌≡◌, ◌↔◌, ℕ, ◌*◌, ◌≤◌, ◌<◌}
use Rattle.day.specs.Day.{most_cards, reply_width, day_reply}

-- what `count` cards and a reply list of `room` numbers are answered
pub record GivenNumbers (count room : ℕ) : Type 0 where
  -- 29 exactly where there are more than 64 cards
  pub many : ((day_reply count room).number ≡ 29) ↔ (most_cards < count)
  -- 30 exactly where there are no more, and the reply list is below two numbers a card
  pub short : ((day_reply count room).number ≡ 30) ↔ ((count ≤ most_cards) × (room < reply_width * count))
  -- 0 in every other case
  pub right : ((day_reply count room).number ≡ 0) ↔ ((count ≤ most_cards) × (reply_width * count ≤ room))
  -- and then the count is that of the cards; else it is 0
  pub counted : (day_reply count room).number ≡ 0 → (day_reply count room).count ≡ count
  pub not_counted : ¬ ((day_reply count room).number ≡ 0) → (day_reply count room).count ≡ 0

-- THEOREM (proofs/DayNumbers.antt)
abbrev pub NumbersTheorem : Type 0
NumbersTheorem = (count room : ℕ) → GivenNumbers count room
