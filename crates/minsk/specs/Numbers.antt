-- Which numbers this method gives.
-- Assumes nothing.
use Rattle.std.specs.Prelude.{◌≡◌, true, false, List, [], ◌∷◌, map, ℕ}
use Rattle.card.specs.declared.Card.{Card}
use Rattle.card.specs.declared.Datum.TheVariants.{Relative}
use Rattle.card.specs.Words.{among}
use Rattle.card.specs.Reasons.{Test}
use Rattle.minsk.specs.Refusal.{tests, refusal}
use Rattle.minsk.specs.Table.{reply_to}

-- the numbers of the reasons, in the order of the list
abbrev pub listed : Card → ℕ → List ℕ
listed card room = map (λ (t : Test). t.number) (tests card room)

-- what a card gives with a table of `room` numbers
pub record GivenNumbers (card : Card) (room : ℕ) : Type 0 where
  pub order : listed card room ≡ 1 ∷ 2 ∷ 3 ∷ 4 ∷ 5 ∷ 6 ∷ 36 ∷ 37 ∷ 38 ∷ 8 ∷ 9 ∷ 10 ∷ 34 ∷ 35 ∷ 11 ∷ []
  -- 0, or the number of a reason
  pub given : among (0 ∷ listed card room) (reply_to card room).number ≡ true
  -- 34 and 35 are never given to a relative card
  pub own_relative : card.datum ≡ Relative → among (34 ∷ 35 ∷ []) (refusal card) ≡ false
  pub relative : card.datum ≡ Relative → among (34 ∷ 35 ∷ []) (reply_to card room).number ≡ false

-- THEOREM (proofs/GivenNumbers.antt): so it is with every card and every room
abbrev pub NumbersTheorem : Type 0
NumbersTheorem = (card : Card) (room : ℕ) → GivenNumbers card room
