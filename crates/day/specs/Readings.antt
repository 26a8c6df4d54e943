-- Readings at the edges of the day's call, from document 02, Slips 2 and 5, and the rows of document 01's own card.
-- Assumes nothing.
use Rattle.std.specs.Prelude.{◌≡◌, List, [], ◌∷◌, ◌++◌, ℕ, ℤ, pos, length, replicate}
use Rattle.card.specs.declared.Card.{Card}
use Rattle.card.specs.Table.{Reply}
use Rattle.card.specs.Card.{card, absolute_card, ramp}
use Rattle.runoff.specs.Rows.{rows}
use Rattle.runoff.specs.AbsoluteReadings.{falling_ramp}
use Rattle.day.specs.Day.{most_cards, day_reply, replies_of, day_table, day_replies}
use Rattle.day.specs.Parts.{accepted_in, enough_for}

abbrev reply : ℕ → ℕ → Reply
reply n k = record { number = n; count = k }

-- RAMP with full slope 61, which 5 refuses; and RAMP with a row every 10 m, which has four rows
abbrev pub steep : Card
steep = card 5 1 30 30000 61 600 20000 1

abbrev pub close : Card
close = card 5 1 30 30000 60 600 10000 1

-- RAMP in centimetres, 5 mm above the benchmark, which 34 refuses
abbrev pub halfway : Card
halfway = absolute_card 5 1 30 30000 60 600 20000 10 (pos 5) (pos 0)

-- relative and absolute cards of one day
abbrev pub surveyed : List Card
surveyed = ramp ∷ falling_ramp ∷ halfway ∷ ramp ∷ []

-- the most rows that a card can have: 300 m, and a row every metre
abbrev pub longest : Card
longest = card 2 2 400 300000 60 1200 1000 1

abbrev pub mixed : List Card
mixed = ramp ∷ close ∷ steep ∷ ramp ∷ ramp ∷ []

-- a table of 45 numbers, each of them 7
abbrev pub marks : List ℤ
marks = replicate 45 (pos 7)

-- THEOREM (proofs/DayReadings.antt)
pub record Readings : Type 0 where
  -- no cards at all: 0 and 0, and nothing is touched
  pub none : (room : ℕ) → day_reply 0 room ≡ reply 0 0
  pub none_table : (table : List ℤ) (replies : List ℕ) → day_table [] table replies ≡ table
  pub none_replies : (table : List ℤ) (replies : List ℕ) → day_replies [] table replies ≡ replies
  -- 64 cards want 128 numbers for their replies; 65 are too many, whatever the reply list
  pub most : day_reply 64 128 ≡ reply 0 64
  pub most_short : day_reply 64 127 ≡ reply 30 0
  pub too_many : (room : ℕ) → day_reply 65 room ≡ reply 29 0
  -- two RAMPs and a card that is refused: each RAMP has its three rows, and the card after them nothing; the call counts three cards, of
  -- which two are accepted
  pub refused_last : replies_of (ramp ∷ ramp ∷ steep ∷ []) 45 ≡ 0 ∷ 3 ∷ 0 ∷ 3 ∷ 5 ∷ 0 ∷ []
  pub refused_counted : day_reply (length (ramp ∷ ramp ∷ steep ∷ [])) 6 ≡ reply 0 3
  pub refused_accepted : accepted_in (replies_of (ramp ∷ ramp ∷ steep ∷ []) 45) 3 ≡ 2
  -- after RAMP a table of 45 numbers has 24 left: four rows want 28, and three still fit; a refused card uses nothing, and the last card's
  -- three rows are too many for what is left; two numbers of the reply list are kept
  pub shorter_fits : day_replies mixed marks (replicate 12 9) ≡ 0 ∷ 3 ∷ 11 ∷ 0 ∷ 5 ∷ 0 ∷ 0 ∷ 3 ∷ 11 ∷ 0 ∷ 9 ∷ 9 ∷ []
  pub shorter_fits_rows : day_table mixed marks (replicate 12 9) ≡ rows ramp ++ (rows ramp ++ replicate 3 (pos 7))
  -- a reply list one number short
  pub short_replies : day_replies mixed marks (replicate 9 9) ≡ replicate 9 9
  pub short_table : day_table mixed marks (replicate 9 9) ≡ marks
  -- relative and absolute cards of one day: each has its own rows, and the one that 34 refuses none
  pub surveyed_replies : day_replies surveyed (replicate 63 (pos 7)) (replicate 8 9) ≡ 0 ∷ 3 ∷ 0 ∷ 3 ∷ 34 ∷ 0 ∷ 0 ∷ 3 ∷ []
  pub surveyed_rows : day_table surveyed (replicate 63 (pos 7)) (replicate 8 9) ≡ rows ramp ++ (rows falling_ramp ++ (rows ramp ++ []))
  -- 301 rows want 2107 numbers, and every day has enough with 134848
  pub longest_fits : replies_of (longest ∷ []) (enough_for 1) ≡ 0 ∷ 301 ∷ []
  pub longest_short : replies_of (longest ∷ []) 2106 ≡ 11 ∷ 0 ∷ []
  pub enough : (enough_for 1 ≡ 2107) × (enough_for most_cards ≡ 134848)
