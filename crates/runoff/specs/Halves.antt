-- Document 02, Slip 6, "Halfway goes up in millimetres": rows whose rounded numbers stand halfway, all six but in one. The figures
-- are worked out by hand.
-- Assumes nothing.
use Rattle.std.specs.Prelude.{◌≡◌, [], ◌∷◌, ℤ, pos, neg_ℤ}
use Rattle.card.specs.declared.Card.{Card}
use Rattle.card.specs.Card.{card, absolute_card}
use Rattle.runoff.specs.Rows.{cells, row_of}
use Rattle.runoff.specs.Refusal.{refusal}

-- profile 5 in millimetres: past the joint, at 45000, the outer slope is 32 at 52000; the axis is at 172.5, the widening 812.5
abbrev pub relative_millimetres : Card
relative_millimetres = card 5 1 100 80000 40 1250 4000 1

-- profile 1 in centimetres: past the joint, at 50000, the outer slope is 48 at 225000; the axis is at 22.5, the widening 187.5
abbrev pub relative_centimetres : Card
relative_centimetres = card 1 1 1000 300000 60 2500 15000 10

-- profile 1 in centimetres, even: the outer lane is level at 15000, where the widening is 25
abbrev pub level_centimetres : Card
level_centimetres = card 1 1 125 60000 60 1000 15000 10

-- the card of `relative_centimetres` with a height and a grade
abbrev pub absolute_centimetres : ℤ → ℤ → Card
absolute_centimetres height grade = absolute_card 1 1 1000 300000 60 2500 15000 10 height grade

-- profile 2 in millimetres, even: the outer slope is 48 at 59500, and a grade of 1 climbs 59.5 by there
abbrev pub absolute_millimetres : ℤ → ℤ → Card
absolute_millimetres height grade = absolute_card 2 1 200 70000 60 1250 3500 1 height grade

-- THEOREM (proofs/HalvesComputed.antt)
pub record Halves : Type 0 where
  -- the cards are accepted
  pub millimetres_accepted : refusal relative_millimetres ≡ 0
  pub centimetres_accepted : refusal relative_centimetres ≡ 0
  pub level_accepted : refusal level_centimetres ≡ 0
  pub above_accepted : refusal (absolute_millimetres (pos 9000000) (pos 1)) ≡ 0
  pub below_accepted : refusal (absolute_millimetres (neg_ℤ (pos 100000)) (neg_ℤ (pos 1))) ≡ 0
  pub above_cm_accepted : refusal (absolute_centimetres (pos 9000000) (pos 1)) ≡ 0
  pub below_cm_accepted : refusal (absolute_centimetres (neg_ℤ (pos 100000)) (neg_ℤ (pos 1))) ≡ 0
  -- in millimetres to the higher: 812.5, 14.5, 74.5, 172.5, 244.5, 300.5
  pub millimetres :
      cells (row_of relative_millimetres 52000)
      ≡ pos 52000 ∷ pos 813 ∷ pos 15 ∷ pos 75 ∷ pos 173 ∷ pos 245 ∷ pos 301 ∷ []
  -- in centimetres to the lower: 187.5, −13.5, −4.5, 22.5, 40.5, 58.5
  pub centimetres :
      cells (row_of relative_centimetres 225000)
      ≡ pos 225000 ∷ pos 187 ∷ neg_ℤ (pos 14) ∷ neg_ℤ (pos 5) ∷ pos 22 ∷ pos 40 ∷ pos 58 ∷ []
  -- the inner lines above nought, and the axis with the level outer lane: 0.5, 14.5, 22.5
  pub centimetres_level :
      cells (row_of level_centimetres 15000)
      ≡ pos 15000 ∷ pos 25 ∷ pos 0 ∷ pos 14 ∷ pos 22 ∷ pos 22 ∷ pos 22 ∷ []
  -- above the benchmark, in millimetres: 1062.5, and the axis 59.5 above 9,000,000
  pub millimetres_above :
      cells (row_of (absolute_millimetres (pos 9000000) (pos 1)) 59500)
      ≡ pos 59500 ∷ pos 1063 ∷ pos 8999769 ∷ pos 8999841 ∷ pos 9000060 ∷ pos 9000228 ∷ pos 9000348 ∷ []
  -- below it: the axis 59.5 below −100,000
  pub millimetres_below :
      cells (row_of (absolute_millimetres (neg_ℤ (pos 100000)) (neg_ℤ (pos 1))) 59500)
      ≡ pos 59500 ∷ pos 1063 ∷ neg_ℤ (pos 100350) ∷ neg_ℤ (pos 100278) ∷ neg_ℤ (pos 100059) ∷ neg_ℤ (pos 99891) ∷ neg_ℤ (pos 99771) ∷ []
  -- in centimetres: the axis 22.5 above 900,000 and 22.5 below −10,000
  pub centimetres_above :
      cells (row_of (absolute_centimetres (pos 9000000) (pos 1)) 225000)
      ≡ pos 225000 ∷ pos 187 ∷ pos 899986 ∷ pos 899995 ∷ pos 900022 ∷ pos 900040 ∷ pos 900058 ∷ []
  pub centimetres_below :
      cells (row_of (absolute_centimetres (neg_ℤ (pos 100000)) (neg_ℤ (pos 1))) 225000)
      ≡ pos 225000 ∷ pos 187 ∷ neg_ℤ (pos 10059) ∷ neg_ℤ (pos 10050) ∷ neg_ℤ (pos 10023) ∷ neg_ℤ (pos 10005) ∷ neg_ℤ (pos 9987) ∷ []
