-- Rows of the handbook's method. Their figures come from the words of document 02, Slips 5, 6 and 7, worked out in exact fractions, not from the
-- definitions.
-- Assumes nothing.
use Rattle.std.specs.Prelude.{◌≡◌, List, [], ◌∷◌, ℕ, ℤ, pos, neg_ℤ}
use Rattle.card.specs.declared.Card.{Card}
use Rattle.card.specs.Card.{card, absolute_card}
use Rattle.minsk.specs.Rows.{cells, row_of, rows}
use Rattle.minsk.specs.Refusal.{refusal}

-- the nine numbers of a card's row at the station d
abbrev pub row_at : Card → ℕ → List ℤ
row_at card d = cells (row_of card d)

-- II, R 500, L 150000, v 40, W 700, in millimetres: the first stage from 9500 to 37500, the widening from 130000 to 150000
abbrev pub second : Card
second = card 1 1 500 150000 40 700 20000 1

-- III, R 300, L 200000, v 60, W 3500, in millimetres: from 2000 to 30000, and from 100000 to 120000; the shoulder is narrowed to its least
abbrev pub third : Card
third = card 2 1 300 200000 60 3500 20000 1

-- IV, R 400, L 120000, v 45, W 1000, in centimetres: from 0 to 24000, and from 76000 to 96000
abbrev pub fourth : Card
fourth = card 3 1 400 120000 45 1000 20000 10

-- II, R 1700, L 300000, v 60, and III, R 1100, L 120000, v 30, without a widening
abbrev pub plain : Card
plain = card 1 1 1700 300000 60 0 20000 1

abbrev pub mild : Card
mild = card 2 1 1100 120000 30 0 20000 10

-- THEOREM (proofs/ReadingsComputed.antt)
pub record Readings : Type 0 where
  pub accepted : refusal second ∷ refusal third ∷ refusal fourth ∷ refusal plain ∷ refusal mild ∷ [] ≡ 0 ∷ 0 ∷ 0 ∷ 0 ∷ 0 ∷ []
  -- crowned; 3.5 m into the first stage the outer edge is −52.5 mm; half the widening; the end
  pub second_crowned : row_at second 0
      ≡ pos 0 ∷ pos 0 ∷ pos 0 ∷ neg_ℤ (pos 70) ∷ neg_ℤ (pos 85) ∷ neg_ℤ (pos 130) ∷ neg_ℤ (pos 70) ∷ neg_ℤ (pos 85) ∷ neg_ℤ (pos 175) ∷ []
  pub second_climbing : row_at second 13000
      ≡ pos 13000 ∷ pos 0 ∷ pos 0 ∷ neg_ℤ (pos 52) ∷ neg_ℤ (pos 64) ∷ neg_ℤ (pos 97) ∷ neg_ℤ (pos 70) ∷ neg_ℤ (pos 85) ∷ neg_ℤ (pos 175) ∷ []
  pub second_growing : row_at second 140000
      ≡ pos 140000 ∷ pos 350 ∷ pos 0 ∷ pos 134 ∷ pos 162 ∷ pos 248 ∷ neg_ℤ (pos 147) ∷ neg_ℤ (pos 176) ∷ neg_ℤ (pos 252) ∷ []
  pub second_end : row_at second 150000
      ≡ pos 150000 ∷ pos 700 ∷ pos 0 ∷ pos 140 ∷ pos 170 ∷ pos 260 ∷ neg_ℤ (pos 168) ∷ neg_ℤ (pos 198) ∷ neg_ℤ (pos 260) ∷ []
  -- the first stage; half the widening; all of it; the end
  pub third_climbing : row_at third 13000
      ≡ pos 13000 ∷ pos 0 ∷ pos 0 ∷ neg_ℤ (pos 15) ∷ neg_ℤ (pos 17) ∷ neg_ℤ (pos 26) ∷ neg_ℤ (pos 70) ∷ neg_ℤ (pos 80) ∷ neg_ℤ (pos 160) ∷ []
  pub third_growing : row_at third 110000
      ≡ pos 110000 ∷ pos 1750 ∷ pos 0 ∷ pos 136 ∷ pos 155 ∷ pos 233 ∷ neg_ℤ (pos 204) ∷ neg_ℤ (pos 223) ∷ neg_ℤ (pos 263) ∷ []
  pub third_narrowed : row_at third 140000
      ≡ pos 140000 ∷ pos 3500 ∷ pos 0 ∷ pos 161 ∷ pos 184 ∷ pos 275 ∷ neg_ℤ (pos 321) ∷ neg_ℤ (pos 344) ∷ neg_ℤ (pos 390) ∷ []
  pub third_end : row_at third 200000
      ≡ pos 200000 ∷ pos 3500 ∷ pos 0 ∷ pos 210 ∷ pos 240 ∷ pos 360 ∷ neg_ℤ (pos 420) ∷ neg_ℤ (pos 450) ∷ neg_ℤ (pos 510) ∷ []
  -- the first stage; all of the widening, where what is left of the shoulder is its least; the end
  pub fourth_climbing : row_at fourth 13000
      ≡ pos 13000 ∷ pos 0 ∷ pos 0 ∷ pos 0 ∷ pos 1 ∷ pos 1 ∷ neg_ℤ (pos 6) ∷ neg_ℤ (pos 7) ∷ neg_ℤ (pos 13) ∷ []
  pub fourth_narrowed : row_at fourth 100000
      ≡ pos 100000 ∷ pos 100 ∷ pos 0 ∷ pos 12 ∷ pos 14 ∷ pos 20 ∷ neg_ℤ (pos 16) ∷ neg_ℤ (pos 18) ∷ neg_ℤ (pos 20) ∷ []
  pub fourth_end : row_at fourth 120000
      ≡ pos 120000 ∷ pos 100 ∷ pos 0 ∷ pos 13 ∷ pos 16 ∷ pos 22 ∷ neg_ℤ (pos 18) ∷ neg_ℤ (pos 20) ∷ neg_ℤ (pos 23) ∷ []
  -- 1 mm before the end of the first stage, the end, and 1 mm past the end of the first stage
  pub plain_joint : row_at plain 254999
      ≡ pos 254999 ∷ pos 0 ∷ pos 0 ∷ pos 70 ∷ pos 85 ∷ pos 130 ∷ neg_ℤ (pos 70) ∷ neg_ℤ (pos 85) ∷ neg_ℤ (pos 175) ∷ []
  pub plain_end : row_at plain 300000
      ≡ pos 300000 ∷ pos 0 ∷ pos 0 ∷ pos 210 ∷ pos 255 ∷ pos 390 ∷ neg_ℤ (pos 210) ∷ neg_ℤ (pos 255) ∷ neg_ℤ (pos 390) ∷ []
  pub mild_joint : row_at mild 66001
      ≡ pos 66001 ∷ pos 0 ∷ pos 0 ∷ pos 7 ∷ pos 8 ∷ pos 12 ∷ neg_ℤ (pos 7) ∷ neg_ℤ (pos 8) ∷ neg_ℤ (pos 16) ∷ []
  -- a whole table
  pub fourth_rows :
      rows fourth
      ≡ pos 0 ∷ pos 0 ∷ pos 0 ∷ neg_ℤ (pos 6) ∷ neg_ℤ (pos 7) ∷ neg_ℤ (pos 10) ∷ neg_ℤ (pos 6) ∷ neg_ℤ (pos 7) ∷ neg_ℤ (pos 13) ∷
      pos 20000 ∷ pos 0 ∷ pos 0 ∷ pos 4 ∷ pos 5 ∷ pos 7 ∷ neg_ℤ (pos 6) ∷ neg_ℤ (pos 7) ∷ neg_ℤ (pos 13) ∷
      pos 40000 ∷ pos 0 ∷ pos 0 ∷ pos 7 ∷ pos 8 ∷ pos 12 ∷ neg_ℤ (pos 7) ∷ neg_ℤ (pos 8) ∷ neg_ℤ (pos 14) ∷
      pos 60000 ∷ pos 0 ∷ pos 0 ∷ pos 9 ∷ pos 10 ∷ pos 15 ∷ neg_ℤ (pos 9) ∷ neg_ℤ (pos 10) ∷ neg_ℤ (pos 16) ∷
      pos 80000 ∷ pos 20 ∷ pos 0 ∷ pos 10 ∷ pos 12 ∷ pos 17 ∷ neg_ℤ (pos 11) ∷ neg_ℤ (pos 13) ∷ neg_ℤ (pos 18) ∷
      pos 100000 ∷ pos 100 ∷ pos 0 ∷ pos 12 ∷ pos 14 ∷ pos 20 ∷ neg_ℤ (pos 16) ∷ neg_ℤ (pos 18) ∷ neg_ℤ (pos 20) ∷
      pos 120000 ∷ pos 100 ∷ pos 0 ∷ pos 13 ∷ pos 16 ∷ pos 22 ∷ neg_ℤ (pos 18) ∷ neg_ℤ (pos 20) ∷ neg_ℤ (pos 23) ∷ []

-- ---- absolute cards: the sum with the axis is rounded once
-- the first three cards in this unit, with a height and a grade
abbrev pub second_on : ℕ → ℤ → ℤ → Card
second_on = absolute_card 1 1 500 150000 40 700 20000

abbrev pub third_on : ℕ → ℤ → ℤ → Card
third_on = absolute_card 2 1 300 200000 60 3500 20000

abbrev pub fourth_on : ℕ → ℤ → ℤ → Card
fourth_on = absolute_card 3 1 400 120000 45 1000 20000

-- THEOREM (proofs/ReadingsComputed.antt)
pub record AbsoluteReadings : Type 0 where
  -- above the benchmark, the road climbing; below it, the road falling
  pub climbs : row_at (second_on 1 (pos 123456) (pos 37)) 13000
      ≡ pos 13000 ∷ pos 0 ∷ pos 123937 ∷ pos 123885 ∷ pos 123873 ∷ pos 123840 ∷ pos 123867 ∷ pos 123852 ∷ pos 123762 ∷ []
  pub climbs_at_end : row_at (second_on 1 (pos 123456) (pos 37)) 150000
      ≡ pos 150000 ∷ pos 700 ∷ pos 129006 ∷ pos 129146 ∷ pos 129176 ∷ pos 129266 ∷ pos 128838 ∷ pos 128808 ∷ pos 128746 ∷ []
  pub falls : row_at (fourth_on 10 (neg_ℤ (pos 99990)) (neg_ℤ (pos 80))) 13000
      ≡ pos 13000 ∷ pos 0 ∷ neg_ℤ (pos 10103) ∷ neg_ℤ (pos 10103) ∷ neg_ℤ (pos 10102) ∷ neg_ℤ (pos 10102) ∷ neg_ℤ (pos 10109) ∷ neg_ℤ (pos 10110) ∷ neg_ℤ (pos 10116) ∷ []
  pub falls_at_end : row_at (fourth_on 10 (neg_ℤ (pos 99990)) (neg_ℤ (pos 80))) 120000
      ≡ pos 120000 ∷ pos 100 ∷ neg_ℤ (pos 10959) ∷ neg_ℤ (pos 10946) ∷ neg_ℤ (pos 10943) ∷ neg_ℤ (pos 10937) ∷ neg_ℤ (pos 10977) ∷ neg_ℤ (pos 10979) ∷ neg_ℤ (pos 10982) ∷ []
  -- the greatest height and grade, and the lowest
  pub greatest_height : row_at (third_on 1 (pos 9000000) (pos 80)) 200000
      ≡ pos 200000 ∷ pos 3500 ∷ pos 9016000 ∷ pos 9016210 ∷ pos 9016240 ∷ pos 9016360 ∷ pos 9015580 ∷ pos 9015550 ∷ pos 9015490 ∷ []
  pub lowest_height : row_at (third_on 10 (neg_ℤ (pos 100000)) (neg_ℤ (pos 80))) 200000
      ≡ pos 200000 ∷ pos 350 ∷ neg_ℤ (pos 11600) ∷ neg_ℤ (pos 11579) ∷ neg_ℤ (pos 11576) ∷ neg_ℤ (pos 11564) ∷ neg_ℤ (pos 11642) ∷ neg_ℤ (pos 11645) ∷ neg_ℤ (pos 11651) ∷ []
  -- height 0, grade 0: as where the card is relative
  pub at_nought : row_at (second_on 1 (pos 0) (pos 0)) 140000
      ≡ pos 140000 ∷ pos 350 ∷ pos 0 ∷ pos 134 ∷ pos 162 ∷ pos 248 ∷ neg_ℤ (pos 147) ∷ neg_ℤ (pos 176) ∷ neg_ℤ (pos 252) ∷ []
  pub level_road : row_at (fourth_on 10 (pos 250) (pos 0)) 100000
      ≡ pos 100000 ∷ pos 100 ∷ pos 25 ∷ pos 37 ∷ pos 39 ∷ pos 45 ∷ pos 9 ∷ pos 7 ∷ pos 5 ∷ []

-- ---- numbers that stand exactly halfway between two counts: in millimetres they go to the higher, in centimetres to the lower, also below nought
-- THEOREM (proofs/ReadingsComputed.antt)
pub record HalfwayReadings : Type 0 where
  -- halfway: outer edge, outer brow
  pub millimetres_below : row_at (card 1 1 500 150000 40 700 20000 1) 20000
      ≡ pos 20000 ∷ pos 0 ∷ pos 0 ∷ neg_ℤ (pos 17) ∷ neg_ℤ (pos 21) ∷ neg_ℤ (pos 32) ∷ neg_ℤ (pos 70) ∷ neg_ℤ (pos 85) ∷ neg_ℤ (pos 175) ∷ []
  -- halfway: outer edge, outer brow
  pub millimetres_above : row_at (card 1 1 500 150000 40 700 20000 1) 34000
      ≡ pos 34000 ∷ pos 0 ∷ pos 0 ∷ pos 53 ∷ pos 64 ∷ pos 98 ∷ neg_ℤ (pos 70) ∷ neg_ℤ (pos 85) ∷ neg_ℤ (pos 175) ∷ []
  -- halfway: outer edge, outer brow, inner strip, inner brow
  pub centimetres_below : row_at (card 1 1 500 150000 40 700 20000 10) 16500
      ≡ pos 16500 ∷ pos 0 ∷ pos 0 ∷ neg_ℤ (pos 4) ∷ neg_ℤ (pos 4) ∷ neg_ℤ (pos 7) ∷ neg_ℤ (pos 7) ∷ neg_ℤ (pos 9) ∷ neg_ℤ (pos 18) ∷ []
  -- halfway: outer edge, outer brow, inner strip, inner brow
  pub centimetres_above : row_at (card 1 1 500 150000 40 700 20000 10) 30500
      ≡ pos 30500 ∷ pos 0 ∷ pos 0 ∷ pos 3 ∷ pos 4 ∷ pos 6 ∷ neg_ℤ (pos 7) ∷ neg_ℤ (pos 9) ∷ neg_ℤ (pos 18) ∷ []
  -- halfway: widening, inner edge, inner strip, inner brow
  pub centimetres_widening : row_at (card 2 1 300 200000 60 3500 20000 10) 115000
      ≡ pos 115000 ∷ pos 262 ∷ pos 0 ∷ pos 14 ∷ pos 16 ∷ pos 24 ∷ neg_ℤ (pos 25) ∷ neg_ℤ (pos 27) ∷ neg_ℤ (pos 31) ∷ []
  -- halfway: widening, outer edge
  pub millimetres_widening : row_at (card 3 1 400 120000 45 1 20000 1) 86000
      ≡ pos 86000 ∷ pos 1 ∷ pos 0 ∷ pos 108 ∷ pos 127 ∷ pos 181 ∷ neg_ℤ (pos 108) ∷ neg_ℤ (pos 127) ∷ neg_ℤ (pos 187) ∷ []
  -- halfway: outer edge, outer brow, inner edge
  pub millimetres_both_sides : row_at (card 3 1 400 120000 45 1000 20000 1) 72000
      ≡ pos 72000 ∷ pos 0 ∷ pos 0 ∷ pos 98 ∷ pos 114 ∷ pos 163 ∷ neg_ℤ (pos 97) ∷ neg_ℤ (pos 114) ∷ neg_ℤ (pos 174) ∷ []
  -- halfway: outer edge, outer brow, inner brow
  pub centimetres_at_end : row_at (card 3 1 400 120000 45 1000 20000 10) 120000
      ≡ pos 120000 ∷ pos 100 ∷ pos 0 ∷ pos 13 ∷ pos 16 ∷ pos 22 ∷ neg_ℤ (pos 18) ∷ neg_ℤ (pos 20) ∷ neg_ℤ (pos 23) ∷ []
  -- halfway: axis, outer edge, outer strip, outer brow, inner edge, inner strip, inner brow
  pub axis_millimetres : row_at (absolute_card 1 1 500 150000 40 700 20000 1 (pos 0) (pos 1)) 500
      ≡ pos 500 ∷ pos 0 ∷ pos 1 ∷ neg_ℤ (pos 69) ∷ neg_ℤ (pos 84) ∷ neg_ℤ (pos 129) ∷ neg_ℤ (pos 69) ∷ neg_ℤ (pos 84) ∷ neg_ℤ (pos 174) ∷ []
  -- halfway: axis, outer edge, outer strip, outer brow, inner edge, inner strip, inner brow
  pub axis_millimetres_below : row_at (absolute_card 1 1 500 150000 40 700 20000 1 (neg_ℤ (pos 1000)) (neg_ℤ (pos 1))) 500
      ≡ pos 500 ∷ pos 0 ∷ neg_ℤ (pos 1000) ∷ neg_ℤ (pos 1070) ∷ neg_ℤ (pos 1085) ∷ neg_ℤ (pos 1130) ∷ neg_ℤ (pos 1070) ∷ neg_ℤ (pos 1085) ∷ neg_ℤ (pos 1175) ∷ []
  -- halfway: axis, outer edge, outer brow, inner edge
  pub axis_centimetres : row_at (absolute_card 1 1 500 150000 40 700 20000 10 (pos 0) (pos 1)) 5000
      ≡ pos 5000 ∷ pos 0 ∷ pos 0 ∷ neg_ℤ (pos 7) ∷ neg_ℤ (pos 8) ∷ neg_ℤ (pos 13) ∷ neg_ℤ (pos 7) ∷ neg_ℤ (pos 8) ∷ neg_ℤ (pos 17) ∷ []
  -- halfway: axis, outer edge, outer brow, inner edge
  pub axis_centimetres_below : row_at (absolute_card 1 1 500 150000 40 700 20000 10 (neg_ℤ (pos 1000)) (neg_ℤ (pos 1))) 5000
      ≡ pos 5000 ∷ pos 0 ∷ neg_ℤ (pos 101) ∷ neg_ℤ (pos 108) ∷ neg_ℤ (pos 109) ∷ neg_ℤ (pos 114) ∷ neg_ℤ (pos 108) ∷ neg_ℤ (pos 109) ∷ neg_ℤ (pos 118) ∷ []
