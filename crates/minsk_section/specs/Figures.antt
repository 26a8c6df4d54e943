-- Lines at some stations, exact, in micrometres: worked out from document 02's words outside this code, not from the definitions.
-- Assumes nothing.
use Rattle.std.specs.Prelude.{◌≡◌, true, List, [], ◌∷◌}
use Rattle.exact.specs.Exact.{Exact, frac, whole, minus, ratio, ◌⊕◌, ◌≈◌, same}
use Rattle.card.specs.declared.Card.{Card}
use Rattle.card.specs.Card.{card}
use Rattle.minsk_section.specs.Lines.{Section, section_of, first_length, stage_start, outer_slope, widening, inner_shoulder, axis, outer_edge, outer_strip, outer_brow, inner_edge, inner_strip, inner_brow, Premises}

-- at a station: outer slope in ‰, widening and inner shoulder in mm; axis, outer edge, outer strip edge, outer brow, inner edge, inner strip edge and
-- inner brow in micrometres
abbrev pub lines_at : Section → Exact → List Exact
lines_at x s =
    outer_slope x s ∷ widening x s ∷ inner_shoulder x s ∷
    axis ∷ outer_edge x s ∷ outer_strip x s ∷ outer_brow x s ∷ inner_edge x s ∷ inner_strip x s ∷ inner_brow x s ∷ []

abbrev pub Are : Card → Exact → List Exact → Type 0
Are card s figures = same (lines_at (section_of card) s) figures ≡ true

-- category II, R 400, L 200000, v 60, W 1500
abbrev pub second : Card
second = card 1 2 400 200000 60 1500 20000 10

-- III, R 250, L 240000, v 40, W 2000
abbrev pub third : Card
third = card 2 1 250 240000 40 2000 20000 10

-- IV, R 320, L 150000, v 60, W 3500
abbrev pub fourth : Card
fourth = card 3 2 320 150000 60 3500 10000 1

-- III, R 499, L 150001, v 45, no widening
abbrev pub unwidened : Card
unwidened = card 2 2 499 150001 45 0 5000 1

-- II, R 600, L 140000, v 50, no widening
abbrev pub example : Card
example = card 1 1 600 140000 50 0 10000 10

-- THEOREM (proofs/FirstStage.antt): so it is of every section with the half carriageway of II, 3500
pub record FirstStageFigures : Type 0 where
  -- "For II the first stage is 28 m long; .."
  pub length : (x : Section) → x.h ≡ 3500 → first_length x ≈ whole 28000
  -- ".. 3.5 m into it the outer edge is −0.0525 m."
  pub into_it : (x : Section) → Premises x → x.h ≡ 3500 → outer_edge x (stage_start x ⊕ whole 3500) ≈ minus 52500

-- THEOREM (proofs/ComputedFigures.antt)
pub record Figures : Type 0 where
  -- II, whose first stage lies from 12 m to 40 m, and whose widening of 1500, all that the shoulder gives, grows from 140 m to 160 m; from
  -- 120 m on the shoulder is turned with the lane
  pub second_crowned :
      Are second (whole 0)
      (minus 20 ∷ whole 0 ∷ whole 3000 ∷ whole 0 ∷ minus 70000 ∷ minus 85000 ∷ minus 130000 ∷ minus 70000 ∷ minus 85000 ∷ minus 175000 ∷ [])
  pub second_first :
      Are second (whole 17250)
      (ratio 0 25 2 ∷ whole 0 ∷ whole 3000 ∷ whole 0 ∷ minus 43750 ∷ minus 53125 ∷ minus 81250 ∷ minus 70000 ∷ minus 85000 ∷ minus 175000 ∷ [])
  pub second_joint :
      Are second (whole 40000)
      (whole 20 ∷ whole 0 ∷ whole 3000 ∷ whole 0 ∷ whole 70000 ∷ whole 85000 ∷ whole 130000 ∷ minus 70000 ∷ minus 85000 ∷ minus 175000 ∷ [])
  pub second_between :
      Are second (whole 90000)
      (frac 65 2 ∷ whole 0 ∷ whole 3000 ∷ whole 0 ∷ whole 113750 ∷ whole 138125 ∷ whole 211250 ∷ minus 113750 ∷ minus 138125 ∷ minus 228125 ∷ [])
  pub second_forty :
      Are second (whole 120000)
      (whole 40 ∷ whole 0 ∷ whole 3000 ∷ whole 0 ∷ whole 140000 ∷ whole 170000 ∷ whole 260000 ∷ minus 140000 ∷ minus 170000 ∷ minus 260000 ∷ [])
  pub second_widening :
      Are second (whole 150000)
      (frac 95 2 ∷ whole 750 ∷ whole 2250 ∷ whole 0 ∷ whole 166250 ∷ whole 201875 ∷ whole 308750 ∷ minus 201875 ∷ minus 237500 ∷ minus 308750 ∷ [])
  pub second_past :
      Are second (whole 180000)
      (whole 55 ∷ whole 1500 ∷ whole 1500 ∷ whole 0 ∷ whole 192500 ∷ whole 233750 ∷ whole 357500 ∷ minus 275000 ∷ minus 316250 ∷ minus 357500 ∷ [])
  pub second_end :
      Are second (whole 200000)
      (whole 60 ∷ whole 1500 ∷ whole 1500 ∷ whole 0 ∷ whole 210000 ∷ whole 255000 ∷ whole 390000 ∷ minus 300000 ∷ minus 345000 ∷ minus 390000 ∷ [])
  -- the same bend with W 2000: past 160 m the shoulder is the least, 1500
  pub second_least :
      Are (card 1 2 400 200000 60 2000 20000 10) (whole 180000)
      (whole 55 ∷ whole 2000 ∷ whole 1500 ∷ whole 0 ∷ whole 192500 ∷ whole 233750 ∷ whole 357500 ∷ minus 302500 ∷ minus 343750 ∷ minus 385000 ∷ [])
  -- III, from 2 m to 30 m and from 100 m to 120 m: half of W, 2000, is all that the shoulder gives; at L the lane comes to the shoulder's 40‰
  pub third_crowned :
      Are third (whole 0)
      (minus 20 ∷ whole 0 ∷ whole 2500 ∷ whole 0 ∷ minus 70000 ∷ minus 80000 ∷ minus 120000 ∷ minus 70000 ∷ minus 80000 ∷ minus 160000 ∷ [])
  pub third_first :
      Are third (whole 8250)
      (ratio 0 155 14 ∷ whole 0 ∷ whole 2500 ∷ whole 0 ∷ minus 38750 ∷ ratio 0 310000 7 ∷ ratio 0 465000 7 ∷ minus 70000 ∷ minus 80000 ∷ minus 160000 ∷ [])
  pub third_between :
      Are third (whole 65000)
      (frac 70 3 ∷ whole 0 ∷ whole 2500 ∷ whole 0 ∷ frac 245000 3 ∷ frac 280000 3 ∷ whole 140000 ∷ ratio 0 245000 3 ∷ ratio 0 280000 3 ∷ ratio 0 520000 3 ∷ [])
  pub third_narrowing :
      Are third (whole 105000)
      (frac 190 7 ∷ whole 500 ∷ whole 2000 ∷ whole 0 ∷ whole 95000 ∷ frac 760000 7 ∷ frac 1140000 7 ∷ ratio 0 760000 7 ∷ ratio 0 855000 7 ∷ ratio 0 1275000 7 ∷ [])
  pub third_widening :
      Are third (whole 110000)
      (frac 580 21 ∷ whole 1000 ∷ whole 1500 ∷ whole 0 ∷ frac 290000 3 ∷ frac 2320000 21 ∷ frac 1160000 7 ∷ ratio 0 870000 7 ∷ ratio 0 2900000 21 ∷ ratio 0 3740000 21 ∷ [])
  pub third_past :
      Are third (whole 180000)
      (frac 240 7 ∷ whole 2000 ∷ whole 1500 ∷ whole 0 ∷ whole 120000 ∷ frac 960000 7 ∷ frac 1440000 7 ∷ ratio 0 1320000 7 ∷ ratio 0 1440000 7 ∷ ratio 0 1720000 7 ∷ [])
  pub third_end :
      Are third (whole 240000)
      (whole 40 ∷ whole 2000 ∷ whole 1500 ∷ whole 0 ∷ whole 140000 ∷ whole 160000 ∷ whole 240000 ∷ minus 220000 ∷ minus 240000 ∷ minus 280000 ∷ [])
  -- IV, from 0 to 24 m and from 76 m to 96 m: the widening comes to more than the whole shoulder of 2000
  pub fourth_crowned :
      Are fourth (whole 0)
      (minus 20 ∷ whole 0 ∷ whole 2000 ∷ whole 0 ∷ minus 60000 ∷ minus 70000 ∷ minus 100000 ∷ minus 60000 ∷ minus 70000 ∷ minus 130000 ∷ [])
  pub fourth_first :
      Are fourth (whole 5500)
      (ratio 0 65 6 ∷ whole 0 ∷ whole 2000 ∷ whole 0 ∷ minus 32500 ∷ ratio 0 113750 3 ∷ ratio 0 162500 3 ∷ minus 60000 ∷ minus 70000 ∷ minus 130000 ∷ [])
  pub fourth_between :
      Are fourth (whole 50000)
      (frac 1780 63 ∷ whole 0 ∷ whole 2000 ∷ whole 0 ∷ frac 1780000 21 ∷ frac 890000 9 ∷ frac 8900000 63 ∷ ratio 0 1780000 21 ∷ ratio 0 890000 9 ∷ ratio 0 1430000 9 ∷ [])
  pub fourth_widening :
      Are fourth (whole 86000)
      (frac 2500 63 ∷ whole 1750 ∷ whole 1000 ∷ whole 0 ∷ frac 2500000 21 ∷ frac 1250000 9 ∷ frac 12500000 63 ∷ ratio 0 11875000 63 ∷ ratio 0 625000 3 ∷ ratio 0 685000 3 ∷ [])
  pub fourth_past :
      Are fourth (whole 123000)
      (frac 360 7 ∷ whole 3500 ∷ whole 1000 ∷ whole 0 ∷ frac 1080000 7 ∷ whole 180000 ∷ frac 1800000 7 ∷ ratio 0 2340000 7 ∷ minus 360000 ∷ ratio 0 2700000 7 ∷ [])
  pub fourth_end :
      Are fourth (whole 150000)
      (whole 60 ∷ whole 3500 ∷ whole 1000 ∷ whole 0 ∷ whole 180000 ∷ whole 210000 ∷ whole 300000 ∷ minus 390000 ∷ minus 420000 ∷ minus 450000 ∷ [])
  -- III without widening, whose L × R / 500 and L × R / 2000 are no whole numbers of mm
  pub unwidened_start :
      Are unwidened (frac 18850499 2000)
      (minus 20 ∷ whole 0 ∷ whole 2500 ∷ whole 0 ∷ minus 70000 ∷ minus 80000 ∷ minus 120000 ∷ minus 70000 ∷ minus 80000 ∷ minus 160000 ∷ [])
  pub unwidened_first :
      Are unwidened (frac 50000 3)
      (ratio 0 5793071 600000 ∷ whole 0 ∷ whole 2500 ∷ whole 0 ∷ ratio 0 40551497 1200 ∷ ratio 0 5793071 150 ∷ ratio 0 5793071 100 ∷ minus 70000 ∷ minus 80000 ∷ minus 160000 ∷ [])
  pub unwidened_between :
      Are unwidened (frac 100001 2)
      (frac 5131792545 225151501 ∷ whole 0 ∷ whole 2500 ∷ whole 0 ∷ frac 17961273907500 225151501 ∷ frac 20527170180000 225151501 ∷ frac 30790755270000 225151501 ∷ ratio 0 17961273907500 225151501 ∷ ratio 0 20527170180000 225151501 ∷ ratio 0 38539290260000 225151501 ∷ [])
  pub unwidened_end :
      Are unwidened (whole 150001)
      (whole 45 ∷ whole 0 ∷ whole 2500 ∷ whole 0 ∷ whole 157500 ∷ whole 180000 ∷ whole 270000 ∷ minus 157500 ∷ minus 180000 ∷ minus 270000 ∷ [])
  -- the handbook's own example 2.1, whose first stage lies from 14 m to 42 m: it has the outer edge at −0.07, −0.0425, 0.0075, 0.0575 and 0.07 m
  -- there, and the inner lines at −0.07, −0.085 and −0.18 m, to the centimetre, all along
  pub example_start :
      Are example (whole 14000)
      (minus 20 ∷ whole 0 ∷ whole 3000 ∷ whole 0 ∷ minus 70000 ∷ minus 85000 ∷ minus 130000 ∷ minus 70000 ∷ minus 85000 ∷ minus 175000 ∷ [])
  pub example_rising :
      Are example (whole 19500)
      (ratio 0 85 7 ∷ whole 0 ∷ whole 3000 ∷ whole 0 ∷ minus 42500 ∷ ratio 0 361250 7 ∷ ratio 0 552500 7 ∷ minus 70000 ∷ minus 85000 ∷ minus 175000 ∷ [])
  pub example_over :
      Are example (whole 29500)
      (frac 15 7 ∷ whole 0 ∷ whole 3000 ∷ whole 0 ∷ whole 7500 ∷ frac 63750 7 ∷ frac 97500 7 ∷ minus 70000 ∷ minus 85000 ∷ minus 175000 ∷ [])
  pub example_steeper :
      Are example (whole 39500)
      (frac 115 7 ∷ whole 0 ∷ whole 3000 ∷ whole 0 ∷ whole 57500 ∷ frac 488750 7 ∷ frac 747500 7 ∷ minus 70000 ∷ minus 85000 ∷ minus 175000 ∷ [])
  pub example_joint :
      Are example (whole 42000)
      (whole 20 ∷ whole 0 ∷ whole 3000 ∷ whole 0 ∷ whole 70000 ∷ whole 85000 ∷ whole 130000 ∷ minus 70000 ∷ minus 85000 ∷ minus 175000 ∷ [])
  -- the handbook's example 2.2, IV, R 400, L 140000, v 40, W 500: its first stage lies from 4 m to 28 m, its widening grows from 92 m to 112 m
  pub fourth_example_crowned :
      Are (card 3 1 400 140000 40 500 20000 10) (whole 4000)
      (minus 20 ∷ whole 0 ∷ whole 2000 ∷ whole 0 ∷ minus 60000 ∷ minus 70000 ∷ minus 100000 ∷ minus 60000 ∷ minus 70000 ∷ minus 130000 ∷ [])
  pub fourth_example_rising :
      Are (card 3 1 400 140000 40 500 20000 10) (whole 9500)
      (ratio 0 65 6 ∷ whole 0 ∷ whole 2000 ∷ whole 0 ∷ minus 32500 ∷ ratio 0 113750 3 ∷ ratio 0 162500 3 ∷ minus 60000 ∷ minus 70000 ∷ minus 130000 ∷ [])
  pub fourth_example_widening :
      Are (card 3 1 400 140000 40 500 20000 10) (whole 100000)
      (frac 230 7 ∷ whole 200 ∷ whole 1800 ∷ whole 0 ∷ frac 690000 7 ∷ whole 115000 ∷ frac 1150000 7 ∷ ratio 0 736000 7 ∷ ratio 0 851000 7 ∷ ratio 0 1215000 7 ∷ [])
