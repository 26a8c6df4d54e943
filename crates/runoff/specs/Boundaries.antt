-- The reasons at their edges: a card on either side of every bound, the extreme cards, and cards that meet two reasons at once;
-- and a table at its edges. The numbers come from document 01's tables, from document 02 and from 002, not from the definitions.
-- Assumes nothing.
use Rattle.std.specs.Prelude.{◌≡◌, List, [], ◌∷◌, ◌++◌, map, ℕ, zero, suc, ℤ, pos, neg_ℤ}
use Rattle.card.specs.declared.Card.{Card}
use Rattle.card.specs.Card.{card, absolute_card, ramp}
use Rattle.section.specs.Figures.{widened, widest}
use Rattle.runoff.specs.Rows.{cells, row_of, rows}
use Rattle.runoff.specs.Refusal.{refusal}
use Rattle.runoff.specs.Table.{reply_to, table_after}

-- a card and the number that it gives
pub record Edge : Type 0 where
  pub of : Card
  pub gives : ℕ

abbrev pub edge : Card → ℕ → Edge
edge x n = record { of = x; gives = n }

abbrev pub greatest : ℕ
greatest = 4294967295

-- the greatest and the least signed number
abbrev pub greatest_signed : ℕ
greatest_signed = 2147483647

abbrev pub least_signed : ℤ
least_signed = neg_ℤ (pos 2147483648)

-- the card of `edges` that passes, absolute, in centimetres and in millimetres, with a height and a grade
abbrev pub centimetres : ℤ → ℤ → Card
centimetres = absolute_card 3 1 700 120000 40 400 20000 10

abbrev pub millimetres : ℤ → ℤ → Card
millimetres = absolute_card 3 1 700 120000 40 400 20000 1

-- each edge, beside a card that passes: profile 3, level, R 700, L 120000, v 40, W 400, step 20000, unit 10
unfoldable pub edges : List Edge
edges =
    edge (card 3 1 700 120000 40 400 20000 10) 0 ∷
    -- every number 0, every number the greatest
    edge (card 0 0 0 0 0 0 0 0) 1 ∷
    edge (card greatest greatest greatest greatest greatest greatest greatest greatest) 1 ∷
    -- 1, profile: not 1 to 5
    edge (card 0 1 700 120000 40 400 20000 10) 1 ∷
    edge (card 1 1 700 120000 40 400 20000 10) 0 ∷
    edge (card 5 1 700 120000 40 400 20000 10) 0 ∷
    edge (card 6 1 700 120000 40 400 20000 10) 1 ∷
    edge (card greatest 1 700 120000 40 400 20000 10) 1 ∷
    -- 2, terrain: not 1 or 2
    edge (card 3 0 700 120000 40 400 20000 10) 2 ∷
    edge (card 3 2 700 120000 40 400 20000 10) 0 ∷
    edge (card 3 3 700 120000 40 400 20000 10) 2 ∷
    edge (card 3 greatest 700 120000 40 400 20000 10) 2 ∷
    -- 3, radius: below the profile's least, or above 2000
    edge (card 3 1 59 120000 40 400 20000 10) 3 ∷
    edge (card 3 1 60 120000 40 400 20000 10) 0 ∷
    edge (card 1 1 124 120000 40 400 20000 10) 3 ∷
    edge (card 1 1 125 120000 40 400 20000 10) 0 ∷
    edge (card 2 1 99 120000 40 400 20000 10) 3 ∷
    edge (card 2 1 100 120000 40 400 20000 10) 0 ∷
    edge (card 4 1 29 120000 40 400 20000 10) 3 ∷
    edge (card 4 1 30 120000 40 400 20000 10) 0 ∷
    edge (card 5 1 29 120000 40 400 20000 10) 3 ∷
    edge (card 5 1 30 120000 40 400 20000 10) 0 ∷
    edge (card 3 1 2000 120000 40 0 20000 10) 0 ∷
    edge (card 3 1 2001 120000 40 0 20000 10) 3 ∷
    edge (card 3 1 0 120000 40 400 20000 10) 3 ∷
    edge (card 3 1 greatest 120000 40 0 20000 10) 3 ∷
    -- 4, clothoid: shorter than least L, or above 300000
    edge (card 3 1 700 119999 40 400 20000 10) 4 ∷
    edge (card 3 1 700 300000 40 400 20000 10) 0 ∷
    edge (card 3 1 700 300001 40 400 20000 10) 4 ∷
    edge (card 3 1 700 0 40 400 20000 10) 4 ∷
    edge (card 3 1 700 greatest 40 400 20000 10) 4 ∷
    -- 5, full slope: v below p, or above 60
    edge (card 3 1 700 120000 19 400 20000 10) 5 ∷
    edge (card 3 1 700 120000 20 400 20000 10) 0 ∷
    edge (card 3 1 700 120000 60 400 20000 10) 0 ∷
    edge (card 3 1 700 120000 61 400 20000 10) 5 ∷
    edge (card 3 1 700 120000 greatest 400 20000 10) 5 ∷
    -- 6, widening: W above 3500, or above 0 with R above 1000
    edge (card 3 1 700 120000 40 3500 20000 10) 0 ∷
    edge (card 3 1 700 120000 40 3501 20000 10) 6 ∷
    edge (card 3 1 700 120000 40 greatest 20000 10) 6 ∷
    edge (card 3 1 1000 120000 40 1 20000 10) 0 ∷
    edge (card 3 1 1001 120000 40 1 20000 10) 6 ∷
    edge (card 3 1 1001 120000 40 0 20000 10) 0 ∷
    -- 7, narrow shoulder, is no longer given: c less W may be m, below m, or below nought
    edge (card 3 1 700 120000 40 1000 20000 10) 0 ∷
    edge (card 3 1 700 120000 40 1001 20000 10) 0 ∷
    edge (card 3 1 700 120000 40 2001 20000 10) 0 ∷
    edge (card 1 1 700 120000 40 2250 20000 10) 0 ∷
    edge (card 1 1 700 120000 40 2251 20000 10) 0 ∷
    edge (card 1 1 700 120000 40 3500 20000 10) 0 ∷
    edge (card 2 1 700 120000 40 3500 20000 10) 0 ∷
    edge (card 4 1 700 120000 40 1000 20000 10) 0 ∷
    edge (card 4 1 700 120000 40 1001 20000 10) 0 ∷
    edge (card 4 1 700 120000 40 3500 20000 10) 0 ∷
    edge (card 5 1 700 120000 40 750 20000 10) 0 ∷
    edge (card 5 1 700 120000 40 751 20000 10) 0 ∷
    edge (card 5 1 700 120000 40 3500 20000 10) 0 ∷
    -- 8, added slope: h × (p + v) above added slope × L
    edge (card 1 1 125 60000 60 0 20000 10) 0 ∷
    edge (card 1 1 125 59999 60 0 20000 10) 8 ∷
    edge (card 1 2 125 60000 60 0 20000 10) 0 ∷
    edge (card 1 2 125 59999 60 0 20000 10) 8 ∷
    -- 9, step: below 1000 or above 20000
    edge (card 3 1 700 120000 40 400 0 10) 9 ∷
    edge (card 3 1 700 120000 40 400 999 10) 9 ∷
    edge (card 3 1 700 120000 40 400 1000 10) 0 ∷
    edge (card 3 1 700 120000 40 400 20001 10) 9 ∷
    edge (card 3 1 700 120000 40 400 greatest 10) 9 ∷
    -- 10, unit: not 1 or 10
    edge (card 3 1 700 120000 40 400 20000 0) 10 ∷
    edge (card 3 1 700 120000 40 400 20000 1) 0 ∷
    edge (card 3 1 700 120000 40 400 20000 2) 10 ∷
    edge (card 3 1 700 120000 40 400 20000 9) 10 ∷
    edge (card 3 1 700 120000 40 400 20000 11) 10 ∷
    edge (card 3 1 700 120000 40 400 20000 greatest) 10 ∷
    -- 34, height: outside −100,000 to 9,000,000, or not a whole number of units
    edge (millimetres (pos 0) (pos 0)) 0 ∷
    edge (millimetres (neg_ℤ (pos 100000)) (pos 0)) 0 ∷
    edge (millimetres (neg_ℤ (pos 100001)) (pos 0)) 34 ∷
    edge (millimetres (pos 9000000) (pos 0)) 0 ∷
    edge (millimetres (pos 9000001) (pos 0)) 34 ∷
    edge (millimetres (pos 15) (pos 0)) 0 ∷
    edge (millimetres (neg_ℤ (pos 15)) (pos 0)) 0 ∷
    edge (centimetres (neg_ℤ (pos 100000)) (pos 0)) 0 ∷
    edge (centimetres (neg_ℤ (pos 100010)) (pos 0)) 34 ∷
    edge (centimetres (pos 9000000) (pos 0)) 0 ∷
    edge (centimetres (pos 9000010) (pos 0)) 34 ∷
    edge (centimetres (pos 20) (pos 0)) 0 ∷
    edge (centimetres (neg_ℤ (pos 20)) (pos 0)) 0 ∷
    edge (centimetres (pos 15) (pos 0)) 34 ∷
    edge (centimetres (neg_ℤ (pos 15)) (pos 0)) 34 ∷
    edge (centimetres (pos 1) (pos 0)) 34 ∷
    edge (centimetres (neg_ℤ (pos 1)) (pos 0)) 34 ∷
    edge (millimetres (pos greatest_signed) (pos 0)) 34 ∷
    edge (millimetres least_signed (pos 0)) 34 ∷
    -- 35, grade: outside −80 to 80
    edge (millimetres (pos 0) (pos 80)) 0 ∷
    edge (millimetres (pos 0) (pos 81)) 35 ∷
    edge (millimetres (pos 0) (neg_ℤ (pos 80))) 0 ∷
    edge (millimetres (pos 0) (neg_ℤ (pos 81))) 35 ∷
    edge (millimetres (pos 0) (pos greatest_signed)) 35 ∷
    edge (millimetres (pos 0) least_signed) 35 ∷
    -- cards of the starred readings
    edge ramp 0 ∷
    edge (card 2 1 300 93333 60 0 20000 1) 0 ∷
    edge (card 2 1 300 93334 60 0 20000 1) 0 ∷
    edge (card 1 1 2000 100000 20 0 20000 1) 0 ∷
    edge (card 1 1 125 55000 60 0 20000 1) 8 ∷
    edge (card 1 1 125 60000 60 0 20000 1) 0 ∷
    edge (card 4 2 100 50000 29 0 20000 1) 5 ∷
    edge (card 4 2 100 50000 30 0 20000 1) 0 ∷
    edge (card 4 2 100 50000 61 0 20000 1) 5 ∷
    edge (card 2 2 100 50000 40 1000 20000 1) 0 ∷
    edge (card 2 2 100 50000 40 1001 20000 1) 0 ∷
    edge (card 2 2 100 50000 40 3501 20000 1) 6 ∷
    -- rising order, first one met: two neighbours at once
    edge (card 0 0 700 120000 40 400 20000 10) 1 ∷
    edge (card 3 0 59 120000 40 400 20000 10) 2 ∷
    edge (card 3 1 59 0 40 400 20000 10) 3 ∷
    edge (card 3 1 700 0 0 400 20000 10) 4 ∷
    edge (card 3 1 700 120000 0 3501 20000 10) 5 ∷
    edge (card 1 1 125 59999 60 3501 20000 10) 6 ∷
    edge (card 1 1 125 59999 60 2251 20000 10) 8 ∷
    edge (card 1 1 125 59999 60 0 0 10) 8 ∷
    edge (card 3 1 700 120000 40 400 0 0) 9 ∷
    edge (absolute_card 1 1 125 59999 60 0 20000 10 (pos 5) (pos 81)) 8 ∷
    edge (absolute_card 3 1 700 120000 40 400 0 10 (pos 5) (pos 81)) 9 ∷
    edge (absolute_card 3 1 700 120000 40 400 20000 0 (pos 5) (pos 81)) 10 ∷
    edge (absolute_card 3 1 700 120000 40 400 20000 2 (pos 9000001) (pos 0)) 10 ∷
    edge (centimetres (pos 5) (pos 81)) 34 ∷
    edge (millimetres (pos 9000001) (neg_ℤ (pos 81))) 34 ∷ []

-- a lent table of n numbers, each 9
abbrev pub nines : ℕ → List ℤ
nines zero = []
nines (suc n) = pos 9 ∷ nines n

-- THEOREM (proofs/StarredReadings.antt)
pub record Boundaries : Type 0 where
  -- each card of the list gives its number
  pub own : map (λ (e : Edge). refusal e.of) edges ≡ map (λ (e : Edge). e.gives) edges
  -- 11, short table: 7 rows need 49 numbers; a card's own reason comes before
  pub table_48 : reply_to (card 3 1 400 110000 40 400 20000 10) 48 ≡ record { number = 11; count = 0 }
  pub table_49 : reply_to (card 3 1 400 110000 40 400 20000 10) 49 ≡ record { number = 0; count = 7 }
  pub table_none : reply_to (card 3 1 400 110000 40 400 0 10) 0 ≡ record { number = 9; count = 0 }
  -- the numbers after the last row stay, and a table that is too short stays whole
  pub kept_after : table_after ramp (nines 23) ≡ rows ramp ++ nines 2
  pub kept_short : table_after ramp (nines 20) ≡ nines 20
  -- no second row at L when the step divides L
  pub six_rows : reply_to (card 3 1 400 100000 40 400 20000 10) 49 ≡ record { number = 0; count = 6 }
  -- the full slope above q: 002, sheet 50, III, R 200, L 70, W 0.80
  pub steep_row :
      cells (row_of (card 2 1 200 70000 60 800 20000 10) 70000)
      ≡ pos 70000 ∷ pos 80 ∷ neg_ℤ (pos 19) ∷ neg_ℤ (pos 9) ∷ pos 17 ∷ pos 38 ∷ pos 53 ∷ []
  -- cards that gave 7: category III with 1.2 m of widening, where the shoulder is c less the widening, and where it is m
  pub left_row :
      cells (row_of widened 30000)
      ≡ pos 30000 ∷ pos 600 ∷ pos 12 ∷ pos 88 ∷ pos 170 ∷ pos 240 ∷ pos 290 ∷ []
  pub kept_row :
      cells (row_of widened 60000)
      ≡ pos 60000 ∷ pos 1200 ∷ neg_ℤ (pos 202) ∷ neg_ℤ (pos 112) ∷ pos 170 ∷ pos 380 ∷ pos 530 ∷ []
  -- and one whose widening is above its shoulder
  pub widest_left_row :
      cells (row_of widest 6000)
      ≡ pos 6000 ∷ pos 350 ∷ pos 11 ∷ pos 95 ∷ pos 173 ∷ pos 125 ∷ pos 89 ∷ []
  pub widest_kept_row :
      cells (row_of widest 60000)
      ≡ pos 60000 ∷ pos 3500 ∷ neg_ℤ (pos 232) ∷ neg_ℤ (pos 172) ∷ pos 173 ∷ pos 308 ∷ pos 413 ∷ []
