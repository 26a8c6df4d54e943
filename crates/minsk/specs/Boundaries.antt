-- The reasons at their edges: a card on either side of every bound, and cards that meet two reasons at once; and a table at its edges. The numbers
-- come from document 01's tables and the words of document 02, worked out in exact fractions, not from the definitions.
-- Assumes nothing.
use Rattle.std.specs.Prelude.{◌≡◌, List, [], ◌∷◌, ◌++◌, map, ℕ, zero, suc, ℤ, pos, neg_ℤ}
use Rattle.card.specs.declared.Card.{Card}
use Rattle.card.specs.Card.{card, absolute_card}
use Rattle.minsk.specs.Rows.{rows}
use Rattle.minsk.specs.Refusal.{refusal}
use Rattle.minsk.specs.Table.{reply_to, table_after}
use Rattle.minsk.specs.Readings.{fourth}

-- a card and the number that it gives
pub record Edge : Type 0 where
  pub of : Card
  pub gives : ℕ

abbrev pub edge : Card → ℕ → Edge
edge x n = record { of = x; gives = n }

abbrev pub greatest : ℕ
greatest = 4294967295

-- each edge, beside a card that passes: profile 3, level, R 450, L 130000, v 45, W 1000, step 20000, unit 10
unfoldable pub edges : List Edge
edges =
    edge (card 3 1 450 130000 45 1000 20000 10) 0 ∷
    -- every number 0, every number the greatest
    edge (card 0 0 0 0 0 0 0 0) 1 ∷
    edge (card greatest greatest greatest greatest greatest greatest greatest greatest) 1 ∷
    -- 1, profile: not 1 to 5
    edge (card 0 1 450 130000 45 1000 20000 10) 1 ∷
    edge (card 1 1 450 130000 45 1000 20000 10) 0 ∷
    edge (card 2 1 450 130000 45 1000 20000 10) 0 ∷
    edge (card 6 1 450 130000 45 1000 20000 10) 1 ∷
    edge (card greatest 1 450 130000 45 1000 20000 10) 1 ∷
    -- 2, terrain: not 1 or 2
    edge (card 3 0 450 130000 45 1000 20000 10) 2 ∷
    edge (card 3 2 450 130000 45 1000 20000 10) 0 ∷
    edge (card 3 3 450 130000 45 1000 20000 10) 2 ∷
    edge (card 3 greatest 450 130000 45 1000 20000 10) 2 ∷
    -- 3, radius: below the profile's least, or above 2000; at the least the first stage is too long
    edge (card 3 1 59 130000 45 1000 20000 10) 3 ∷
    edge (card 3 1 60 130000 45 1000 20000 10) 37 ∷
    edge (card 1 1 124 130000 45 1000 20000 10) 3 ∷
    edge (card 1 1 125 130000 45 1000 20000 10) 37 ∷
    edge (card 2 1 99 130000 45 1000 20000 10) 3 ∷
    edge (card 2 1 100 130000 45 1000 20000 10) 37 ∷
    edge (card 3 1 2001 130000 45 0 20000 10) 3 ∷
    edge (card 3 1 0 130000 45 1000 20000 10) 3 ∷
    edge (card 3 1 greatest 130000 45 0 20000 10) 3 ∷
    -- 4, clothoid: shorter than least L, or above 300000
    edge (card 3 1 450 109999 45 1000 20000 10) 4 ∷
    edge (card 3 1 450 110000 45 1000 20000 10) 0 ∷
    edge (card 3 1 450 300000 45 1000 20000 10) 0 ∷
    edge (card 3 1 450 300001 45 1000 20000 10) 4 ∷
    edge (card 3 1 450 0 45 1000 20000 10) 4 ∷
    edge (card 3 1 450 greatest 45 1000 20000 10) 4 ∷
    -- 5, full slope: v below p, or above 60; 36 at p itself
    edge (card 3 1 450 130000 19 1000 20000 10) 5 ∷
    edge (card 3 1 450 130000 20 1000 20000 10) 36 ∷
    edge (card 3 1 450 130000 21 1000 20000 10) 0 ∷
    edge (card 3 1 450 130000 60 1000 20000 10) 0 ∷
    edge (card 3 1 450 130000 61 1000 20000 10) 5 ∷
    edge (card 3 1 450 130000 greatest 1000 20000 10) 5 ∷
    edge (card 4 1 450 130000 25 1000 20000 10) 5 ∷
    edge (card 5 1 450 130000 29 1000 20000 10) 5 ∷
    -- 6, widening: W above 3500, or above 0 with R above 1000
    edge (card 3 1 450 130000 45 3500 20000 10) 0 ∷
    edge (card 3 1 450 130000 45 3501 20000 10) 6 ∷
    edge (card 3 1 450 130000 45 greatest 20000 10) 6 ∷
    edge (card 3 1 1001 130000 45 1 20000 10) 6 ∷
    edge (card 3 1 1001 130000 45 0 20000 10) 0 ∷
    -- 36, method: a full slope of 20, a radius of 2000, profile 4 or 5
    edge (card 4 1 450 130000 30 1000 20000 10) 36 ∷
    edge (card 4 1 450 130000 45 1000 20000 10) 36 ∷
    edge (card 4 1 450 130000 35 1000 20000 10) 36 ∷
    edge (card 5 1 450 130000 45 1000 20000 10) 36 ∷
    edge (card 5 1 450 130000 60 1000 20000 10) 36 ∷
    edge (card 3 1 450 130000 45 1000 20000 10) 0 ∷
    edge (card 1 1 450 130000 20 1000 20000 10) 36 ∷
    edge (card 1 1 450 130000 21 1000 20000 10) 0 ∷
    edge (card 2 1 450 130000 20 1000 20000 10) 36 ∷
    edge (card 2 1 450 130000 21 1000 20000 10) 0 ∷
    edge (card 3 2 2000 300000 21 0 20000 10) 36 ∷
    edge (card 3 2 1999 300000 21 0 20000 10) 0 ∷
    -- 37, first stage: longer than L × R / 2000; it is 28 m long for II and III and 24 m for IV
    edge (card 1 1 280 200000 40 700 20000 10) 0 ∷
    edge (card 1 1 280 199999 40 0 20000 10) 37 ∷
    edge (card 1 1 279 200000 40 0 20000 10) 37 ∷
    edge (card 2 1 280 200000 40 700 20000 10) 0 ∷
    edge (card 2 1 280 199999 40 0 20000 10) 37 ∷
    edge (card 3 1 400 120000 45 1000 20000 10) 0 ∷
    edge (card 3 1 400 119999 45 0 20000 10) 37 ∷
    edge (card 3 1 399 120000 45 0 20000 10) 37 ∷
    -- 38, place of the widening: W above 0 with R above 500, or with L × R / 500 no whole millimetre
    edge (card 3 1 500 130000 45 1000 20000 10) 0 ∷
    edge (card 3 1 500 130000 45 1 20000 10) 0 ∷
    edge (card 3 1 501 130000 45 1000 20000 10) 38 ∷
    edge (card 3 1 501 130000 45 1 20000 10) 38 ∷
    edge (card 3 1 501 130000 45 0 20000 10) 0 ∷
    edge (card 3 1 1000 130000 45 1 20000 10) 38 ∷
    edge (card 3 1 450 130001 45 1 20000 10) 38 ∷
    edge (card 3 1 450 130001 45 0 20000 10) 0 ∷
    edge (card 3 1 450 130010 45 1 20000 10) 0 ∷
    edge (card 3 1 449 130001 45 1 20000 10) 38 ∷
    edge (card 3 1 450 130005 45 1 20000 10) 38 ∷
    -- 8, added slope: h × (v − 20) above added slope × (L − L × R / 2000)
    edge (card 1 1 1600 140000 60 0 20000 10) 0 ∷
    edge (card 1 1 1600 139999 60 0 20000 10) 8 ∷
    edge (card 1 2 1600 139999 60 0 20000 10) 8 ∷
    edge (card 1 1 1601 140000 60 0 20000 10) 8 ∷
    edge (card 2 1 1800 140000 60 0 20000 10) 0 ∷
    edge (card 2 1 1800 139999 60 0 20000 10) 8 ∷
    edge (card 2 2 1800 139999 60 0 20000 10) 0 ∷
    edge (card 3 1 1900 240000 60 0 20000 10) 0 ∷
    edge (card 3 1 1900 239999 60 0 20000 10) 8 ∷
    edge (card 3 2 1900 239999 60 0 20000 10) 0 ∷
    edge (card 3 1 1999 300000 21 0 20000 10) 8 ∷
    -- 9, step: below 1000 or above 20000
    edge (card 3 1 450 130000 45 1000 0 10) 9 ∷
    edge (card 3 1 450 130000 45 1000 999 10) 9 ∷
    edge (card 3 1 450 130000 45 1000 1000 10) 0 ∷
    edge (card 3 1 450 130000 45 1000 20001 10) 9 ∷
    edge (card 3 1 450 130000 45 1000 greatest 10) 9 ∷
    -- 10, unit: not 1 or 10
    edge (card 3 1 450 130000 45 1000 20000 0) 10 ∷
    edge (card 3 1 450 130000 45 1000 20000 1) 0 ∷
    edge (card 3 1 450 130000 45 1000 20000 2) 10 ∷
    edge (card 3 1 450 130000 45 1000 20000 9) 10 ∷
    edge (card 3 1 450 130000 45 1000 20000 11) 10 ∷
    edge (card 3 1 450 130000 45 1000 20000 greatest) 10 ∷
    -- 34, height: outside −100,000 to 9,000,000, or not a whole number of units
    edge (absolute_card 3 1 450 130000 45 1000 20000 1 (pos 0) (pos 0)) 0 ∷
    edge (absolute_card 3 1 450 130000 45 1000 20000 1 (neg_ℤ (pos 100000)) (pos 0)) 0 ∷
    edge (absolute_card 3 1 450 130000 45 1000 20000 1 (neg_ℤ (pos 100001)) (pos 0)) 34 ∷
    edge (absolute_card 3 1 450 130000 45 1000 20000 1 (pos 9000000) (pos 0)) 0 ∷
    edge (absolute_card 3 1 450 130000 45 1000 20000 1 (pos 9000001) (pos 0)) 34 ∷
    edge (absolute_card 3 1 450 130000 45 1000 20000 1 (pos 15) (pos 0)) 0 ∷
    edge (absolute_card 3 1 450 130000 45 1000 20000 10 (pos 15) (pos 0)) 34 ∷
    edge (absolute_card 3 1 450 130000 45 1000 20000 10 (neg_ℤ (pos 15)) (pos 0)) 34 ∷
    edge (absolute_card 3 1 450 130000 45 1000 20000 10 (neg_ℤ (pos 20)) (pos 0)) 0 ∷
    edge (absolute_card 3 1 450 130000 45 1000 20000 1 (pos 2147483647) (pos 0)) 34 ∷
    edge (absolute_card 3 1 450 130000 45 1000 20000 1 (neg_ℤ (pos 2147483648)) (pos 0)) 34 ∷
    -- 35, grade: outside −80 to 80
    edge (absolute_card 3 1 450 130000 45 1000 20000 1 (pos 0) (pos 80)) 0 ∷
    edge (absolute_card 3 1 450 130000 45 1000 20000 1 (pos 0) (pos 81)) 35 ∷
    edge (absolute_card 3 1 450 130000 45 1000 20000 1 (pos 0) (neg_ℤ (pos 80))) 0 ∷
    edge (absolute_card 3 1 450 130000 45 1000 20000 1 (pos 0) (neg_ℤ (pos 81))) 35 ∷
    edge (absolute_card 3 1 450 130000 45 1000 20000 1 (pos 0) (pos 2147483647)) 35 ∷
    edge (absolute_card 3 1 450 130000 45 1000 20000 1 (pos 0) (neg_ℤ (pos 2147483648))) 35 ∷
    -- in the order of the list, first one met: neighbours at once, where a card can meet both
    edge (card 3 1 450 130000 61 3501 20000 10) 5 ∷
    edge (card 3 1 450 130000 20 3501 20000 10) 6 ∷
    edge (card 4 1 450 130000 45 3501 20000 10) 6 ∷
    edge (card 3 1 60 130000 20 1000 20000 10) 36 ∷
    edge (card 3 1 501 130000 20 1000 20000 10) 36 ∷
    edge (card 4 1 501 130000 45 1000 20000 10) 36 ∷
    edge (card 3 1 2000 300000 60 0 20000 10) 36 ∷
    edge (card 1 1 280 199999 40 1 20000 10) 37 ∷
    edge (card 3 1 399 120001 45 1 20000 10) 37 ∷
    edge (card 3 1 399 120000 45 0 0 10) 37 ∷
    edge (card 3 1 501 130000 45 1000 0 0) 38 ∷
    edge (card 1 1 1600 139999 60 0 0 10) 8 ∷
    edge (card 3 1 450 130000 45 1000 0 0) 9 ∷
    edge (absolute_card 3 1 450 130000 45 1000 0 10 (pos 5) (pos 81)) 9 ∷
    edge (absolute_card 3 1 450 130000 45 1000 20000 0 (pos 5) (pos 81)) 10 ∷
    edge (absolute_card 3 1 450 130000 45 1000 20000 2 (pos 9000001) (pos 81)) 10 ∷
    edge (absolute_card 3 1 450 130000 45 1000 20000 10 (pos 5) (pos 81)) 34 ∷
    edge (absolute_card 3 1 450 130000 45 1000 20000 1 (pos 9000001) (neg_ℤ (pos 81))) 34 ∷
    edge (absolute_card 3 1 501 130000 45 1000 20000 10 (pos 5) (pos 81)) 38 ∷ []

-- a lent table of n numbers, each 9
abbrev pub nines : ℕ → List ℤ
nines zero = []
nines (suc n) = pos 9 ∷ nines n

-- THEOREM (proofs/ReadingsComputed.antt)
pub record Boundaries : Type 0 where
  -- each card of the list gives its number
  pub own : map (λ (e : Edge). refusal e.of) edges ≡ map (λ (e : Edge). e.gives) edges
  -- 11, short table: 8 rows need 72 numbers, and 301 rows 2709; a card's own reason comes before
  pub table_short : reply_to (card 3 1 450 130000 45 1000 20000 10) 71 ≡ record { number = 11; count = 0 }
  pub table_held : reply_to (card 3 1 450 130000 45 1000 20000 10) 72 ≡ record { number = 0; count = 8 }
  pub longest_short : reply_to (card 2 1 700 300000 40 0 1000 10) 2708 ≡ record { number = 11; count = 0 }
  pub longest_held : reply_to (card 2 1 700 300000 40 0 1000 10) 2709 ≡ record { number = 0; count = 301 }
  pub table_none : reply_to (card 3 1 450 130000 45 1000 0 10) 0 ≡ record { number = 9; count = 0 }
  pub table_none_placed : reply_to (card 3 1 501 130000 45 1000 20000 10) 0 ≡ record { number = 38; count = 0 }
  -- no second row at L when the step divides L
  pub seven_rows : reply_to fourth 62 ≡ record { number = 11; count = 0 }
  pub seven_held : reply_to fourth 63 ≡ record { number = 0; count = 7 }
  -- the numbers after the last row stay, and a table that is too short stays whole
  pub kept_after : table_after fourth (nines 65) ≡ rows fourth ++ nines 2
  pub kept_short : table_after fourth (nines 62) ≡ nines 62
