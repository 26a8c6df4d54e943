-- Document 01, "Readings at the edges": the starred ones, in the paper's order, as one statement about the definitions; the last as document 02,
-- Slip 1, changes it, the RAMP rows as Slip 6 does.
-- Numbers left out of a reading are any numbers such that no other refusal applies, or any numbers at all where nothing depends on them.
-- Assumes nothing.
use Rattle.std.specs.Prelude.{◌≡◌, Bool, true, false, not, cond, List, [], ◌∷◌, ℕ, ◌≤◌, ℤ, pos, neg_ℤ}
use Rattle.card.specs.declared.Card.{Card}
use Rattle.card.specs.Card.{card, ramp}
use Rattle.card.specs.Words.{among}
use Rattle.card.specs.Clothoid.{least_length}
use Rattle.card.specs.Reasons.{Test, first}
use Rattle.section.specs.Lines.{section_of, is_even}
use Rattle.runoff.specs.Rows.{row_count, row_of, rows}
use Rattle.runoff.specs.Refusal.{own_tests, refusal}
use Rattle.runoff.specs.Table.{reply_to}

-- the reasons whose numbers pass the test f
abbrev pub keep : (ℕ → Bool) → List Test → List Test
keep f [] = []
keep f (t ∷ ts) = cond (f t.number) (t ∷ keep f ts) (keep f ts)

-- the reasons whose numbers are not in ns
abbrev pub others : List ℕ → List Test → List Test
others ns ts = keep (λ (n : ℕ). not (among ns n)) ts

-- if no reason of the card but those in ns is met, the card gives n
pub record Gives (n : ℕ) (ns : List ℕ) (x : Card) : Type 0 where
  pub gives : first (others ns (own_tests x)) ≡ 0 → refusal x ≡ n

-- the outer edges of a card's rows at some stations
abbrev pub outer_edges : Card → List ℕ → List ℤ
outer_edges x [] = []
outer_edges x (d ∷ ds) = (row_of x d).outer_edge ∷ outer_edges x ds

-- THEOREM (proofs/StarredReadings.antt)
pub record Readings : Type 0 where
  -- RAMP's card is accepted, and has three rows
  pub ramp_accepted : refusal ramp ≡ 0
  pub ramp_count : row_count ramp ≡ 3
  -- the RAMP rows, three of them, in a table that they fill
  pub ramp_reply : reply_to ramp 21 ≡ record { number = 0; count = 3 }
  pub ramp_rows :
      rows ramp
      ≡ pos 0 ∷ pos 0 ∷ pos 0 ∷ pos 105 ∷ pos 173 ∷ pos 105 ∷ pos 53 ∷
      pos 20000 ∷ pos 400 ∷ pos 12 ∷ pos 93 ∷ pos 173 ∷ pos 240 ∷ pos 293 ∷
      pos 30000 ∷ pos 600 ∷ neg_ℤ (pos 67) ∷ pos 2 ∷ pos 173 ∷ pos 308 ∷ pos 413 ∷ []
  -- profile 1, R 125, v 60, level: L 55000 gives 8; L 60000 passes
  pub added_met : (W step unit : ℕ) → Gives 8 (8 ∷ []) (card 1 1 125 55000 60 W step unit)
  pub added_passes : (W step unit : ℕ) → Gives 0 (8 ∷ []) (card 1 1 125 60000 60 W step unit)
  -- profile 2, v 60: L 93333 is even, 93334 two-stage
  pub even : (terrain R W step unit : ℕ) → is_even (section_of (card 2 terrain R 93333 60 W step unit)) ≡ true
  pub two_stage : (terrain R W step unit : ℕ) → is_even (section_of (card 2 terrain R 93334 60 W step unit)) ≡ false
  -- profile 3, R 700, L 120000, v 40, W 400, unit 10: outer edge 10, 22, 23, 26, 28 at stations 0, 40000, 60000, 100000, 120000
  pub stages :
      (terrain step : ℕ) →
      outer_edges (card 3 terrain 700 120000 40 400 step 10) (0 ∷ 40000 ∷ 60000 ∷ 100000 ∷ 120000 ∷ [])
      ≡ pos 10 ∷ pos 22 ∷ pos 23 ∷ pos 26 ∷ pos 28 ∷ []
  -- the same card at 120000: inner edge 2, inner brow −6
  pub inner_edge_reading : (terrain step : ℕ) → (row_of (card 3 terrain 700 120000 40 400 step 10) 120000).inner_edge ≡ pos 2
  pub inner_brow_reading : (terrain step : ℕ) → (row_of (card 3 terrain 700 120000 40 400 step 10) 120000).inner_brow ≡ neg_ℤ (pos 6)
  -- profile 1, R 2000, L 100000, v 20: outer edge 150, 300, 300 mm at 0, 50000, 100000
  pub crown_slope_reading :
      (terrain W step : ℕ) →
      outer_edges (card 1 terrain 2000 100000 20 W step 1) (0 ∷ 50000 ∷ 100000 ∷ []) ≡ pos 150 ∷ pos 300 ∷ pos 300 ∷ []
  -- R 225 needs 80 m; R 1500 needs 120 m; R 2000 needs 100 m
  pub least_225 : least_length 225 ≡ 80
  pub least_1500 : least_length 1500 ≡ 120
  pub least_2000 : least_length 2000 ≡ 100
  -- profile 4: v 29 gives 5, 30 passes, 61 gives 5
  pub slope_29 : (terrain R L W step unit : ℕ) → Gives 5 (5 ∷ []) (card 4 terrain R L 29 W step unit)
  pub slope_30 : (terrain R L W step unit : ℕ) → Gives 0 (5 ∷ []) (card 4 terrain R L 30 W step unit)
  pub slope_61 : (terrain R L W step unit : ℕ) → Gives 5 (5 ∷ []) (card 4 terrain R L 61 W step unit)
  -- profile 2: W 1000 and 1001 pass (where R takes a widening), 3501 gives 6
  pub widening_1000 : (terrain R L v step unit : ℕ) → R ≤ 1000 → Gives 0 (6 ∷ 7 ∷ []) (card 2 terrain R L v 1000 step unit)
  pub widening_1001 : (terrain R L v step unit : ℕ) → R ≤ 1000 → Gives 0 (6 ∷ 7 ∷ []) (card 2 terrain R L v 1001 step unit)
  pub widening_3501 : (terrain R L v step unit : ℕ) → Gives 6 (6 ∷ 7 ∷ []) (card 2 terrain R L v 3501 step unit)
