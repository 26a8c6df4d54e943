-- Demand 3, the climbing rule, of cards by this method: "the climbing rule from its first stage on".
-- Assumes nothing.
use Rattle.std.specs.Prelude.{◌≡◌, List, ℕ, ◌+◌, ◌*◌, ◌≤◌, ◌<◌, ℤ, pos, length, get_or}
use Rattle.exact.specs.Exact.{whole}
use Rattle.card.specs.declared.Card.{Card}
use Rattle.card.specs.declared.Datum.TheVariants.{Relative}
use Rattle.card.specs.Profile.{added_of}
use Rattle.minsk_section.specs.Lines.{section_of}
use Rattle.minsk_section.specs.Datum.{above_axis, read_height}
use Rattle.minsk_section.specs.Climbing.{Unstaged, EdgeRule, Tabled}
use Rattle.minsk.specs.Rows.{station_of, row_width, row_of}
use Rattle.minsk.specs.Refusal.{refusal}

-- the outer-edge numbers n at d and k at e of a card
abbrev pub TabledOf : Card → ℕ → ℕ → ℤ → ℤ → Type 0
TabledOf card d e n k = Tabled (added_of card) card.unit (section_of card) d e n k

-- the outer edges of a card's rows at the stations d and e
abbrev pub TabledAt : Card → ℕ → ℕ → Type 0
TabledAt card d e = TabledOf card d e (row_of card d).outer_edge (row_of card e).outer_edge

-- the exact heights of a card, at any two stations, fractions included: they climb from the first stage on and are level before it; of a relative
-- card from its nought, the axis, of an absolute one above the axis
abbrev pub ClimbsExactly : Card → Type 0
ClimbsExactly card = EdgeRule (read_height card.datum) (added_of card) (section_of card)

-- its exact heights above the axis, relative or absolute
abbrev pub ClimbsAbove : Card → Type 0
ClimbsAbove card = EdgeRule (above_axis card.datum) (added_of card) (section_of card)

-- the climbing rule of a card; the tabled heights count from the same nought as the exact ones only where the card is relative
pub record ClimbingRule (card : Card) : Type 0 where
  pub exact : ClimbsExactly card
  pub above : ClimbsAbove card
  -- for the rows at any two stations
  pub tabled :
      card.datum ≡ Relative →
      (d e : ℕ) → d ≤ e → e ≤ card.clothoid →
      TabledAt card d e
  -- for any two rows of its table, neighbours or not, with the stations that the rule for rows gives their places
  pub rows : card.datum ≡ Relative → (i j : ℕ) → i ≤ j → TabledAt card (station_of card i) (station_of card j)

-- THEOREM (proofs/ClimbingRule.antt): it holds of every accepted runoff, one whose card none of its own reasons refuses
abbrev pub ClimbingTheorem : Type 0
ClimbingTheorem = (card : Card) → refusal card ≡ 0 → ClimbingRule card

-- ---- the table that a call leaves
-- row i of a table takes the nine numbers from 9 × i on: the station is the first of them, the outer edge the fourth
abbrev pub station_in : List ℤ → ℕ → ℤ
station_in table i = get_or table (row_width * i) (pos 0)

abbrev pub outer_edge_in : List ℤ → ℕ → ℤ
outer_edge_in table i = get_or table (row_width * i + 3) (pos 0)

-- demand 3 of the numbers in a table whose first count rows are the card's
pub record ClimbingTable (card : Card) (count : ℕ) (table : List ℤ) : Type 0 where
  -- the counted rows stand in the table
  pub held : row_width * count ≤ length table
  -- each at the station that the rule for rows gives its place
  pub stations : (i : ℕ) → i < count → station_in table i ≡ pos (station_of card i)
  -- a later row is farther
  pub farther : (i j : ℕ) → i < j → j < count → station_of card i < station_of card j
  -- the exact heights
  pub exact : ClimbsExactly card
  pub above : ClimbsAbove card
  -- the tabled heights of a relative card, for any two of the rows, i before j, neighbours or not; those before the first stage too
  pub rows :
      card.datum ≡ Relative →
      (i j : ℕ) → i < j → j < count →
      TabledOf card (station_of card i) (station_of card j) (outer_edge_in table i) (outer_edge_in table j)
  -- where both stand at or before its start, they are the same
  pub level :
      card.datum ≡ Relative →
      (i j : ℕ) → i < count → j < count →
      Unstaged (section_of card) (whole (station_of card i)) → Unstaged (section_of card) (whole (station_of card j)) →
      outer_edge_in table i ≡ outer_edge_in table j
