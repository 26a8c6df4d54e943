-- Demand 3 of the numbers in a table that begins with the rows of an accepted card.
-- Assumes nothing.
use mathlib.Core.Path.{◌≡◌}
use mathlib.Core.List.{List, ◌++◌}
use Prim.Native.Nat.{ℕ, ◌<◌}
use native.Mathlib.Nat.{add-zero}
use native.Mathlib.Omega.{arith}
use lib.Dec.{lit<}
use lib.IntN.{ℤ, pos}
use lib.ListN.{length-append}
use Rattle.card.specs.declared.Card.{Card}
use Rattle.runoff.specs.Refusal.{refusal}
use Rattle.runoff.specs.Rows.{row, row_of, row_count, rows, station_of}
use Rattle.runoff.specs.Climbing.{station_in, outer_edge_in, ClimbingTable}
use Rattle.runoff.proofs.Accepts.{accepted}
use Rattle.card.proofs.RowPlaces.{station_farther}
use Rattle.runoff.proofs.RowBlocks.{length-rows, number_in}
use Rattle.runoff.proofs.ClimbingRule.{climbing_rule}

module _ (card : Card) (rest : List ℤ) where
  abbrev table : List ℤ
  table = rows card ++ rest

  station_in_lem : (i : ℕ) → i < row_count card → station_in table i ≡ pos (station_of card i)
  unfolding row
  station_in_lem i h = rw add-zero at (number_in card rest i 0 h (lit< tt))

  outer_edge_in_lem : (i : ℕ) → i < row_count card → outer_edge_in table i ≡ (row_of card (station_of card i)).outer_edge
  outer_edge_in_lem i h = number_in card rest i 5 h (lit< tt)

  pub climbing_table_lem : refusal card ≡ 0 → ClimbingTable card (row_count card) table
  climbing_table_lem passes =
      let rule = climbing_rule card passes in
      record {
        held = rw length-append (omega (arith, length-rows card));
        stations = station_in_lem;
        farther = λ i j h g. station_farther card.clothoid card.step i j (omega (arith, (accepted card passes).after.step_least)) h g;
        exact = rule.exact;
        above = rule.above;
        rows = λ is i j h g.
            let before : i < row_count card = omega arith in
            rw (outer_edge_in_lem i before, outer_edge_in_lem j g) (rule.rows is i j (omega arith));
      }
