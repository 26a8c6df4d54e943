-- Demand 3 of the numbers in a table that begins with the rows of an accepted card.
-- Assumes nothing.
use mathlib.Core.Path.{◌≡◌, sym, ◌∙◌}
use mathlib.Core.List.{List, ◌++◌}
use Prim.Native.Nat.{ℕ, ◌*◌, ◌<◌}
use native.Mathlib.Nat.{add-zero}
use native.Mathlib.Omega.{arith}
use lib.Dec.{lit<}
use lib.IntN.{ℤ, pos}
use lib.ListN.{length-append}
use Rattle.exact.specs.Exact.{whole}
use Rattle.exact.proofs.Rounded.{rounding_laws}
use Rattle.card.specs.declared.Card.{Card}
use Rattle.card.specs.declared.Datum.TheVariants.{Relative}
use Rattle.card.specs.Datum.{moved_from}
use Rattle.card.specs.Rows.{tie}
use Rattle.card.proofs.RowPlaces.{station_farther}
use Rattle.minsk_section.specs.Lines.{section_of}
use Rattle.minsk_section.specs.Climbing.{Unstaged}
use Rattle.minsk_section.proofs.ExactClimb.{level, edge_proper}
use Rattle.minsk.specs.Refusal.{refusal}
use Rattle.minsk.specs.Rows.{row, row_of, row_count, rows, station_of}
use Rattle.minsk.specs.Climbing.{station_in, outer_edge_in, ClimbingTable}
use Rattle.minsk.proofs.Accepts.{accepted, unit_of}
use Rattle.minsk.proofs.CardRows.{length_rows, number_in}
use Rattle.minsk.proofs.ClimbingRule.{climbing_rule}

-- before the first stage the rounded edge is the same at every station
level_at :
    (card : Card) → refusal card ≡ 0 → card.datum ≡ Relative → (d e : ℕ) →
    Unstaged (section_of card) (whole d) → Unstaged (section_of card) (whole e) →
    (row_of card d).outer_edge ≡ (row_of card e).outer_edge
unfolding row moved_from
level_at card passes is d e a b =
    let ok = (accepted card passes).lines in
    let laws = rounding_laws (tie card.unit) (1000 * card.unit) (omega (arith, (unit_of card passes).0)) in
    rw is (laws.same _ _ (edge_proper ok a.on) (edge_proper ok b.on) (level ok (whole d) (whole e) a b))

module _ (card : Card) (rest : List ℤ) where
  abbrev table : List ℤ
  table = rows card ++ rest

  station_in_lem : (i : ℕ) → i < row_count card → station_in table i ≡ pos (station_of card i)
  unfolding row
  station_in_lem i h = rw add-zero at (number_in card rest i 0 h (lit< tt))

  outer_edge_in_lem : (i : ℕ) → i < row_count card → outer_edge_in table i ≡ (row_of card (station_of card i)).outer_edge
  outer_edge_in_lem i h = number_in card rest i 3 h (lit< tt)

  pub climbing_table_lem : refusal card ≡ 0 → ClimbingTable card (row_count card) table
  climbing_table_lem passes =
      let rule = climbing_rule card passes in
      record {
        held = rw length-append (omega (arith, length_rows card));
        stations = station_in_lem;
        farther = λ i j h g. station_farther card.clothoid card.step i j (omega (arith, (accepted card passes).after.step_least)) h g;
        exact = rule.exact;
        above = rule.above;
        rows = λ is i j h g.
            let before : i < row_count card = omega arith in
            rw (outer_edge_in_lem i before, outer_edge_in_lem j g) (rule.rows is i j (omega arith));
        level = λ is i j h g a b.
            outer_edge_in_lem i h ∙ level_at card passes is (station_of card i) (station_of card j) a b ∙ sym (outer_edge_in_lem j g);
      }
