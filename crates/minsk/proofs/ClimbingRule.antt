-- Demand 3, the climbing rule, the accuracy rule and the turning of the lines, of every card that none of its own reasons refuses.
-- Assumes nothing.
use mathlib.Core.Path.{◌≡◌, refl}
use Prim.Native.Nat.{ℕ, ◌≤◌, ◌<◌}
use native.Mathlib.Omega.{arith}
use Rattle.exact.specs.Exact.{Exact, whole}
use Rattle.card.specs.declared.Card.{Card}
use Rattle.card.specs.declared.Datum.TheVariants.{Relative}
use Rattle.card.specs.Profile.{added_of}
use Rattle.card.specs.Datum.{moved_from}
use Rattle.card.specs.Rows.{in_units}
use Rattle.card.proofs.Moving.{axis_some, moved_some}
use Rattle.card.proofs.AccurateNumbers.{accurate}
use Rattle.card.proofs.RowPlaces.{station_most, station_rises}
use Rattle.minsk_section.specs.Lines.{section_of, axis, Premises, Gentle}
use Rattle.minsk_section.specs.Datum.{moved}
use Rattle.minsk_section.proofs.EdgePieces.{on_whole}
use Rattle.minsk_section.proofs.DatumClimb.{climbs_above, climbs_read}
use Rattle.minsk_section.proofs.TabledClimb.{tabled}
use Rattle.minsk_section.proofs.TurningRule.{turns}
use Rattle.minsk_section.proofs.Proper.{proper}
use Rattle.minsk.specs.Rows.{station_of, row}
use Rattle.minsk.specs.Refusal.{refusal}
use Rattle.minsk.specs.Climbing.{TabledAt, ClimbingRule, ClimbingTheorem}
use Rattle.minsk.specs.Turning.{TurningTheorem}
use Rattle.minsk.specs.Accuracy.{AccurateLine, AccurateRow, AccuracyTheorem}
use Rattle.minsk.proofs.Accepts.{accepted, unit_of}

module _ (card : Card) (passes : refusal card ≡ 0) where
  pub premises : Premises (section_of card)
  premises = (accepted card passes).lines

  gentle : Gentle (added_of card) (section_of card)
  gentle = (accepted card passes).added

  unit_some : 0 < card.unit
  unit_some = (unit_of card passes).0

  at_stations : card.datum ≡ Relative → (d e : ℕ) → d ≤ e → e ≤ card.clothoid → TabledAt card d e
  unfolding row moved_from
  at_stations is = rw is (tabled (added_of card) (section_of card) premises gentle card.unit unit_some)

  climbs_so : ClimbingRule card
  climbs_so =
      record {
        exact = climbs_read card.datum (added_of card) (section_of card) premises gentle;
        above = climbs_above card.datum (added_of card) (section_of card) premises gentle;
        tabled = at_stations;
        rows = λ is i j h. at_stations is (station_of card i) (station_of card j) (station_rises card.clothoid card.step i j h) (station_most card.clothoid card.step j);
      }

  -- a line of the section, with the card's datum
  line : (d : ℕ) (y : Exact) → 0 < y.den → AccurateLine card d y (in_units card.unit (moved card.datum (whole d) y))
  line d y p = accurate card.unit unit_some _ (moved_some card.datum axis (whole d) y (omega arith) (omega arith) p)

  accurate_row : (d : ℕ) → d ≤ card.clothoid → AccurateRow card d
  unfolding row
  accurate_row d h =
      let lines = proper premises (on_whole (section_of card) d h) in
      let is = accurate card.unit unit_some in
      record {
        station = refl;
        widening = is _ (omega (arith, lines.widening));
        axis = is _ (axis_some card.datum axis (whole d) (omega arith) (omega arith));
        outer_edge = line d _ lines.outer_edge;
        outer_strip = line d _ lines.outer_strip;
        outer_brow = line d _ lines.outer_brow;
        inner_edge = line d _ lines.inner_edge;
        inner_strip = line d _ lines.inner_strip;
        inner_brow = line d _ lines.inner_brow;
      }

pub climbing_rule : ClimbingTheorem
climbing_rule = climbs_so

pub accuracy_rule : AccuracyTheorem
accuracy_rule = accurate_row

pub turning_rule : TurningTheorem
turning_rule card passes = turns (section_of card) (premises card passes)
