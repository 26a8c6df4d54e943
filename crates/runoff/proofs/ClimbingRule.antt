-- Demand 3, the climbing rule, the accuracy rule and the turning of the lines, of every card that none of its own reasons refuses.
-- Assumes nothing.
use mathlib.Core.Path.{◌≡◌, refl}
use Prim.Native.Nat.{ℕ, ◌≤◌, ◌<◌}
use native.Mathlib.Omega.{arith}
use Rattle.exact.specs.Exact.{Exact, whole}
use Rattle.card.specs.declared.Card.{Card}
use Rattle.card.specs.declared.Datum.TheVariants.{Relative}
use Rattle.card.specs.Profile.{added_of}
use Rattle.card.specs.Datum.{moved_from}
use Rattle.card.specs.Rows.{in_units}
use Rattle.card.proofs.Moving.{axis_some, moved_some}
use Rattle.card.proofs.AccurateNumbers.{accurate}
use Rattle.section.specs.Lines.{section_of, axis}
use Rattle.section.specs.Datum.{moved}
use Rattle.runoff.specs.Rows.{station_of, row}
use Rattle.runoff.specs.Refusal.{refusal}
use Rattle.runoff.specs.Climbing.{TabledAt, ClimbingRule, ClimbingTheorem}
use Rattle.runoff.specs.Turning.{TurningTheorem}
use Rattle.runoff.specs.Accuracy.{AccurateLine, AccurateRow, AccuracyTheorem}
use Rattle.runoff.proofs.Accepts.{unit_of, accepted_rule}
use Rattle.card.proofs.RowPlaces.{station_most, station_rises}
use Rattle.section.proofs.EdgePieces.{on_whole}
use Rattle.section.specs.Climbing.{ClimbPremises}
use Rattle.section.proofs.DatumClimb.{climbs_above, climbs_read}
use Rattle.section.proofs.TurningRule.{turns}
use Rattle.section.proofs.TabledClimb.{tabled}
use Rattle.section.proofs.Proper.{proper}

module _ (card : Card) (passes : refusal card ≡ 0) where
  pub premises : ClimbPremises (added_of card) (section_of card)
  premises =
      let a = (accepted_rule card).exactly.0 passes in
      let z = (accepted_rule card).sizes passes in
      record {
        wide = omega (arith, z.half_least);
        crowned = omega (arith, z.crown_least);
        turned = a.before.slope_least;
        long = omega (arith, (accepted_rule card).long passes);
        steep = omega (arith, z.added_least);
        gentle = a.added;
      }

  unit_some : 0 < card.unit
  unit_some = (unit_of card passes).0

  at_stations : card.datum ≡ Relative → (d e : ℕ) → d ≤ e → e ≤ card.clothoid → TabledAt card d e
  unfolding row moved_from
  at_stations is = rw is (tabled (added_of card) (section_of card) premises card.unit unit_some)

  climbs_so : ClimbingRule card
  climbs_so =
      record {
        exact = climbs_read card.datum (added_of card) (section_of card) premises;
        above = climbs_above card.datum (added_of card) (section_of card) premises;
        tabled = at_stations;
        rows = λ is i j h. at_stations is (station_of card i) (station_of card j) (station_rises card.clothoid card.step i j h) (station_most card.clothoid card.step j);
      }

  -- a line of the section, with the card's datum
  line : (d : ℕ) (y : Exact) → 0 < y.den → AccurateLine card d y (in_units card.unit (moved card.datum (section_of card) (whole d) y))
  line d y p = accurate card.unit unit_some _ (moved_some card.datum (axis (section_of card)) (whole d) y (omega arith) (omega arith) p)

  accurate_row : (d : ℕ) → d ≤ card.clothoid → AccurateRow card d
  unfolding row
  accurate_row d h =
      let lines = proper premises (on_whole (section_of card) d h) in
      let is = accurate card.unit unit_some in
      record {
        station = refl;
        widening = is _ (omega (arith, lines.widening));
        inner_brow = line d _ lines.inner_brow;
        inner_edge = line d _ lines.inner_edge;
        axis = is _ (axis_some card.datum (axis (section_of card)) (whole d) (omega arith) (omega arith));
        outer_edge = line d _ lines.outer_edge;
        outer_brow = line d _ lines.outer_brow;
      }

pub climbing_rule : ClimbingTheorem
climbing_rule = climbs_so

pub accuracy_rule : AccuracyTheorem
accuracy_rule = accurate_row

pub turning_rule : TurningTheorem
turning_rule card passes =
    let z = (accepted_rule card).sizes passes in
    turns (added_of card) (section_of card) (premises card passes) z.kept_most z.side_least
