-- `heights::axis::Axis::surveyed` meets its contract: past the tests its numbers are within their bounds.
-- Assumes nothing.
use borrow.Author.Rules.{rules}
use mir.Facts.{to_z-of_z}
use Rattle.heights.specs.Heights.{Climbs}
use Rattle.heights.proofs.axis.Axis.surveyed.Goals as goal
use Rattle.heights.proofs.axis.Axis.surveyed.Goals.{Else-not-is_multiple_of}

held : (c : Else-not-is_multiple_of) → Climbs c.args.height c.args.grade c.args.d c.args.unit
held c =
    record {
      survey = record {
        height_least = search rules;
        height_most = search rules;
        whole_units = search rules;
        grade_least = search rules;
        grade_most = search rules;
      };
      d_most = search rules;
      unit_least = search rules;
      unit_most = search rules;
    }

pub climbing-requires : goal.climbing-requires
climbing-requires c = rw (to_z-of_z c.ranges.height, to_z-of_z c.ranges.grade) (held c)

pub returns-then-not-contains-3-clause-within : goal.returns-then-not-contains-3-clause-within
returns-then-not-contains-3-clause-within c within = search rules

pub returns-clause-beyond : goal.returns-clause-beyond
returns-clause-beyond c never = absurd (never (held (goal.at.returns-clause-beyond c).Else-not-is_multiple_of))
