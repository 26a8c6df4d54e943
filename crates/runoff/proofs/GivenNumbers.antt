-- A card gives 0 or one of the numbers of its reasons, never 7, and 34 or 35 only where it is absolute.
-- Assumes nothing.
use mathlib.Core.Path.{refl}
use mathlib.Core.List.{◌∷◌}
use Rattle.card.specs.Words.{among}
use Rattle.card.specs.Table.{reply_by}
use Rattle.card.proofs.NumbersGiven.{never, never_surveyed}
use Rattle.card.proofs.Tests.{first_passes}
use Rattle.runoff.specs.Refusal.{own_tests, tests, refusal}
use Rattle.runoff.specs.Table.{reply_number, reply_to}
use Rattle.runoff.specs.Numbers.{listed, NumbersTheorem}

pub numbers_rule : NumbersTheorem
unfolding refusal reply_number reply_to reply_by
numbers_rule card room =
    record {
      order = refl;
      given = first_passes (among (0 ∷ listed card room)) (tests card room) refl refl;
      own_not_seven = never 7 (own_tests card) refl refl;
      not_seven = never 7 (tests card room) refl refl;
      own_relative = λ is. never_surveyed (own_tests card) (rw is refl);
      relative = λ is. never_surveyed (tests card room) (rw is refl);
    }
