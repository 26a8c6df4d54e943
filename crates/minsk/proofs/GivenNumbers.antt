-- A card gives 0 or one of the numbers of its reasons, and 34 or 35 only where it is absolute.
-- Assumes nothing.
use mathlib.Core.Path.{refl}
use mathlib.Core.List.{◌∷◌}
use Rattle.card.specs.Words.{among}
use Rattle.card.specs.Table.{reply_by}
use Rattle.card.proofs.NumbersGiven.{never_surveyed}
use Rattle.card.proofs.Tests.{first_passes}
use Rattle.minsk.specs.Refusal.{own_tests, tests, refusal}
use Rattle.minsk.specs.Table.{reply_number, reply_to}
use Rattle.minsk.specs.Numbers.{listed, NumbersTheorem}

pub numbers_rule : NumbersTheorem
unfolding refusal reply_number reply_to reply_by
numbers_rule card room =
    record {
      order = refl;
      given = first_passes (among (0 ∷ listed card room)) (tests card room) refl refl;
      own_relative = λ is. never_surveyed (own_tests card) (rw is refl);
      relative = λ is. never_surveyed (tests card room) (rw is refl);
    }
