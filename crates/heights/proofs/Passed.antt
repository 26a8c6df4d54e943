-- The axis of a card that the shared reasons let pass can be held.
-- Assumes nothing.
use mathlib.Core.Path.{◌≡◌}
use Prim.Native.Nat.{ℕ, ◌≤◌}
use lib.IntN.{ℤ}
use Rattle.card.specs.declared.Card.{Card}
use Rattle.card.specs.declared.Datum.TheVariants.{Absolute}
use Rattle.card.specs.Accepted.{PassedAfter}
use Rattle.card.proofs.Accepts.{unit_in}
use Rattle.heights.specs.Heights.{Stays, Climbs}

pub stays_of : {card : Card} {n : ℕ} → PassedAfter card → n ≤ 337500 → Stays n card.unit
stays_of a most = record { rest_most = most; unit_least = (unit_in a).0; unit_most = (unit_in a).1 }

-- 34 and 35 leave an absolute card's height and grade within their bounds
pub climbs_of : {card : Card} {h g : ℤ} {d : ℕ} → PassedAfter card → card.datum ≡ Absolute h g → d ≤ 330000 → Climbs h g d card.unit
climbs_of a is most =
    record {
      survey = rw is at a.survey;
      d_most = most;
      unit_least = (unit_in a).0;
      unit_most = (unit_in a).1;
    }
