-- A card is accepted exactly when each reason, turned round, holds; and then its profile has the sizes of the table.
-- Assumes nothing.
use mathlib.Core.Path.{◌≡◌, refl}
use Prim.Native.Nat.{◌≤◌}
use lib.Dec.{lit<}
use Rattle.card.specs.declared.Card.{Card}
use Rattle.card.specs.declared.Profile.{Profile}
use Rattle.card.specs.Profile.{profile_at, added_of}
use Rattle.card.specs.Reasons.{first}
use Rattle.card.specs.Accepted.{Sizes}
use Rattle.card.proofs.Tests.{passes}
use Rattle.card.proofs.InOrder.{Lists, no_number}
use Rattle.card.proofs.InOrder as in_order
use Rattle.card.proofs.Steps.{at_start, passed}
use Rattle.card.proofs.Unmet.{not_above}
use Rattle.card.proofs.Accepts.{shared_rule, unit_in}
use Rattle.runoff.specs.Refusal.{method_tests, refusal}
use Rattle.runoff.specs.Accepted.{AcceptedBy, AcceptedTheorem}

module _ (card : Card) where
  abbrev its : Profile
  its = profile_at card.profile

  lists : refusal card ≡ 0 → Lists card (method_tests its card) refl
  unfolding refusal
  lists = in_order.lists card (method_tests its card) refl

  pub accepted : refusal card ≡ 0 → AcceptedBy its card
  accepted e =
      let l = lists e in
      record {
        before = (shared_rule card).before.0 l.before;
        added = (not_above _ _).0 (passes (method_tests its card) refl l.own 0 (lit< tt));
        after = (shared_rule card).after.0 l.after;
      }

  none_own : AcceptedBy its card → first (method_tests its card) ≡ 0
  none_own a = (passed (at_start (method_tests its card)) refl ((not_above _ _).1 a.added)).says

  not_refused : AcceptedBy its card → refusal card ≡ 0
  unfolding refusal
  not_refused a =
      no_number card (method_tests its card) refl
      (record { before = (shared_rule card).before.1 a.before; own = none_own a; after = (shared_rule card).after.1 a.after })

  pub sizes_of : refusal card ≡ 0 → Sizes its (added_of card)
  sizes_of e = (shared_rule card).sizes (lists e).before

  -- the unit is 1 or 10
  pub unit_of : refusal card ≡ 0 → (1 ≤ card.unit) × (card.unit ≤ 10)
  unit_of e = unit_in (accepted e).after

pub accepted_rule : AcceptedTheorem
accepted_rule card =
    record {
      exactly = (accepted card, not_refused card);
      sizes = sizes_of card;
      long = λ e. (shared_rule card).long (lists card e).before;
      few = λ e. (shared_rule card).few (lists card e).before (lists card e).after;
    }
