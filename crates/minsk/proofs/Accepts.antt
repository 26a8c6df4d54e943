-- A card is accepted exactly when each reason, turned round, holds; and then its section has these sizes.
-- Assumes nothing.
use mathlib.Core.Path.{◌≡◌, refl}
use Prim.Native.Nat.{◌≤◌}
use native.Mathlib.Nat.{mul-le-mul_left}
use native.Mathlib.Omega.{arith}
use lib.Dec.{lit<}
use Rattle.card.specs.declared.Card.{Card}
use Rattle.card.specs.Profile.{added_of}
use Rattle.card.specs.Reasons.{first, refusal_before, refusal_after}
use Rattle.card.proofs.Tests.{passes, then}
use Rattle.card.proofs.InOrder.{Lists, no_number}
use Rattle.card.proofs.InOrder as order
use Rattle.card.proofs.Steps.{at_start, passed}
use Rattle.card.proofs.Accepts.{shared_rule, unit_in}
use Rattle.minsk_section.specs.Widths.{widths_at}
use Rattle.minsk_section.specs.Lines.{section_of}
use Rattle.minsk.specs.Rows.{row_count, row_width}
use Rattle.minsk.specs.Refusal.{method_tests, refusal}
use Rattle.minsk.specs.Accepted.{Sizes, AcceptedBy, AcceptedTheorem}
use Rattle.minsk.proofs.Unmet.{For, not_for_lem, not_long, placed_lem, not_steep}
use Rattle.minsk_section.proofs.WidthEntries.{WidthSizes, width_sizes}

module _ (card : Card) where
  -- the reasons before, then this method's, then those after
  pub in_order : refusal card ≡ then (refusal_before card) (then (first (method_tests card)) (refusal_after card))
  unfolding refusal
  in_order = order.in_order card (method_tests card) refl

  lists : refusal card ≡ 0 → Lists card (method_tests card) refl
  unfolding refusal
  lists = order.lists card (method_tests card) refl

  pub accepted : refusal card ≡ 0 → AcceptedBy card
  accepted e =
      let l = lists e in
      let before = (shared_rule card).before.0 l.before in
      let sizes = (shared_rule card).sizes l.before in
      let own = passes (method_tests card) refl l.own in
      let ours = (not_for_lem card).0 (own 0 (lit< tt)) in
      let category : card.profile ≤ 3 = omega (arith, before.profile_most, ours.four, ours.five) in
      let widths = width_sizes card.profile before.profile_least category in
      let placed = (placed_lem (section_of card)).0 (own 2 (lit< tt)) in
      record {
        before = before;
        category = category;
        lines =
            record {
              wide = widths.half_least;
              strips = widths.strips;
              kept = widths.kept;
              curved = omega (arith, before.radius_most, ours.radius);
              turned = omega (arith, before.slope_least, sizes.crown_least, ours.slope);
              long = omega (arith, (shared_rule card).long l.before);
              room = (not_long (section_of card)).0 (own 1 (lit< tt));
              near = placed.near;
              exactly = placed.exactly;
            };
        added =
            record {
              gentle = (not_steep (added_of card) (section_of card) before.radius_most).0 (own 3 (lit< tt));
              steep = sizes.added_least;
            };
        after = (shared_rule card).after.0 l.after;
      }

  none_own : AcceptedBy card → first (method_tests card) ≡ 0
  none_own a =
      let ours : For card = record {
        slope = λ e. omega (arith, a.lines.turned);
        radius = λ e. omega (arith, a.lines.curved);
        four = λ e. omega (arith, a.category);
        five = λ e. omega (arith, a.category);
      } in
      let past36 = passed (at_start (method_tests card)) refl ((not_for_lem card).1 ours) in
      let past37 = passed past36 refl ((not_long (section_of card)).1 a.lines.room) in
      let past38 = passed past37 refl ((placed_lem (section_of card)).1 (record { near = a.lines.near; exactly = a.lines.exactly })) in
      (passed past38 refl ((not_steep (added_of card) (section_of card) a.before.radius_most).1 a.added.gentle)).says

  not_refused : AcceptedBy card → refusal card ≡ 0
  unfolding refusal
  not_refused a =
      no_number card (method_tests card) refl
      (record { before = (shared_rule card).before.1 a.before; own = none_own a; after = (shared_rule card).after.1 a.after })

  pub widths_of : refusal card ≡ 0 → WidthSizes (widths_at card.profile)
  widths_of e =
      let a = accepted e in
      width_sizes card.profile a.before.profile_least a.category

  pub sizes_of : refusal card ≡ 0 → Sizes (section_of card)
  sizes_of e =
      let a = accepted e in
      let w = widths_of e in
      record {
        half_most = w.half_most;
        shoulder_most = w.shoulder_most;
        strip_most = w.strip_most;
        least_most = w.least_most;
        slope_most = a.before.slope_most;
        clothoid_most = a.before.clothoid_most;
        widening_most = a.before.widening_most;
      }

  -- the unit is 1 or 10
  pub unit_of : refusal card ≡ 0 → (1 ≤ card.unit) × (card.unit ≤ 10)
  unit_of e = unit_in (accepted e).after

  few : refusal card ≡ 0 → row_count card ≤ 301
  few e = (shared_rule card).few (lists e).before (lists e).after

pub accepted_rule : AcceptedTheorem
accepted_rule card =
    record {
      exactly = (accepted card, not_refused card);
      sizes = sizes_of card;
      far = λ e. omega (arith, (accepted card e).lines.room, (accepted card e).lines.wide);
      few = few card;
      room = λ e. omega (arith, mul-le-mul_left row_width (few card e));
    }
