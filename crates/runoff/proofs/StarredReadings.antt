-- The starred readings, and the reasons at their edges, computed from the definitions.
-- Assumes nothing.
use mathlib.Core.Path.{◌≡◌, refl, ap, ◌∙◌}
use mathlib.Core.Bool.{Bool, true, false, not, cond}
use mathlib.Core.List.{List, [], ◌∷◌}
use Prim.Native.Nat.{ℕ, ◌≤◌}
use native.Mathlib.Omega.{arith}
use lib.Dec.{lit≤}
use borrow.Author.Tests.{ltb-true, not-true}
use Rattle.exact.specs.Rounding.{rounded}
use Rattle.card.specs.Words.{among}
use Rattle.card.specs.Profile.{profiles, profile_at}
use Rattle.card.specs.Clothoid.{clothoids, least_length}
use Rattle.card.specs.Rows.{joined}
use Rattle.card.specs.Datum.{axis_from, moved_from}
use Rattle.card.specs.Reasons.{Test, first, too_wide}
use Rattle.card.specs.Table.{reply_by, table_by}
use Rattle.section.specs.Lines.{outer_slope, outer_edge, outer_brow, inner_slope, widening, inner_edge, inner_shoulder, shoulder_slope, inner_brow}
use Rattle.runoff.specs.Rows.{row, rows}
use Rattle.card.specs.declared.Card.{Card}
use Rattle.runoff.specs.Refusal.{own_tests, refusal}
use Rattle.runoff.specs.Table.{reply_number, reply_to, table_after}
use Rattle.runoff.specs.Readings.{Readings, Gives, keep, others}
use Rattle.runoff.specs.Boundaries.{edges, Boundaries}
use Rattle.card.proofs.Every.{every, here, later}
use Rattle.card.proofs.Tests.{numbered, zero_unmet}
use Rattle.card.proofs.Unmet.{not_too_wide}

-- the tests whose numbers are in ns
abbrev only : List ℕ → List Test → List Test
only ns ts = keep (among ns) ts

-- where no other test is met, the first one met is among those
first_among : (ns : List ℕ) (ts : List Test) → every numbered ts ≡ true → first (others ns ts) ≡ 0 → first ts ≡ first (only ns ts)
first_among ns [] t e = refl
first_among ns (x ∷ xs) t e = go (among ns x.number) (first_among ns xs (later numbered x xs t)) e
  where
    go :
        (b : Bool) → (first (others ns xs) ≡ 0 → first xs ≡ first (only ns xs)) → first (cond (not b) (x ∷ others ns xs) (others ns xs)) ≡ 0 →
        first (x ∷ xs) ≡ first (cond b (x ∷ only ns xs) (only ns xs))
    go true rest e = ap (cond x.met x.number) (rest e)
    go false rest e =
        let both = zero_unmet x.met x.number (first (others ns xs)) (ltb-true 0 x.number (here numbered x xs t)) e in
        rw (not-true x.met both.0) (rest both.1)

gives : {n : ℕ} {ns : List ℕ} {x : Card} → first (only ns (own_tests x)) ≡ n → Gives n ns x
unfolding refusal
gives {ns = ns} {x} e = record { gives = λ none. first_among ns (own_tests x) refl none ∙ e }

-- a curve of R up to 1000 takes a widening up to 3500
taken : (W R : ℕ) → W ≤ 3500 → R ≤ 1000 → too_wide W R ≡ false
taken W R few tight = (not_too_wide W R).1 (few, λ h. absurd (omega arith))

pub readings : Readings
unfolding rounded profiles profile_at clothoids least_length outer_slope outer_edge outer_brow inner_slope widening inner_edge inner_shoulder shoulder_slope inner_brow axis_from moved_from row joined rows refusal reply_number reply_by reply_to
readings =
    record {
      ramp_accepted = refl;
      ramp_count = refl;
      ramp_reply = refl;
      ramp_rows = refl;
      added_met = λ W step unit. gives refl;
      added_passes = λ W step unit. gives refl;
      even = λ terrain R W step unit. refl;
      two_stage = λ terrain R W step unit. refl;
      stages = λ terrain step. refl;
      inner_edge_reading = λ terrain step. refl;
      inner_brow_reading = λ terrain step. refl;
      crown_slope_reading = λ terrain W step. refl;
      least_225 = refl;
      least_1500 = refl;
      least_2000 = refl;
      slope_29 = λ terrain R L W step unit. gives refl;
      slope_30 = λ terrain R L W step unit. gives refl;
      slope_61 = λ terrain R L W step unit. gives refl;
      widening_1000 = λ terrain R L v step unit h. gives (rw (taken 1000 R (lit≤ tt) h));
      widening_1001 = λ terrain R L v step unit h. gives (rw (taken 1001 R (lit≤ tt) h));
      widening_3501 = λ terrain R L v step unit. gives refl;
    }

pub boundaries : Boundaries
unfolding rounded profiles profile_at clothoids least_length outer_slope outer_edge outer_brow inner_slope widening inner_edge inner_shoulder shoulder_slope inner_brow axis_from moved_from row joined rows refusal reply_number reply_by reply_to table_by table_after edges
boundaries =
    record {
      own = refl;
      table_48 = refl;
      table_49 = refl;
      table_none = refl;
      kept_after = refl;
      kept_short = refl;
      six_rows = refl;
      steep_row = refl;
      left_row = refl;
      kept_row = refl;
      widest_left_row = refl;
      widest_kept_row = refl;
    }
