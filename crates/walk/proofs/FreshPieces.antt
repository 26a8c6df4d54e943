-- The rows at which a piece of an accepted card begins are those that are worked afresh.
-- Assumes nothing.
use mathlib.Core.Path.{◌≡◌, refl, sym, ◌∙◌}
use mathlib.Core.Bool.{Bool, true, false}
use mathlib.Core.Logic.{inl, inr}
use Prim.Native.Nat.{ℕ, ◌*◌, ◌≤◌, ◌<◌}
use native.Mathlib.Omega.{arith}
use borrow.Author.Tests.{leb-false}
use Rattle.exact.specs.Exact.{Exact}
use Rattle.exact.proofs.Shifts.{≈-refl}
use Rattle.card.specs.declared.Card.{Card}
use Rattle.card.specs.Profile.{added_of}
use Rattle.section.specs.Lines.{Section, section_of, is_even, joint, joint_num, joint_den}
use Rattle.section.proofs.EdgePieces.{joint_before}
use Rattle.changes.specs.Rules.{Rule, inner_slope_rule, shoulder_slope_rule, inner_shoulder_rule, ChangesSides}
use Rattle.changes.specs.Closed.{changes, change_num, change_den, change_at, ChangeRule}
use Rattle.changes.proofs.Changing.{change_theorem}
use Rattle.runoff.specs.Refusal.{refusal}
use Rattle.runoff.specs.Rows.{row_count}
use Rattle.runoff.proofs.Accepts.{accepted}
use Rattle.walk.specs.Fresh.{Afresh, FirstPast, CardChangeTheorem, first_row, last_row, past_joint, past_change}
use Rattle.walk.specs.Turns.{row_past, joint_turn, turn, turns_in, last_of, turns_of, end_of}
use Rattle.walk.proofs.Premises.{change_premises}
use Rattle.walk.proofs.FirstRows.{same_first, found_first, first_found}
use Rattle.walk.proofs.PieceEnds.{NextOf, Begins, piece_of}

-- a station where a rule changes sides is a fraction over a number above nought
change_some : (rule : Rule) (x : Section) (z : Exact) → ChangesSides rule x z → 0 < z.den
change_some rule x z (inl c) = c.fraction
change_some rule x z (inr c) = c.fraction

-- the rules of an accepted card change sides where their closed forms say
pub card_change_theorem : CardChangeTheorem
card_change_theorem card passes = change_theorem (added_of card) (section_of card) (change_premises card passes)

module _ (card : Card) (passes : refusal card ≡ 0) where
  abbrev x : Section
  x = section_of card

  apart : 1 ≤ card.step
  apart = omega (arith, (accepted card passes).after.step_least)

  last_afresh : {j : ℕ} → j ≡ last_of card → Afresh card j
  last_afresh e = last_row (omega arith)

  -- ---- past the joint of two stages
  joint_row : is_even x ≡ false → joint_turn x card.step (last_of card) ≡ row_past (joint_num x) joint_den card.step (last_of card)
  unfolding joint_turn
  joint_row e = rw e refl

  joint_inside : is_even x ≡ false → joint_num x < joint_den * x.L
  joint_inside e = joint_before x (leb-false _ _ e) (change_premises card passes).climb.turned

  joint_afresh : {j : ℕ} (even : Bool) → is_even x ≡ even → j ≡ joint_turn x card.step (last_of card) → Afresh card j
  unfolding joint_turn
  joint_afresh true e is = last_afresh (rw e at is)
  joint_afresh false e is = past_joint e (rw (is ∙ joint_row e) (found_first card _ _ apart (omega arith) (joint_inside e)))

  afresh_joint : {j : ℕ} → is_even x ≡ false → FirstPast card (joint x) j → j ≡ joint_turn x card.step (last_of card)
  afresh_joint e f = first_found card _ _ apart (omega arith) (joint_inside e) f ∙ sym (joint_row e)

  -- ---- past a change of sides
  module _ (rule : Rule) where
    of_rule : ChangeRule rule x
    of_rule = card_change_theorem card passes rule

    change_row : changes rule x ≡ true → turn rule x card.step (last_of card) ≡ row_past (change_num rule x) (change_den rule x) card.step (last_of card)
    unfolding turn
    change_row e = rw e refl

    change_afresh : {j : ℕ} (changed : Bool) → changes rule x ≡ changed → j ≡ turn rule x card.step (last_of card) → Afresh card j
    unfolding turn
    change_afresh false e is = last_afresh (rw e at is)
    change_afresh true e is =
        past_change rule (change_at rule x) ((of_rule.exactly (change_at rule x) (of_rule.fraction e)).1 (e, ≈-refl _ (of_rule.fraction e)))
        (rw (is ∙ change_row e) (found_first card _ _ apart (of_rule.fraction e) ((of_rule.inside e).1)))

    afresh_change : {j : ℕ} (z : Exact) → ChangesSides rule x z → FirstPast card z j → j ≡ turn rule x card.step (last_of card)
    afresh_change z c f =
        let d = change_some rule x z c in
        let at = (of_rule.exactly z d).0 c in
        first_found card _ _ apart (of_rule.fraction at.0) ((of_rule.inside at.0).1) (same_first d (of_rule.fraction at.0) at.1 f) ∙ sym (change_row at.0)

  -- ---- the rows past row 0
  abbrev pub Piece : ℕ → Type 0
  Piece = Begins (turns_of card) (row_count card)

  begins_afresh : (j : ℕ) → j < row_count card → Piece j → Afresh card j
  unfolding turns_in
  begins_afresh j h (inl (inl (inl (inl (inl e))))) = absurd (omega arith)
  begins_afresh j h (inl (inl (inl (inl (inr e))))) = last_afresh e
  begins_afresh j h (inl (inl (inl (inr e)))) = joint_afresh (is_even x) refl e
  begins_afresh j h (inl (inl (inr e))) = change_afresh inner_slope_rule (changes inner_slope_rule x) refl e
  begins_afresh j h (inl (inr e)) = change_afresh shoulder_slope_rule (changes shoulder_slope_rule x) refl e
  begins_afresh j h (inr e) = change_afresh inner_shoulder_rule (changes inner_shoulder_rule x) refl e

  pub afresh_begins : (j : ℕ) → 0 < j → Afresh card j → Piece j
  unfolding turns_in
  afresh_begins j h (first_row e) = absurd (omega arith)
  afresh_begins j h (last_row e) = inl (inl (inl (inl (inr (omega arith)))))
  afresh_begins j h (past_joint e f) = inl (inl (inl (inr (afresh_joint e f))))
  afresh_begins j h (past_change inner_slope_rule z c f) = inl (inl (inr (afresh_change inner_slope_rule z c f)))
  afresh_begins j h (past_change shoulder_slope_rule z c f) = inl (inr (afresh_change shoulder_slope_rule z c f))
  afresh_begins j h (past_change inner_shoulder_rule z c f) = inr (afresh_change inner_shoulder_rule z c f)

  -- ---- the piece that begins with row i
  module _ (i : ℕ) (begun : i < row_count card) where
    piece : NextOf Piece (row_count card) i (end_of card i)
    piece = piece_of card i begun

    pub none_between : (j : ℕ) → i < j → j < end_of card i → ¬ Afresh card j
    none_between j h g f = piece.none j h g (afresh_begins j (omega arith) f)

    pub end_fresh : end_of card i < row_count card → Afresh card (end_of card i)
    end_fresh h = begins_afresh (end_of card i) h piece.among
