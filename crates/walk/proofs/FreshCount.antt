-- The count of rows that are worked afresh is one number only, and of an accepted card 2 to 5.
-- Assumes nothing.
use mathlib.Core.Path.{◌≡◌, refl, sym, ◌∙◌}
use mathlib.Core.Bool.{Bool, true, false, cond}
use mathlib.Core.Logic.{◌⊎◌, inl, inr}
use Prim.Native.Nat.{ℕ, ◌*◌, ◌≤◌, ◌<◌}
use native.Mathlib.Numerals.{add-one}
use native.Mathlib.Decide.{dec_lt}
use native.Mathlib.Omega.{arith}
use Rattle.card.specs.declared.Card.{Card}
use Rattle.card.specs.Reasons.{first}
use Rattle.card.specs.Rows.{multiples_below}
use Rattle.card.proofs.RowPlaces.{counts_multiples}
use Rattle.card.proofs.Replies.{number_own}
use Rattle.section.specs.Lines.{Section, section_of, is_even}
use Rattle.changes.specs.Rules.{inner_slope_rule, shoulder_slope_rule, inner_shoulder_rule}
use Rattle.changes.specs.Closed.{changes, change_num, change_den}
use Rattle.runoff.specs.Refusal.{own_tests, refusal}
use Rattle.runoff.specs.Rows.{row_count, row_width}
use Rattle.runoff.specs.Table.{reply_number}
use Rattle.runoff.proofs.Accepts.{accepted, accepted_rule}
use Rattle.walk.specs.Fresh.{Afresh, Counted, FreshRows, FreshRule, FreshTheorem, first_row, last_row}
use Rattle.walk.specs.Turns.{joint_turn, turn, turns_in, last_of}
use Rattle.walk.proofs.Counting.{counted_only, counted_two, counted_five, Five}
use Rattle.walk.proofs.FreshPieces.{Piece, afresh_begins}

-- ---- in two stages the inner slope changes sides at the joint; evenly there is no joint
abbrev joint_or_inner : Section → ℕ → ℕ → ℕ
joint_or_inner x step last = cond (is_even x) (turn inner_slope_rule x step last) (joint_turn x step last)

module _ (x : Section) (step last : ℕ) where
  abbrev One : ℕ → Type 0
  One j = (j ≡ last) ⊎ (j ≡ joint_or_inner x step last)

  joint_is : (even : Bool) → is_even x ≡ even → One (joint_turn x step last)
  unfolding joint_turn
  joint_is true e = inl (rw e refl)
  joint_is false e = inr (rw e refl)

  inner_is : (even changed : Bool) → is_even x ≡ even → changes inner_slope_rule x ≡ changed → One (turn inner_slope_rule x step last)
  unfolding joint_turn turn change_num change_den
  inner_is true t e f = inr (rw e refl)
  inner_is false true e f = inr (rw (e, f) refl)
  inner_is false false e f = inl (rw f refl)

module _ (card : Card) (passes : refusal card ≡ 0) where
  -- ---- at most five: row 0, the last, and those past the joint or the inner slope's change, the shoulder slope's and the inner shoulder's
  abbrev FiveRows : ℕ → Type 0
  FiveRows =
      Five (Afresh card) 0 (last_of card) (joint_or_inner (section_of card) card.step (last_of card))
      (turn shoulder_slope_rule (section_of card) card.step (last_of card)) (turn inner_shoulder_rule (section_of card) card.step (last_of card))

  last_or_one : {j k : ℕ} → j ≡ k → One (section_of card) card.step (last_of card) k → FiveRows j
  last_or_one e (inl f) = inr (inl (e ∙ f))
  last_or_one e (inr f) = inr (inr (inl (e ∙ f)))

  five_pieces : (j : ℕ) → j < row_count card → Piece card passes j → FiveRows j
  unfolding turns_in
  five_pieces j h (inl (inl (inl (inl (inl e))))) = absurd (omega arith)
  five_pieces j h (inl (inl (inl (inl (inr e))))) = inr (inl e)
  five_pieces j h (inl (inl (inl (inr e)))) = last_or_one e (joint_is _ _ _ _ refl)
  five_pieces j h (inl (inl (inr e))) = last_or_one e (inner_is _ _ _ _ _ refl refl)
  five_pieces j h (inl (inr e)) = inr (inr (inr (inl e)))
  five_pieces j h (inr e) = inr (inr (inr (inr e)))

  five_rows : (j : ℕ) → j < row_count card → Afresh card j → FiveRows j
  five_rows j h f = go (dec_lt 0 j)
    where
      go : Dec (0 < j) → FiveRows j
      go (yes g) = five_pieces j h (afresh_begins card passes j g f)
      go (no g) = inl (omega arith)

  most : {n : ℕ} → Counted (Afresh card) (row_count card) n → n ≤ 5
  most {n} f = counted_five (Afresh card) _ _ _ _ _ (row_count card) n five_rows f

  -- ---- row 0 and the last are two
  least : {n : ℕ} → Counted (Afresh card) (row_count card) n → 2 ≤ n
  least {n} f =
      let m : ℕ = multiples_below card.clothoid card.step in
      let long : 0 * card.step < card.clothoid = omega (arith, (accepted_rule card).long passes) in
      let some : 0 < m = (counts_multiples card.clothoid card.step 0 (omega (arith, (accepted card passes).after.step_least))).1 long in
      counted_two (Afresh card) m n some (first_row refl) (last_row refl) (rw (add-one m) at f)

-- ---- a card that is answered 0 is accepted
passes_all : (card : Card) (room : ℕ) → reply_number card room ≡ 0 → refusal card ≡ 0
unfolding reply_number refusal
passes_all card room e = go (dec_lt 0 (first (own_tests card)))
  where
    go : Dec (0 < first (own_tests card)) → first (own_tests card) ≡ 0
    go (yes h) = absurd (omega (arith, e, number_own (own_tests card) refl row_width (row_count card) room (λ z. omega arith)))
    go (no h) = omega arith

module _ (card : Card) (room n : ℕ) (f : FreshRows card room n) where
  rule_by : Dec (0 < reply_number card room) → FreshRule card room n
  rule_by (yes h) =
      let ne : reply_number card room ≡ 0 → ⊥ = λ e. omega arith in
      let none : n ≡ 0 = f.refused ne in
      record { only = λ m g. g.refused ne ∙ sym none; least = λ e. absurd (ne e); most = omega arith }
  rule_by (no h) =
      let e : reply_number card room ≡ 0 = omega arith in
      let passes = passes_all card room e in
      record {
        only = λ m g. counted_only (Afresh card) (row_count card) n m (f.accepted e) (g.accepted e);
        least = λ _. least card passes (f.accepted e);
        most = most card passes (f.accepted e);
      }

pub fresh_theorem : FreshTheorem
fresh_theorem card room n f = rule_by card room n f (dec_lt 0 (reply_number card room))
