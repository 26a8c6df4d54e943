-- The number of what a card is made into is the number of its first reason.
-- Assumes nothing.
use mathlib.Core.Path.{◌≡◌, refl, sym, ap, ◌∙◌}
use Rattle.std.proofs.Common.{rules}
use mathlib.Core.Bool.{Bool, true, false, cond}
use Prim.Native.Nat.{ℕ}
use lib.Dec.{eqb}
use borrow.Author.Tests.{eqb-true, ne_eqb}
use Rattle.card.specs.declared.Card.{Card}
use Rattle.card.specs.declared.reasons.Refusal.{Refusal}
use Rattle.card.specs.Told.{refusal_number}
use Rattle.card.proofs.Told.{not_nought}
use Rattle.runoff.specs.declared.Runoff.{Runoff}
use Rattle.std.specs.Prelude.{Ok, Err}
use Rattle.runoff.specs.Refusal.{refusal}
use Rattle.runoff.specs.Runoff.{runoff_of, made_of, number_of, MadeTheorem}

by_case : (b : Bool) (n : ℕ) (r : Runoff) → eqb n 0 ≡ b → number_of (cond b (Ok r) (Err n)) ≡ n
by_case true n r e = sym (eqb-true n 0 e)
by_case false n r e = refl

pub made_number : MadeTheorem
unfolding made_of
made_number card = by_case (eqb (refusal card) 0) (refusal card) (runoff_of card) refl

-- what a card is made into, by the answer of its check
pub accepts : (card : Card) → 0 ≡ refusal card → Ok (runoff_of card) ≡ made_of card
unfolding made_of
accepts card is = rw (sym is)

pub refuses : (card : Card) (e : Refusal) → refusal_number e ≡ refusal card → Err (refusal_number e) ≡ made_of card
unfolding made_of
refuses card e is = ap Err is ∙ rw (ne_eqb (refusal card) 0 (λ z. not_nought e (is ∙ z)))

-- and the other way round
pub made_accepted : (card : Card) (r : Runoff) → Ok r ≡ made_of card → (refusal card ≡ 0) × (r ≡ runoff_of card)
unfolding made_of
made_accepted card r is = by_answer (eqb (refusal card) 0) refl is
  where
    by_answer :
        (b : Bool) → eqb (refusal card) 0 ≡ b → Ok r ≡ cond b (Ok (runoff_of card)) (Err (refusal card)) →
        (refusal card ≡ 0) × (r ≡ runoff_of card)
    by_answer true e same = (eqb-true (refusal card) 0 e, search rules)
    by_answer false e same = search rules

pub made_refused : (card : Card) (e : Refusal) → Err (refusal_number e) ≡ made_of card → refusal_number e ≡ refusal card
made_refused card e is = ap number_of is ∙ made_number card
