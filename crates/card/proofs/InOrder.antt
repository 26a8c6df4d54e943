-- A card's own reasons: the shared ones before, a method's own, the shared ones after. Which number they give, and that none is met where it is 0.
-- Assumes nothing.
use mathlib.Core.Path.{◌≡◌, refl, sym, ap, ◌∙◌}
use mathlib.Core.Bool.{true}
use mathlib.Core.List.{List, ◌++◌}
use Prim.Native.Nat.{ℕ}
use Rattle.card.specs.declared.Card.{Card}
use Rattle.card.specs.Reasons.{Test, first, tests_before, tests_after, refusal_before, refusal_after}
use Rattle.card.proofs.Every.{every}
use Rattle.card.proofs.Tests.{numbered, then, first_then, then-first, then_none, before_then, after_first}

module _ (card : Card) (method : List Test) (named : every numbered method ≡ true) where
  abbrev pub own_number : ℕ
  own_number = first (tests_before card ++ (method ++ tests_after card))

  pub in_order : own_number ≡ then (refusal_before card) (then (first method) (refusal_after card))
  in_order =
      before_then card (method ++ tests_after card)
      ∙ ap (then (refusal_before card)) (first_then method (tests_after card) named ∙ ap (then (first method)) (after_first card))

  -- the first list that gives a number gives the card's
  pub by_before : {n : ℕ} → n ≡ refusal_before card → (n ≡ 0 → ⊥) → n ≡ own_number
  by_before is ne = is ∙ sym (in_order ∙ then-first _ _ (λ z. ne (is ∙ z)))

  pub by_method : {n : ℕ} → refusal_before card ≡ 0 → n ≡ first method → (n ≡ 0 → ⊥) → n ≡ own_number
  by_method none is ne = is ∙ sym (in_order ∙ rw none (then-first _ _ (λ z. ne (is ∙ z))))

  pub by_after : {n : ℕ} → refusal_before card ≡ 0 → first method ≡ 0 → n ≡ refusal_after card → n ≡ own_number
  by_after none own is = is ∙ sym (in_order ∙ rw (none, own) refl)

  -- what each list says of an accepted card
  pub record Lists : Type 0 where
    pub before : refusal_before card ≡ 0
    pub own : first method ≡ 0
    pub after : refusal_after card ≡ 0

  pub lists : own_number ≡ 0 → Lists
  lists e =
      let first_two = then_none _ _ (sym in_order ∙ e) in
      let last-two = then_none _ _ first_two.1 in
      record { before = first_two.0; own = last-two.0; after = last-two.1 }

  pub no_number : Lists → own_number ≡ 0
  no_number l = in_order ∙ rw (l.before, l.own, l.after)
