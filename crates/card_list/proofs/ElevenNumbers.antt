-- The card of eleven numbers has them in the card's order, and the cards of bodies are in the order of these.
-- Assumes nothing.
use Prim.Native.Nat.{ℕ, zero, suc}
use mathlib.Core.Path.{◌≡◌, refl}
use lib.IntN.{ℤ, pos, negsuc}
use Rattle.card.specs.Card.{absolute_card}
use Rattle.card_list.specs.List.{datum_from, card_from, card_of, eleven, ElevenNumbers, CardsInOrder}

absolute : (profile terrain R L v W step unit : ℕ) (mark height grade : ℤ) → (mark ≡ pos 0 → ⊥)
    → card_of (eleven profile terrain R L v W step unit mark height grade) ≡ absolute_card profile terrain R L v W step unit height grade
unfolding card_from datum_from
absolute profile terrain R L v W step unit (pos zero) height grade h = absurd (h refl)
absolute profile terrain R L v W step unit (pos (suc n)) height grade h = refl
absolute profile terrain R L v W step unit (negsuc n) height grade h = refl

pub eleven_numbers : ElevenNumbers
unfolding card_from datum_from
eleven_numbers = record {
  relative = λ profile terrain R L v W step unit height grade. refl;
  absolute = absolute;
  below = λ a b c d e f g h height grade. refl;
}

pub cards_in_order : CardsInOrder
cards_in_order = record { none = refl; more = λ body bodies. refl }
