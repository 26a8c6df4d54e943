-- Document 02, Slip 5: "The card list takes thirteen signed numbers a curve: the ten as before, then 0 or 1 for absolute, the height and the
-- grade, both 0 where relative". Document 01, "The book of cards": the ten are the byte place of the name from 0, its length, the eight
-- numbers. What a curve of a list is, whatever numbers stand there: its card, and its name.
-- Assumes nothing.
use Rattle.std.specs.Prelude.{ℕ, zero, suc, ◌+◌, ◌*◌, ◌≡◌, List, [], ◌∷◌, map, ℤ, pos, negsuc, get_or, take, drop}
use Rattle.card.specs.declared.Card.{Card}
use Rattle.card.specs.declared.Datum.{Datum}
use Rattle.card.specs.declared.Datum.TheVariants.{Relative, Absolute}
use Rattle.card.specs.Card.{card_on, card, absolute_card}
use Rattle.card_list.specs.declared.NamePlace.{NamePlace}

-- thirteen numbers a curve
abbrev pub curve_width : ℕ
curve_width = 13

-- one of the card's eight; below 0 it counts as the greatest unsigned number of 32 bits, which every reason refuses
abbrev pub counted : ℤ → ℕ
counted (pos n) = n
counted (negsuc n) = 4294967295

-- relative where the mark is 0, whatever stands beside it; absolute with any other mark
abbrev pub datum_of : ℤ → ℤ → ℤ → Datum
datum_of (pos zero) height grade = Relative
datum_of (pos (suc n)) height grade = Absolute height grade
datum_of (negsuc n) height grade = Absolute height grade

-- the number at a place of a list, and 0 past its end
abbrev pub number_of : List ℤ → ℕ → ℤ
number_of list at = get_or list at (pos 0)

-- mark, height and grade stand from a place on
unfoldable pub datum_from : List ℤ → ℕ → Datum
datum_from list at = datum_of (number_of list at) (number_of list (at + 1)) (number_of list (at + 2))

-- the card whose eleven numbers stand in a list from a place on: profile, terrain, radius, clothoid length, full slope, full widening, step,
-- unit; mark, height, grade
unfoldable pub card_from : List ℤ → ℕ → Card
card_from list at =
    card_on
    (datum_from list (at + 8))
    (counted (number_of list at))
    (counted (number_of list (at + 1)))
    (counted (number_of list (at + 2)))
    (counted (number_of list (at + 3)))
    (counted (number_of list (at + 4)))
    (counted (number_of list (at + 5)))
    (counted (number_of list (at + 6)))
    (counted (number_of list (at + 7)))

-- the card with these eleven numbers
abbrev pub card_of : List ℤ → Card
card_of numbers = card_from numbers 0

-- eight numbers of a card, then the mark, the height and the grade
abbrev pub eleven : (profile terrain R L v W step unit : ℕ) → (mark height grade : ℤ) → List ℤ
eleven profile terrain R L v W step unit mark height grade =
    pos profile ∷ pos terrain ∷ pos R ∷ pos L ∷ pos v ∷ pos W ∷ pos step ∷ pos unit ∷ mark ∷ height ∷ grade ∷ []

-- THEOREM (proofs/ElevenNumbers.antt): they are the card's, in the card's order
pub record ElevenNumbers : Type 0 where
  -- beside mark 0 height and grade are not looked at
  pub relative : (profile terrain R L v W step unit : ℕ) (height grade : ℤ)
      → card_of (eleven profile terrain R L v W step unit (pos 0) height grade) ≡ card profile terrain R L v W step unit
  -- with 1, and with any other mark, the card is absolute and carries both
  pub absolute : (profile terrain R L v W step unit : ℕ) (mark height grade : ℤ) → (mark ≡ pos 0 → ⊥)
      → card_of (eleven profile terrain R L v W step unit mark height grade) ≡ absolute_card profile terrain R L v W step unit height grade
  -- each of the eight below 0 counts as 4294967295
  pub below : (a b c d e f g h : ℕ) (height grade : ℤ)
      → card_of (negsuc a ∷ negsuc b ∷ negsuc c ∷ negsuc d ∷ negsuc e ∷ negsuc f ∷ negsuc g ∷ negsuc h ∷ pos 0 ∷ height ∷ grade ∷ [])
      ≡ card 4294967295 4294967295 4294967295 4294967295 4294967295 4294967295 4294967295 4294967295

-- the cards of a list of such bodies, in order
abbrev pub cards_of : List (List ℤ) → List Card
cards_of bodies = map card_of bodies

-- THEOREM (proofs/ElevenNumbers.antt): each body's card, one after the other
pub record CardsInOrder : Type 0 where
  pub none : cards_of [] ≡ []
  pub more : (body : List ℤ) (bodies : List (List ℤ)) → cards_of (body ∷ bodies) ≡ card_of body ∷ cards_of bodies

-- the card of a curve in a list, counted from 0: behind the place and the length of its name
abbrev pub card_in : List ℤ → ℕ → Card
card_in list curve = card_from list (curve_width * curve + 2)

-- a name's place and its length; a place or a length below 0 names no byte, and both are 0 then
abbrev pub name_place_of : ℤ → ℤ → NamePlace
name_place_of (pos place) (pos size) = record { place = place; size = size }
name_place_of (pos place) (negsuc n) = record { place = 0; size = 0 }
name_place_of (negsuc n) size = record { place = 0; size = 0 }

-- where the name of a curve in a list stands in the text, and how many bytes it has
unfoldable pub name_place_in : List ℤ → ℕ → NamePlace
name_place_in list curve = name_place_of (number_of list (curve_width * curve)) (number_of list (curve_width * curve + 1))

-- the bytes of a name that stands at a place of the text
abbrev pub name_bytes : List ℕ → NamePlace → List ℕ
name_bytes text name = take name.size (drop name.place text)

-- the name of a curve in a list, counted from 0
abbrev pub name_in : List ℕ → List ℤ → ℕ → List ℕ
name_in text list curve = name_bytes text (name_place_in list curve)
