-- Document 01, "The book of cards": a body is the eight numbers with one blank between, ended by byte 10. Document 02, Slip 5: "an absolute
-- body has ten numbers, the last two with an optional minus before a number other than 0; an eight-number body is relative".
-- Assumes nothing.
use Rattle.std.specs.Prelude.{ℕ, zero, suc, List, [], ◌∷◌, ℤ, pos, Option, Some, None, Ok, Err}
use Rattle.book.specs.Number.{number_at, signed_at, field_value, field_next, Field, SignedField}
use Rattle.book.specs.Contents.{Line}
use Rattle.book.specs.declared.Fault.TheVariants.{Body}

-- a card has eleven numbers: the eight; the mark, 0 for relative and 1 for absolute; height and grade, both 0 where relative
abbrev pub card_numbers : ℕ
card_numbers = 11

-- the last of the eight is the unit: the seven before it have a blank after them in every body
abbrev pub front_numbers : ℕ
front_numbers = 7

-- the byte after a number with k numbers of the line after it: byte 10 ends the line, a blank stands before another number
abbrev pub end_of : ℕ → ℕ
end_of zero = 10
end_of (suc k) = 32

-- the last four of a card's eleven numbers, and the place after the body
abbrev pub LastNumbers : Type 0
LastNumbers = Option (List ℤ × ℕ)

-- the grade of an absolute body ends the line
abbrev pub graded : ℕ → ℤ → SignedField → LastNumbers
graded unit height (Some (grade, next)) = Some (pos unit ∷ pos 1 ∷ height ∷ grade ∷ [], next)
graded unit height None = None

-- its height stands before the grade
abbrev pub surveyed : List ℕ → ℕ → SignedField → LastNumbers
surveyed text unit (Some (height, next)) = graded unit height (signed_at text next 10)
surveyed text unit None = None

-- ten numbers: a blank stands after the unit
abbrev pub absolute_last : List ℕ → Field → LastNumbers
absolute_last text (Some (unit, next)) = surveyed text unit (signed_at text next 32)
absolute_last text None = None

-- eight numbers: byte 10 stands after the unit; else ten
abbrev pub relative_or : List ℕ → ℕ → Field → LastNumbers
relative_or text at (Some (unit, next)) = Some (pos unit ∷ pos 0 ∷ pos 0 ∷ pos 0 ∷ [], next)
relative_or text at None = absolute_last text (number_at text at 32)

-- the last four of a card's eleven numbers, and the place after the line; the unit stands at this place
unfoldable pub last_at : List ℕ → ℕ → LastNumbers
last_at text at = relative_or text at (number_at text at 10)

-- 26 where a number is malformed, else what follows it
abbrev pub field_then : Field → (ℕ → Line) → Line
field_then (Some (v, next)) go = go next
field_then None go = Err Body

abbrev pub last_line : LastNumbers → Line
last_line (Some (numbers, next)) = Ok next
last_line None = Err Body

-- a body with k numbers left before the unit
unfoldable pub body_from : ℕ → List ℕ → ℕ → Line
body_from zero text at = last_line (last_at text at)
body_from (suc k) text at = field_then (number_at text at 32) (λ p. body_from k text p)

-- the last four, of malformed ones 0, and the place after them
abbrev pub last_values : LastNumbers → List ℤ
last_values (Some (numbers, next)) = numbers
last_values None = pos 0 ∷ pos 0 ∷ pos 0 ∷ pos 0 ∷ []

abbrev pub last_next : ℕ → LastNumbers → ℕ
last_next at (Some (numbers, next)) = next
last_next at None = at

-- the card's numbers from there on, and the place after the body
unfoldable pub numbers_at : ℕ → List ℕ → ℕ → List ℤ
numbers_at zero text at = last_values (last_at text at)
numbers_at (suc k) text at = pos (field_value (number_at text at 32)) ∷ numbers_at k text (field_next at (number_at text at 32))

unfoldable pub after_numbers : ℕ → List ℕ → ℕ → ℕ
after_numbers zero text at = last_next at (last_at text at)
after_numbers (suc k) text at = after_numbers k text (field_next at (number_at text at 32))
