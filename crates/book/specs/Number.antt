-- Document 01, "The book of cards": numbers, each at a place of the text. A place counts bytes from 0.
-- Numbers are decimal, 1 to 7 digits, no leading zero but in 0 itself. Document 02, Slip 5: the last two of an absolute body have "an
-- optional minus before a number other than 0".
-- Assumes nothing.
use Rattle.std.specs.Prelude.{ℕ, zero, suc, ◌+◌, ◌*◌, List, cond, get_or, ltb, eqb, ℤ, pos, negsuc, Option, Some, None}
use Rattle.decimal.specs.Decimal.{digit_of}

-- the byte at a place; past the end 0, which stands in no well-formed line
abbrev pub byte_at : List ℕ → ℕ → ℕ
byte_at text at = get_or text at 0

-- the value of the digit at a place, and 10 where no digit stands
unfoldable pub digit_at : List ℕ → ℕ → ℕ
digit_at text at = digit_of (byte_at text at)

-- a number and the place after the byte that ends it, and the same of a signed number; None where there is none
abbrev pub Field : Type 0
Field = Option (ℕ × ℕ)

abbrev pub SignedField : Type 0
SignedField = Option (ℤ × ℕ)

-- the value v, if the byte `end` stands at this place, and the place after it
unfoldable pub ended_at : List ℕ → ℕ → ℕ → ℕ → Field
ended_at text at v end = cond (eqb (byte_at text at) end) (Some (v, at + 1)) None

-- at most k digits more after the value v, and then the byte `end`
unfoldable pub digits_at : ℕ → List ℕ → ℕ → ℕ → ℕ → Field
digits_at zero text at v end = ended_at text at v end
digits_at (suc k) text at v end =
    cond (ltb (digit_at text at) 10) (digits_at k text (at + 1) (v * 10 + digit_at text at) end) (ended_at text at v end)

-- a number and the byte `end`: 0 itself, or one to seven digits of which the first is not 0
unfoldable pub number_at : List ℕ → ℕ → ℕ → Field
number_at text at end =
    cond (ltb (digit_at text at) 10)
    (cond (eqb (digit_at text at) 0) (ended_at text (at + 1) 0 end) (digits_at 6 text (at + 1) (digit_at text at) end))
    None

-- the value of a number, and the place after it; of no number 0 and the same place
abbrev pub field_value : Field → ℕ
field_value (Some (v, next)) = v
field_value None = 0

abbrev pub field_next : ℕ → Field → ℕ
field_next at (Some (v, next)) = next
field_next at None = at

-- a number with no minus; one with a minus before it, which is not 0: `negsuc n` is −(n + 1)
abbrev pub plain_field : Field → SignedField
plain_field (Some (v, next)) = Some (pos v, next)
plain_field None = None

abbrev pub minus_field : Field → SignedField
minus_field (Some (zero, next)) = None
minus_field (Some (suc n, next)) = Some (negsuc n, next)
minus_field None = None

-- a signed number and the byte `end`: an optional minus (byte 45) before a number other than 0
unfoldable pub signed_at : List ℕ → ℕ → ℕ → SignedField
signed_at text at end =
    cond (eqb (byte_at text at) 45) (minus_field (number_at text (at + 1) end)) (plain_field (number_at text at end))
