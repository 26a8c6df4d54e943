-- Document 01, "The book of cards", and document 02, Slip 5: the text of a book, from the names and numbers of its curves.
-- Assumes nothing.
use Rattle.std.specs.Prelude.{ℕ, zero, suc, ◌+◌, ◌≤◌, ◌<◌, ◌≡◌, List, [], ◌∷◌, ◌++◌, map, Bool, true, false, cond, ℤ, pos, negsuc, nat_abs, length, get_or, take}
use Rattle.decimal.specs.Decimal.{Each, digits_text}
use Rattle.book.specs.Name.{is_name_byte}
use Rattle.book.specs.Body.{card_numbers, end_of}
use Rattle.book.specs.Book.{most_curves}

-- a number of 1 to 7 digits and the byte that ends it
abbrev pub number_text : ℕ → ℕ → List ℕ
number_text v end = digits_text 7 v ++ (end ∷ [])

-- a contents line: name, one blank, the line of its body
abbrev pub contents_text : List ℕ → ℕ → List ℕ
contents_text name line = name ++ (32 ∷ number_text line 10)

-- of a signed number: a minus (byte 45) before numbers below nought; `negsuc n` is −(n + 1)
unfoldable pub signed_number_text : ℤ → ℕ → List ℕ
signed_number_text (pos n) end = number_text n end
signed_number_text (negsuc n) end = 45 ∷ number_text (suc n) end

-- numbers with one blank between, and byte 10 after the last
unfoldable pub numbers_text : List ℤ → List ℕ
numbers_text [] = []
numbers_text (z ∷ numbers) = signed_number_text z (end_of (length numbers)) ++ numbers_text numbers

-- of the eleven numbers of a card: the eight, the mark, height and grade
abbrev pub eight_of : List ℤ → List ℤ
eight_of numbers = take 8 numbers

abbrev pub mark_of : List ℤ → ℤ
mark_of numbers = get_or numbers 8 (pos 0)

abbrev pub height_of : List ℤ → ℤ
height_of numbers = get_or numbers 9 (pos 0)

abbrev pub grade_of : List ℤ → ℤ
grade_of numbers = get_or numbers 10 (pos 0)

abbrev pub is_nought : ℤ → Bool
is_nought (pos zero) = true
is_nought (pos (suc n)) = false
is_nought (negsuc n) = false

-- those that a body has: the eight where the mark is 0, else height and grade too
unfoldable pub shown_numbers : List ℤ → List ℤ
shown_numbers numbers = eight_of numbers ++ cond (is_nought (mark_of numbers)) [] (height_of numbers ∷ grade_of numbers ∷ [])

-- a body
unfoldable pub body_text : List ℤ → List ℕ
body_text numbers = numbers_text (shown_numbers numbers)

-- contents lines in order; the first of them names this line, the next the next one
unfoldable pub contents_texts : ℕ → List (List ℕ) → List ℕ
contents_texts line [] = []
contents_texts line (name ∷ names) = contents_text name line ++ contents_texts (line + 1) names

-- bodies in order
unfoldable pub body_texts : List (List ℤ) → List ℕ
body_texts [] = []
body_texts (numbers ∷ bodies) = body_text numbers ++ body_texts bodies

-- the first lines of a book of n curves: the count, some contents lines and some bodies
abbrev pub lines_text : ℕ → List (List ℕ) → List (List ℤ) → List ℕ
lines_text n names bodies = number_text n 10 ++ (contents_texts (n + 2) names ++ body_texts bodies)

-- a curve of a book: the bytes of its name, and the eleven numbers of its card
pub record Curve : Type 0 where
  pub name : List ℕ
  pub numbers : List ℤ

abbrev pub names_of : List Curve → List (List ℕ)
names_of = map (λ (curve : Curve). curve.name)

abbrev pub bodies_of : List Curve → List (List ℤ)
bodies_of = map (λ (curve : Curve). curve.numbers)

-- the whole book: n is the count of curves
unfoldable pub book_text : List Curve → List ℕ
book_text curves = lines_text (length curves) (names_of curves) (bodies_of curves)

-- no book has more bytes: 64 curves, their names of 8 bytes in lines of 2 and 3 digits, their ten numbers of 7 digits, the last
-- two of them below nought
abbrev pub greatest_book : ℕ
greatest_book = 6049

-- a name: 1 to 8 capitals or digits
pub record IsName (name : List ℕ) : Type 0 where
  pub some : 1 ≤ length name
  pub short : length name ≤ 8
  pub bytes : Each (λ b. is_name_byte b ≡ true) name

-- a number: 1 to 7 digits
abbrev pub IsNumber : ℕ → Type 0
IsNumber v = v < 10000000

-- not below nought, and 1 to 7 digits; of either sign, and 1 to 7 digits: the minus is no digit
abbrev pub IsCount : ℤ → Type 0
IsCount (pos n) = IsNumber n
IsCount (negsuc n) = ⊥

abbrev pub IsSigned : ℤ → Type 0
IsSigned z = IsNumber (nat_abs z)

-- mark, height and grade: mark 0 and both 0, or mark 1 and two numbers of either sign
abbrev pub IsDatum : ℤ → ℤ → ℤ → Type 0
IsDatum (pos zero) height grade = (height ≡ pos 0) × (grade ≡ pos 0)
IsDatum (pos (suc zero)) height grade = IsSigned height × IsSigned grade
IsDatum (pos (suc (suc n))) height grade = ⊥
IsDatum (negsuc n) height grade = ⊥

-- the eleven numbers of a card that has a body
pub record IsBody (numbers : List ℤ) : Type 0 where
  pub eleven : length numbers ≡ card_numbers
  pub eight : Each IsCount (eight_of numbers)
  pub datum : IsDatum (mark_of numbers) (height_of numbers) (grade_of numbers)

-- no name stands in an earlier contents line
abbrev pub Differs : List ℕ → List ℕ → Type 0
Differs name other = name ≡ other → ⊥

unfoldable pub NoTwins : List (List ℕ) → Type 0
NoTwins [] = Unit
NoTwins (name ∷ names) = Each (Differs name) names × NoTwins names

-- the curves of a book: 1 to 64
pub record IsBook (curves : List Curve) : Type 0 where
  pub some : 1 ≤ length curves
  pub few : length curves ≤ most_curves
  pub names : Each IsName (names_of curves)
  pub bodies : Each IsBody (bodies_of curves)
  pub twins : NoTwins (names_of curves)
