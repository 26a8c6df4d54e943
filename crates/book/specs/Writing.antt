-- Document 02, Slip 4, "Write the book as well as read it": "a writer from a list as the reader gives it ... and the bytes its name places count
-- in, to the book's bytes in a lent buffer". Slip 5: thirteen signed numbers a curve; "33 also meets a mark not 0 or 1, one of the eight below 0,
-- and a height or grade beside mark 0". What they are answered, and the buffer afterwards.
-- Assumes nothing.
use Rattle.std.specs.Prelude.{ℕ, zero, suc, ◌+◌, ◌/◌, ◌%◌, List, [], ◌∷◌, ◌++◌, Bool, true, false, cond, not, ◌&&◌, ◌||◌, eqb, ℤ, pos, negsuc, nat_abs, length, drop}
use Rattle.card.specs.Table.{Reply}
use Rattle.card.specs.Words.{◌below◌, ◌above◌, outside}
use Rattle.card.specs.Reasons.{Test, test, first}
use Rattle.card.specs.Table.{reply_by}
use Rattle.card_list.specs.declared.NamePlace.{NamePlace}
use Rattle.card_list.specs.List.{curve_width, name_place_in, name_bytes}
use Rattle.book.specs.Name.{is_name_byte}
use Rattle.book.specs.Book.{most_curves}
use Rattle.book.specs.Printed.{Curve, names_of, bodies_of, book_text, eight_of, mark_of, height_of, grade_of, is_nought}
use Rattle.book.specs.Meaning.{curves_in}
use Rattle.book.specs.declared.ListRefusal.{ListRefusal}
use Rattle.book.specs.declared.ListRefusal.TheVariants.{WrongList, ListedTwin, ShortBuffer}

-- how many curves a list of `size` numbers has, thirteen numbers each
abbrev pub curve_count : ℕ → ℕ
curve_count size = size / curve_width

-- the curves of a list; a name is read in the bytes that its place counts in
abbrev pub curves_of : List ℤ → List ℕ → List Curve
curves_of list names = curves_in (curve_count (length list)) names list

-- 31: a list length not thirteen times 1 to 64
abbrev pub wrong_length : ℕ → Bool
wrong_length size = not (eqb (size % curve_width) 0) || outside (curve_count size) 1 most_curves

-- 31: "a malformed name": with a byte that is no capital and no digit, or not of 1 to 8 bytes
unfoldable pub has_other : List ℕ → Bool
has_other [] = false
has_other (b ∷ name) = not (is_name_byte b) || has_other name

abbrev pub is_malformed : List ℕ → Bool
is_malformed name = outside (length name) 1 8 || has_other name

-- 31: "or one outside those bytes": its place and its length reach past their end
abbrev pub is_outside : List ℕ → NamePlace → Bool
is_outside names at = (at.place + at.size) above length names

unfoldable pub is_wrong : List ℕ → NamePlace → Bool
is_wrong names at = is_outside names at || is_malformed (name_bytes names at)

-- one of the names of the first n curves of a list is so
unfoldable pub some_wrong : ℕ → List ℕ → List ℤ → Bool
some_wrong zero names list = false
some_wrong (suc n) names list = is_wrong names (name_place_in list 0) || some_wrong n names (drop curve_width list)

-- 32: "a twin name": two names have the same bytes, wherever they stand
unfoldable pub same_name : List ℕ → List ℕ → Bool
same_name [] [] = true
same_name [] (b ∷ other) = false
same_name (a ∷ name) [] = false
same_name (a ∷ name) (b ∷ other) = eqb a b && same_name name other

unfoldable pub is_one_of : List ℕ → List (List ℕ) → Bool
is_one_of name [] = false
is_one_of name (other ∷ names) = same_name name other || is_one_of name names

unfoldable pub has_twins : List (List ℕ) → Bool
has_twins [] = false
has_twins (name ∷ names) = is_one_of name names || has_twins names

-- 33: "a number above seven digits"; a minus is no digit
unfoldable pub has_long : List ℤ → Bool
has_long [] = false
has_long (z ∷ numbers) = nat_abs z above 9999999 || has_long numbers

-- 33: "a mark not 0 or 1"
abbrev pub wrong_mark : ℤ → Bool
wrong_mark (pos n) = n above 1
wrong_mark (negsuc n) = true

-- 33: "one of the eight below 0"
abbrev pub is_below : ℤ → Bool
is_below (pos n) = false
is_below (negsuc n) = true

unfoldable pub has_below : List ℤ → Bool
has_below [] = false
has_below (z ∷ numbers) = is_below z || has_below numbers

-- 33: "a height or grade beside mark 0"
abbrev pub beside_nought : ℤ → ℤ → ℤ → Bool
beside_nought mark height grade = is_nought mark && not (is_nought height && is_nought grade)

-- one of these in the numbers of a card, and in those of one of several
unfoldable pub is_unfit : List ℤ → Bool
is_unfit numbers =
    has_long numbers
    || (wrong_mark (mark_of numbers)
    || (has_below (eight_of numbers)
    || beside_nought (mark_of numbers) (height_of numbers) (grade_of numbers)))

unfoldable pub some_unfit : List (List ℤ) → Bool
some_unfit [] = false
some_unfit (numbers ∷ bodies) = is_unfit numbers || some_unfit bodies

-- each over the whole list: a list length not thirteen times 1 to 64, "a malformed name or one outside those bytes"
abbrev pub wrong_list : List ℤ → List ℕ → Bool
wrong_list list names = wrong_length (length list) || some_wrong (curve_count (length list)) names list

-- "a twin name"
abbrev pub twinned : List ℤ → List ℕ → Bool
twinned list names = has_twins (names_of (curves_of list names))

-- "a buffer that is shorter than the book or a number above seven digits", or a card's numbers that no body has; the buffer has `room` bytes
abbrev pub unwritable : List ℤ → List ℕ → ℕ → Bool
unwritable list names room = room below length (book_text (curves_of list names)) || some_unfit (bodies_of (curves_of list names))

-- "It refuses with 31 ..., with 32 ... and with 33 ..., tested in that order"
abbrev pub writer_tests : List ℤ → List ℕ → ℕ → List Test
writer_tests list names room =
    test 31 (wrong_list list names) ∷
    test 32 (twinned list names) ∷
    test 33 (unwritable list names room) ∷ []

unfoldable pub writer_number : List ℤ → List ℕ → ℕ → ℕ
writer_number list names room = first (writer_tests list names room)

-- "It gives number 0 and the count of bytes"; a refusal gives its number and count 0
unfoldable pub reply_to_list : List ℤ → List ℕ → ℕ → Reply
reply_to_list list names room = reply_by (writer_number list names room) (length (book_text (curves_of list names)))

-- the number of a refusal
abbrev pub list_refusal_number : ListRefusal → ℕ
list_refusal_number WrongList = 31
list_refusal_number ListedTwin = 32
list_refusal_number ShortBuffer = 33

-- "and later bytes are untouched. A refusal leaves the whole buffer untouched"
unfoldable pub buffer_after : List ℤ → List ℕ → List ℕ → List ℕ
buffer_after list names buffer =
    cond (eqb (writer_number list names (length buffer)) 0)
    (book_text (curves_of list names) ++ drop (length (book_text (curves_of list names))) buffer)
    buffer
