-- What the private functions of the reader promise: the names as numbers, by which twins are found, and the numbers of the curves
-- as they are drafted. Book.antt says what is read, and no public contract cites this file.
-- Assumes nothing.
use Rattle.std.specs.Prelude.{ℕ, zero, suc, ◌+◌, ◌*◌, List, [], ◌∷◌, ◌++◌, map, Bool, true, false, cond, ltb, eqb, ℤ, Option, Some, None, Result, Ok, Err, ◌≡◌, ◌≤◌, ◌<◌}
use Rattle.book.specs.Number.{byte_at, digit_at}
use Rattle.book.specs.Name.{name_run, name_at}
use Rattle.book.specs.Contents.{after_heading, Heading}
use Rattle.book.specs.Body.{front_numbers, after_numbers}
use Rattle.book.specs.Book.{most_bytes, entry_at}
use Rattle.book.specs.declared.Fault.{Fault}
use Rattle.book.specs.declared.text.End.{End}
use Rattle.book.specs.declared.text.End.TheVariants.{Line, Blank}
use Rattle.book.specs.declared.text.ReadName.{ReadName}
use Rattle.book.specs.declared.lines.KeptName.{KeptName}
use Rattle.book.specs.declared.Fault.TheVariants.{ContentsLine, WrongLine, TwinName}

-- the byte that ends a number: byte 10 at the end of a line, a blank before another number
abbrev pub byte_of : End → ℕ
byte_of Line = 10
byte_of Blank = 32

-- the digit at a place, where one stands
abbrev pub digit_read : List ℕ → ℕ → Option ℕ
digit_read text at = cond (ltb (digit_at text at) 10) (Some (digit_at text at)) None

-- the n bytes at a place as one number, each a digit to the base 256
unfoldable pub key_from : ℕ → List ℕ → ℕ → ℕ
key_from zero text at = 0
key_from (suc n) text at = key_from n text at * 256 + byte_at text (at + n)

-- the bytes of a name at a place, at most k of them and whatever stands after them: how many, and as one number, the key
abbrev pub run_at : ℕ → List ℕ → ℕ → ReadName
run_at k text at = record { size = name_run k text at; key = key_from (name_run k text at) text at }

-- of at most eight bytes: the key of the name
abbrev pub key_at : List ℕ → ℕ → ℕ
key_at text at = key_from (name_run 8 text at) text at

-- the name at a place: its size and its key, where one stands
abbrev pub read_at : List ℕ → ℕ → Option ReadName
read_at text at = cond (eqb (name_at text at) 0) None (Some (record { size = name_at text at; key = key_at text at }))

-- the keys of the names at several places
abbrev pub keys_at : List ℕ → List ℕ → List ℕ
keys_at text places = map (key_at text) places

-- the name at a place as it is kept: its place, its size and its key
abbrev pub kept_at : List ℕ → ℕ → KeptName
kept_at text at = record { place = at; size = name_at text at; key = key_at text at }

-- what is kept stands in the text, within the 8192 bytes of a book
abbrev pub IsKept : List ℕ → KeptName → Type 0
IsKept text name = (name.size ≡ name_at text name.place) × (0 < name.size) × (name.place + name.size ≤ most_bytes)

-- the places and the keys that are kept
abbrev pub places_of : List KeptName → List ℕ
places_of names = map (λ (name : KeptName). name.place) names

abbrev pub keys_of : List KeptName → List ℕ
keys_of names = map (λ (name : KeptName). name.key) names

-- whether a key is one of these
unfoldable pub among : List ℕ → ℕ → Bool
among [] key = false
among (other ∷ keys) key = cond (eqb other key) true (among keys key)

-- a contents line with this name, where `names` are those before
abbrev pub line_by : List KeptName → KeptName → ℕ → Heading → Result (KeptName × ℕ) Fault
line_by names name due None = Err ContentsLine
line_by names name due (Some (size, v, next)) =
    cond (eqb v due) (cond (among (keys_of names) name.key) (Err TwinName) (Ok (name, next))) (Err WrongLine)

-- the places of k contents lines, the first at `at`
unfoldable pub headings_from : ℕ → List ℕ → ℕ → List ℕ
headings_from zero text at = []
headings_from (suc k) text at = at ∷ headings_from k text (after_heading text at)

-- thirteen numbers a curve, with the contents lines at these places and the bodies from `body` on
unfoldable pub entries_by : List ℕ → List ℕ → ℕ → List ℤ
entries_by text [] body = []
entries_by text (heading ∷ headings) body =
    entry_at text heading body ++ entries_by text headings (after_numbers front_numbers text body)
