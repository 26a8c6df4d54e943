-- What each number of a reply means, in the paper's order: 28, then 21, then the lines. The lines before the one that is named are
-- right, and that line is at fault for the reason given. No other number is ever given.
-- Assumes nothing.
use Rattle.std.specs.Prelude.{ℕ, ◌+◌, ◌*◌, ◌≤◌, ◌<◌, ◌≡◌, List, [], ◌++◌, cond, ℤ, length, eqb}
use Rattle.decimal.specs.Decimal.{Each}
use Rattle.book.specs.Book.{most_curves, most_bytes, least_list, reply_to_book, list_after}
use Rattle.book.specs.LineMeaning.{Starts}
use Rattle.book.specs.Meaning.{TextOfBook}
use Rattle.book.specs.Printed.{IsName, IsNumber, IsBody, Differs, NoTwins, number_text, contents_text, body_text, lines_text}

-- a right count line, `names` in right contents lines and `bodies` in right bodies stand before `rest`
pub record Right (text : List ℕ) (n : ℕ) (names : List (List ℕ)) (bodies : List (List ℤ)) (rest : List ℕ) : Type 0 where
  pub some : 1 ≤ n
  pub few : n ≤ most_curves
  pub known : Each IsName names
  pub twins : NoTwins names
  pub cards : Each IsBody bodies
  pub whole : text ≡ lines_text n names bodies ++ rest

-- 22: the text starts with no count line of 1 to 64
pub record NoCount (text : List ℕ) (line : ℕ) : Type 0 where
  pub first : line ≡ 1
  pub none : (n : ℕ) → 1 ≤ n → n ≤ most_curves → Starts text (number_text n 10) → ⊥

-- 23, 24, 25: the contents lines before are right, and this one is one of n
pub record AtContents (text : List ℕ) (line : ℕ) : Type 0 where
  pub n : ℕ
  pub names : List (List ℕ)
  pub rest : List ℕ
  pub right : Right text n names [] rest
  pub one : length names < n
  pub place : line ≡ length names + 2

-- 23: there is no contents line
pub record NoContents (text : List ℕ) (line : ℕ) : Type 0 where
  pub before : AtContents text line
  pub none : (name : List ℕ) (v : ℕ) → IsName name → IsNumber v → Starts before.rest (contents_text name v) → ⊥

-- 24, 25: there is one, with this name and this number
pub record SomeContents (text : List ℕ) (line : ℕ) : Type 0 where
  pub before : AtContents text line
  pub name : List ℕ
  pub v : ℕ
  pub known : IsName name
  pub small : IsNumber v
  pub stands : Starts before.rest (contents_text name v)

-- 24: not the number due
pub record WrongLine (text : List ℕ) (line : ℕ) : Type 0 where
  pub found : SomeContents text line
  pub wrong : found.v ≡ found.before.n + length found.before.names + 2 → ⊥

-- 25: the number due, and the name stands in an earlier contents line
pub record TwinName (text : List ℕ) (line : ℕ) : Type 0 where
  pub found : SomeContents text line
  pub due : found.v ≡ found.before.n + length found.before.names + 2
  pub twin : Each (Differs found.name) found.before.names → ⊥

-- 26, 27: all n contents lines and the bodies before are right
pub record AtBodies (text : List ℕ) : Type 0 where
  pub n : ℕ
  pub names : List (List ℕ)
  pub bodies : List (List ℤ)
  pub rest : List ℕ
  pub right : Right text n names bodies rest
  pub all : length names ≡ n

-- 26: there is no body
pub record NoBody (text : List ℕ) (line : ℕ) : Type 0 where
  pub before : AtBodies text
  pub one : length before.bodies < before.n
  pub place : line ≡ before.n + length before.bodies + 2
  pub none : (numbers : List ℤ) → IsBody numbers → Starts before.rest (body_text numbers) → ⊥

-- 27: bytes after the last body
pub record Tail (text : List ℕ) (line : ℕ) : Type 0 where
  pub before : AtBodies text
  pub last : length before.bodies ≡ before.n
  pub place : line ≡ 2 * before.n + 2
  pub bytes : before.rest ≡ [] → ⊥

-- the numbers of the lines, and 0: the text of a book
abbrev pub SaysOfLines : List ℕ → ℕ → ℕ → Type 0
SaysOfLines text line number =
    cond (eqb number 22) (NoCount text line)
    (cond (eqb number 23) (NoContents text line)
    (cond (eqb number 24) (WrongLine text line)
    (cond (eqb number 25) (TwinName text line)
    (cond (eqb number 26) (NoBody text line)
    (cond (eqb number 27) (Tail text line)
    (cond (eqb number 0) (TextOfBook text) ⊥))))))

-- 21: the size of the text, no line's fault; else it has 1 to 8192 bytes, and its lines are looked at
pub record WrongSize (text : List ℕ) (line : ℕ) : Type 0 where
  pub size : 1 ≤ length text → length text ≤ most_bytes → ⊥
  pub place : line ≡ 0

pub record RightSize (text : List ℕ) : Type 0 where
  pub some : 1 ≤ length text
  pub short : length text ≤ most_bytes

abbrev pub SaysOfText : List ℕ → ℕ → ℕ → Type 0
SaysOfText text line number =
    cond (eqb number 21) (WrongSize text line) (RightSize text × SaysOfLines text line number)

-- 28: a lent list below 832 numbers, no line's fault; else the text is looked at
pub record ShortList (room line : ℕ) : Type 0 where
  pub short : room < least_list
  pub place : line ≡ 0

abbrev pub Says : List ℕ → ℕ → ℕ → ℕ → Type 0
Says text room line number = cond (eqb number 28) (ShortList room line) ((least_list ≤ room) × SaysOfText text line number)

-- THEOREM (proofs/BookReasons.antt): for every text and every list
pub record ReasonsTheorem : Type 0 where
  -- the reply's number and line say what holds
  pub says : (text : List ℕ) (room : ℕ) → Says text room (reply_to_book text room).line (reply_to_book text room).number
  -- a refused book gives a count of 0, and leaves the list untouched
  pub nought : (text : List ℕ) (room : ℕ) → ((reply_to_book text room).number ≡ 0 → ⊥) → (reply_to_book text room).count ≡ 0
  pub kept : (text : List ℕ) (list : List ℤ) → ((reply_to_book text (length list)).number ≡ 0 → ⊥) → list_after text list ≡ list
  -- no reply counts more than 64 curves
  pub few : (text : List ℕ) (room : ℕ) → (reply_to_book text room).count ≤ most_curves
