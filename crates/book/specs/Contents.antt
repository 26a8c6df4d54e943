-- Document 01, "The book of cards": a contents line is a name, one blank and the line of its body, ended by byte 10.
-- Assumes nothing.
use Rattle.std.specs.Prelude.{ℕ, ◌+◌, List, cond, eqb, Option, Some, None, Result, Ok, Err}
use Rattle.book.specs.Number.{number_at, Field}
use Rattle.book.specs.Name.{name_at, twin_at}
use Rattle.book.specs.declared.Fault.{Fault}
use Rattle.book.specs.declared.Fault.TheVariants.{ContentsLine, WrongLine, TwinName}

-- a contents line: the size of its name, its number, and the place after it
abbrev pub Heading : Type 0
Heading = Option (ℕ × ℕ × ℕ)

-- what a line leads to: the place after it, or its fault
abbrev pub Line : Type 0
Line = Result ℕ Fault

-- the size of the name, the number and the place after the line; None where it is malformed
abbrev pub headed : ℕ → Field → Heading
headed size (Some (v, next)) = Some (size, v, next)
headed size None = None

unfoldable pub heading_at : List ℕ → ℕ → Heading
heading_at text at =
    cond (eqb (name_at text at) 0) None (headed (name_at text at) (number_at text (at + name_at text at + 1) 10))

-- in a contents line the order is 23 malformed, 24 not the number due, 25 a name that stands in an earlier contents line;
-- `earlier` has the places of the names before
abbrev pub contents_line_of : List ℕ → List ℕ → ℕ → ℕ → Heading → Line
contents_line_of text earlier at due None = Err ContentsLine
contents_line_of text earlier at due (Some (size, v, next)) =
    cond (eqb v due) (cond (twin_at text earlier at size) (Err TwinName) (Ok next)) (Err WrongLine)

unfoldable pub contents_line : List ℕ → List ℕ → ℕ → ℕ → Line
contents_line text earlier at due = contents_line_of text earlier at due (heading_at text at)

-- the place after a contents line; after a malformed one, its own
abbrev pub heading_next : ℕ → Heading → ℕ
heading_next at (Some (size, v, next)) = next
heading_next at None = at

unfoldable pub after_heading : List ℕ → ℕ → ℕ
after_heading text at = heading_next at (heading_at text at)
