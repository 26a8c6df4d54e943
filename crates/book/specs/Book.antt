-- Document 01, "The book of cards" and "What a turned-away card or book says": what a book and a lent list are answered, and
-- the list afterwards. Line 1 is the count n, then come n contents lines, lines 2 to n + 1, then n bodies, lines n + 2 to 2 × n + 1.
-- Assumes nothing.
use Rattle.std.specs.Prelude.{ℕ, zero, suc, ◌+◌, ◌*◌, List, [], ◌∷◌, ◌++◌, cond, ◌&&◌, length, drop, ltb, leb, eqb, ℤ, pos, Some, None, Result, Ok, Err}
use Rattle.card_list.specs.List.{curve_width}
use Rattle.book.specs.Number.{number_at, field_next, Field}
use Rattle.book.specs.Name.{name_at}
use Rattle.book.specs.Contents.{contents_line, after_heading, Line}
use Rattle.book.specs.Body.{front_numbers, body_from, numbers_at, after_numbers}
use Rattle.book.specs.declared.Fault.{Fault}
use Rattle.book.specs.declared.Fault.TheVariants.{BookSize, CountLine, ContentsLine, WrongLine, TwinName, Body, Tail, ShortList}
use Rattle.book.specs.declared.BookRefusal.{BookRefusal}

-- at most 64 curves, at most 8192 bytes
abbrev pub most_curves : ℕ
most_curves = 64

abbrev pub most_bytes : ℕ
most_bytes = 8192

-- the list has room for 64 curves, thirteen numbers each
abbrev pub least_list : ℕ
least_list = 832

-- what a book is answered, in this paper's numbers
pub record BookReply : Type 0 where
  pub number : ℕ
  pub count : ℕ
  pub line : ℕ

-- the number of each refusal
abbrev pub fault_number : Fault → ℕ
fault_number BookSize = 21
fault_number CountLine = 22
fault_number ContentsLine = 23
fault_number WrongLine = 24
fault_number TwinName = 25
fault_number Body = 26
fault_number Tail = 27
fault_number ShortList = 28

-- a refused book gives its number, count 0 and the line; an accepted one number 0, the count of curves and line 0
abbrev pub refused_of : ℕ → ℕ → BookReply
refused_of number line = record { number = number; count = 0; line = line }

abbrev pub accepted_of : ℕ → BookReply
accepted_of n = record { number = 0; count = n; line = 0 }

-- what the reader returns says this reply
abbrev pub told_book : Result ℕ BookRefusal → BookReply
told_book (Ok n) = accepted_of n
told_book (Err refusal) = refused_of (fault_number refusal.fault) refusal.line

-- the first line at fault is named; else the next line follows
abbrev pub line_then : Line → ℕ → (ℕ → BookReply) → BookReply
line_then (Ok p) line go = go p
line_then (Err fault) line go = refused_of (fault_number fault) line

-- the last k of n bodies, after i others; 27, bytes after the last body, names line 2 × n + 2
unfoldable pub bodies_from : ℕ → List ℕ → ℕ → ℕ → ℕ → BookReply
bodies_from zero text n i at = cond (eqb at (length text)) (accepted_of n) (refused_of 27 (2 * n + 2))
bodies_from (suc k) text n i at =
    line_then (body_from front_numbers text at) (n + i + 2) (λ p. bodies_from k text n (i + 1) p)

-- the last k of n contents lines, after those with names at the places `earlier`, and then the bodies;
-- the i-th contents line, i from 1, names line n + 1 + i
unfoldable pub contents_from : ℕ → List ℕ → ℕ → List ℕ → ℕ → BookReply
contents_from zero text n earlier at = bodies_from n text n 0 at
contents_from (suc k) text n earlier at =
    line_then
    (contents_line text earlier at (n + length earlier + 2))
    (length earlier + 2)
    (λ p. contents_from k text n (earlier ++ (at ∷ [])) p)

-- line 1, the count n: 22 where it is malformed, or not 1 to 64
abbrev pub count_then : List ℕ → Field → BookReply
count_then text None = refused_of 22 1
count_then text (Some (n, next)) =
    cond (leb 1 n && leb n most_curves) (contents_from n text n [] next) (refused_of 22 1)

-- 21: 0 bytes, or above 8192; then the lines in order
unfoldable pub text_reply : List ℕ → BookReply
text_reply text =
    cond (eqb (length text) 0) (refused_of 21 0)
    (cond (ltb most_bytes (length text)) (refused_of 21 0)
    (count_then text (number_at text 0 10)))

-- 28: a lent list of `room` numbers, below 832; then the text
unfoldable pub reply_to_book : List ℕ → ℕ → BookReply
reply_to_book text room = cond (ltb room least_list) (refused_of 28 0) (text_reply text)

-- the place of the first contents line, and the place after k contents lines
abbrev pub first_heading : List ℕ → ℕ
first_heading text = field_next 0 (number_at text 0 10)

unfoldable pub after_headings : ℕ → List ℕ → ℕ → ℕ
after_headings zero text at = at
after_headings (suc k) text at = after_headings k text (after_heading text at)

-- thirteen numbers a curve: byte place of the name from 0, its length, and the eleven numbers of its card;
-- its contents line stands at `heading` and its body at `body`
unfoldable pub entry_at : List ℕ → ℕ → ℕ → List ℤ
entry_at text heading body = pos heading ∷ pos (name_at text heading) ∷ numbers_at front_numbers text body

unfoldable pub entries_from : ℕ → List ℕ → ℕ → ℕ → List ℤ
entries_from zero text heading body = []
entries_from (suc k) text heading body =
    entry_at text heading body ++ entries_from k text (after_heading text heading) (after_numbers front_numbers text body)

unfoldable pub entries_of : List ℕ → ℕ → List ℤ
entries_of text n = entries_from n text (first_heading text) (after_headings n text (first_heading text))

-- accepted: thirteen numbers a curve, and the list's other numbers kept; refused: the whole list untouched
abbrev pub list_by : BookReply → List ℕ → List ℤ → List ℤ
list_by reply text list =
    cond (eqb reply.number 0) (entries_of text reply.count ++ drop (curve_width * reply.count) list) list

unfoldable pub list_after : List ℕ → List ℤ → List ℤ
list_after text list = list_by (reply_to_book text (length list)) text list
