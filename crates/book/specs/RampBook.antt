-- Document 01's own book, of one curve: its text, what the reader replies, the numbers that the list gets, its card, and the book written back.
-- Beside it the book with the same curve surveyed: RAMP's axis at 250000 mm above the benchmark, with a grade of −35 ‰.
-- Assumes nothing.
use Rattle.std.specs.Prelude.{ℕ, ◌≡◌, List, [], ◌∷◌, ◌++◌, ℤ, pos, neg_ℤ, replicate}
use Rattle.card.specs.Card as card
use Rattle.book.specs.Book.{least_list, accepted_of, reply_to_book, list_after}
use Rattle.book.specs.Printed.{Curve, IsBook, book_text}
use Rattle.card_list.specs.List.{eleven, card_of}
use Rattle.card.specs.Table.{reply_by}
use Rattle.book.specs.Writing.{reply_to_list, buffer_after}

-- 1, RAMP 3, 5 1 30 30000 60 600 20000 1: three lines, each ended by byte 10
abbrev pub ramp_text : List ℕ
ramp_text =
    (49 ∷ 10 ∷ [])
    ++ ((82 ∷ 65 ∷ 77 ∷ 80 ∷ 32 ∷ 51 ∷ 10 ∷ [])
    ++ (53 ∷ 32 ∷ 49 ∷ 32 ∷ 51 ∷ 48 ∷ 32 ∷ 51 ∷ 48 ∷ 48 ∷ 48 ∷ 48 ∷ 32 ∷ 54 ∷ 48 ∷ 32 ∷ 54 ∷ 48 ∷ 48 ∷ 32 ∷ 50 ∷ 48 ∷ 48 ∷ 48 ∷ 48 ∷ 32 ∷ 49 ∷ 10 ∷ []))

abbrev pub ramp : Curve
ramp = record { name = 82 ∷ 65 ∷ 77 ∷ 80 ∷ []; numbers = eleven 5 1 30 30000 60 600 20000 1 (pos 0) (pos 0) (pos 0) }

-- what the list gets: the name stands at byte 2 and has 4 bytes
abbrev pub ramp_list : List ℤ
ramp_list = pos 2 ∷ pos 4 ∷ eleven 5 1 30 30000 60 600 20000 1 (pos 0) (pos 0) (pos 0)

-- 1, RAMP 3, 5 1 30 30000 60 600 20000 1 250000 -35
abbrev pub survey_text : List ℕ
survey_text =
    (49 ∷ 10 ∷ [])
    ++ ((82 ∷ 65 ∷ 77 ∷ 80 ∷ 32 ∷ 51 ∷ 10 ∷ [])
    ++ ((53 ∷ 32 ∷ 49 ∷ 32 ∷ 51 ∷ 48 ∷ 32 ∷ 51 ∷ 48 ∷ 48 ∷ 48 ∷ 48 ∷ 32 ∷ 54 ∷ 48 ∷ 32 ∷ 54 ∷ 48 ∷ 48 ∷ 32 ∷ 50 ∷ 48 ∷ 48 ∷ 48 ∷ 48 ∷ 32 ∷ 49 ∷ 32 ∷ [])
    ++ (50 ∷ 53 ∷ 48 ∷ 48 ∷ 48 ∷ 48 ∷ 32 ∷ 45 ∷ 51 ∷ 53 ∷ 10 ∷ [])))

abbrev pub survey : Curve
survey = record { name = 82 ∷ 65 ∷ 77 ∷ 80 ∷ []; numbers = eleven 5 1 30 30000 60 600 20000 1 (pos 1) (pos 250000) (neg_ℤ (pos 35)) }

abbrev pub survey_list : List ℤ
survey_list = pos 2 ∷ pos 4 ∷ eleven 5 1 30 30000 60 600 20000 1 (pos 1) (pos 250000) (neg_ℤ (pos 35))

-- THEOREM (proofs/RampReads.antt):
pub record RampBook : Type 0 where
  pub is_book : IsBook (ramp ∷ [])
  pub text : book_text (ramp ∷ []) ≡ ramp_text
  pub reply : reply_to_book ramp_text least_list ≡ accepted_of 1
  -- a list of 832 sevens keeps the other 819
  pub list : list_after ramp_text (replicate least_list (pos 7)) ≡ ramp_list ++ replicate 819 (pos 7)
  -- written back, the book has its 37 bytes again: a buffer of 40 sevens keeps the other three, and one of 36 is too short
  pub writes : reply_to_list ramp_list ramp_text 40 ≡ reply_by 0 37
  pub buffer : buffer_after ramp_list ramp_text (replicate 40 7) ≡ ramp_text ++ replicate 3 7
  pub short : reply_to_list ramp_list ramp_text 36 ≡ reply_by 33 0
  -- the card that the curve hands over is RAMP's
  pub hands : card_of ramp.numbers ≡ card.ramp

-- THEOREM (proofs/RampReads.antt): the same of the surveyed RAMP
pub record SurveyBook : Type 0 where
  pub is_book : IsBook (survey ∷ [])
  pub text : book_text (survey ∷ []) ≡ survey_text
  pub reply : reply_to_book survey_text least_list ≡ accepted_of 1
  pub list : list_after survey_text (replicate least_list (pos 7)) ≡ survey_list ++ replicate 819 (pos 7)
  -- written back, the book has its 48 bytes again
  pub writes : reply_to_list survey_list survey_text 50 ≡ reply_by 0 48
  pub buffer : buffer_after survey_list survey_text (replicate 50 7) ≡ survey_text ++ replicate 2 7
  pub short : reply_to_list survey_list survey_text 47 ≡ reply_by 33 0
  -- the card is RAMP's, and carries height and grade
  pub hands : card_of survey.numbers ≡ card.absolute_card 5 1 30 30000 60 600 20000 1 (pos 250000) (neg_ℤ (pos 35))
