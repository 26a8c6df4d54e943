-- The sheet of document 01's own book as document 02, Slip 6, prints its rows, that of its card above the benchmark, and the paper's two
-- refusals, byte for byte.
-- Assumes nothing.
use Rattle.std.specs.Prelude.{ℕ, ◌≤◌, ◌≡◌, List, [], ◌∷◌, ◌++◌, ℤ, pos, length, replicate}
use Rattle.book.specs.Book.{least_list}
use Rattle.book.specs.RampBook.{ramp_text, survey_text}
use Rattle.sheet_text.specs.Text.{refused_text, refused_book_text}
use Rattle.sheet_text.specs.Sheet.{enough_numbers, sheet_of}

-- RAMP
abbrev pub ramp_name : List ℕ
ramp_name = 82 ∷ 65 ∷ 77 ∷ 80 ∷ []

-- RAMP 3
-- 0 0 0 105 173 105 53
-- 20000 400 12 93 173 240 293
-- 30000 600 -67 2 173 308 413
abbrev pub ramp_printed : List ℕ
ramp_printed =
    (82 ∷ 65 ∷ 77 ∷ 80 ∷ 32 ∷ 51 ∷ 10 ∷ [])
    ++ ((48 ∷ 32 ∷ 48 ∷ 32 ∷ 48 ∷ 32 ∷ 49 ∷ 48 ∷ 53 ∷ 32 ∷ 49 ∷ 55 ∷ 51 ∷ 32 ∷ 49 ∷ 48 ∷ 53 ∷ 32 ∷ 53 ∷ 51 ∷ 10 ∷ [])
    ++ ((50 ∷ 48 ∷ 48 ∷ 48 ∷ 48 ∷ 32 ∷ 52 ∷ 48 ∷ 48 ∷ 32 ∷ 49 ∷ 50 ∷ 32 ∷ 57 ∷ 51 ∷ 32 ∷ 49 ∷ 55 ∷ 51 ∷ 32 ∷ 50 ∷ 52 ∷ 48 ∷ 32 ∷ 50 ∷ 57 ∷ 51 ∷ 10 ∷ [])
    ++ (51 ∷ 48 ∷ 48 ∷ 48 ∷ 48 ∷ 32 ∷ 54 ∷ 48 ∷ 48 ∷ 32 ∷ 45 ∷ 54 ∷ 55 ∷ 32 ∷ 50 ∷ 32 ∷ 49 ∷ 55 ∷ 51 ∷ 32 ∷ 51 ∷ 48 ∷ 56 ∷ 32 ∷ 52 ∷ 49 ∷ 51 ∷ 10 ∷ [])))

-- the same card 250 m above the benchmark on a grade of −35 ‰, as docs/ABSOLUTE-RAMP.md works it out by hand
-- RAMP 3
-- 0 0 249828 249933 250000 249933 249880
-- 20000 400 249140 249221 249300 249368 249420
-- 30000 600 248710 248779 248950 249085 249190
abbrev pub survey_printed : List ℕ
survey_printed =
    (82 ∷ 65 ∷ 77 ∷ 80 ∷ 32 ∷ 51 ∷ 10 ∷ [])
    ++ ((48 ∷ 32 ∷ 48 ∷ 32 ∷ 50 ∷ 52 ∷ 57 ∷ 56 ∷ 50 ∷ 56 ∷ 32 ∷ 50 ∷ 52 ∷ 57 ∷ 57 ∷ 51 ∷ 51 ∷ 32 ∷ 50 ∷ 53 ∷ 48 ∷ 48 ∷ 48 ∷ 48 ∷ 32 ∷ 50 ∷ 52 ∷ 57 ∷ 57 ∷ 51 ∷ 51 ∷ 32 ∷ 50 ∷ 52 ∷ 57 ∷ 56 ∷ 56 ∷ 48 ∷ 10 ∷ [])
    ++ ((50 ∷ 48 ∷ 48 ∷ 48 ∷ 48 ∷ 32 ∷ 52 ∷ 48 ∷ 48 ∷ 32 ∷ 50 ∷ 52 ∷ 57 ∷ 49 ∷ 52 ∷ 48 ∷ 32 ∷ 50 ∷ 52 ∷ 57 ∷ 50 ∷ 50 ∷ 49 ∷ 32 ∷ 50 ∷ 52 ∷ 57 ∷ 51 ∷ 48 ∷ 48 ∷ 32 ∷ 50 ∷ 52 ∷ 57 ∷ 51 ∷ 54 ∷ 56 ∷ 32 ∷ 50 ∷ 52 ∷ 57 ∷ 52 ∷ 50 ∷ 48 ∷ 10 ∷ [])
    ++ (51 ∷ 48 ∷ 48 ∷ 48 ∷ 48 ∷ 32 ∷ 54 ∷ 48 ∷ 48 ∷ 32 ∷ 50 ∷ 52 ∷ 56 ∷ 55 ∷ 49 ∷ 48 ∷ 32 ∷ 50 ∷ 52 ∷ 56 ∷ 55 ∷ 55 ∷ 57 ∷ 32 ∷ 50 ∷ 52 ∷ 56 ∷ 57 ∷ 53 ∷ 48 ∷ 32 ∷ 50 ∷ 52 ∷ 57 ∷ 48 ∷ 56 ∷ 53 ∷ 32 ∷ 50 ∷ 52 ∷ 57 ∷ 49 ∷ 57 ∷ 48 ∷ 10 ∷ [])))

-- THEOREM (proofs/RampPrints.antt):
pub record RampSheet : Type 0 where
  -- the sheet of RAMP's book, read into a list of 832 noughts, whatever tables that are long enough are lent
  pub sheet : (tables : ℕ → List ℤ) → ((k : ℕ) → enough_numbers ≤ length (tables k)) → sheet_of ramp_text (replicate least_list (pos 0)) tables ≡ ramp_printed
  -- and of the book of the surveyed RAMP
  pub survey : (tables : ℕ → List ℤ) → ((k : ℕ) → enough_numbers ≤ length (tables k)) → sheet_of survey_text (replicate least_list (pos 0)) tables ≡ survey_printed
  -- RAMP refused 8
  pub card : refused_text ramp_name 8 ≡ 82 ∷ 65 ∷ 77 ∷ 80 ∷ 32 ∷ 114 ∷ 101 ∷ 102 ∷ 117 ∷ 115 ∷ 101 ∷ 100 ∷ 32 ∷ 56 ∷ 10 ∷ []
  -- book 24 line 2
  pub book : refused_book_text 24 2 ≡ 98 ∷ 111 ∷ 111 ∷ 107 ∷ 32 ∷ 50 ∷ 52 ∷ 32 ∷ 108 ∷ 105 ∷ 110 ∷ 101 ∷ 32 ∷ 50 ∷ 10 ∷ []
