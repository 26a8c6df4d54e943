-- Bodies at their edges: how a body ends after its seven numbers `5 1 30 30000 60 600 20000`, and a minus among these. Document 02, Slip 5: "an
-- absolute body has ten numbers, the last two with an optional minus before a number other than 0; an eight-number body is relative".
-- Assumes nothing.
use Rattle.std.specs.Prelude.{ℕ, ◌≡◌, List, [], ◌∷◌, ◌++◌, ℤ, pos, neg_ℤ}
use Rattle.card_list.specs.List.{eleven}
use Rattle.book.specs.Book.{least_list, accepted_of, refused_of, reply_to_book, entries_of}

-- a book of one curve, RAMP, whose body is line 3
abbrev pub with_body : List ℕ → List ℕ
with_body body = (49 ∷ 10 ∷ 82 ∷ 65 ∷ 77 ∷ 80 ∷ 32 ∷ 51 ∷ 10 ∷ []) ++ body

-- its first seven numbers, and what stands behind them
abbrev pub ended : List ℕ → List ℕ
ended last =
    with_body
    ((53 ∷ 32 ∷ 49 ∷ 32 ∷ 51 ∷ 48 ∷ 32 ∷ 51 ∷ 48 ∷ 48 ∷ 48 ∷ 48 ∷ 32 ∷ 54 ∷ 48 ∷ 32 ∷ 54 ∷ 48 ∷ 48 ∷ 32 ∷ 50 ∷ 48 ∷ 48 ∷ 48 ∷ 48 ∷ 32 ∷ []) ++ last)

-- it is accepted, and its curve then has these last four numbers
pub record Ends (last : List ℕ) (unit : ℕ) (mark height grade : ℤ) : Type 0 where
  pub reply : reply_to_book (ended last) least_list ≡ accepted_of 1
  pub numbers : entries_of (ended last) 1 ≡ pos 2 ∷ pos 4 ∷ eleven 5 1 30 30000 60 600 20000 unit mark height grade

-- 26, at line 3
abbrev pub NoEnd : List ℕ → Type 0
NoEnd last = reply_to_book (ended last) least_list ≡ refused_of 26 3

-- THEOREM (proofs/BodyEdges.antt):
pub record BodyReadings : Type 0 where
  -- `1`; `1 0 0` is absolute, though both are 0
  pub eight : Ends (49 ∷ 10 ∷ []) 1 (pos 0) (pos 0) (pos 0)
  pub ten : Ends (49 ∷ 32 ∷ 48 ∷ 32 ∷ 48 ∷ 10 ∷ []) 1 (pos 1) (pos 0) (pos 0)
  -- `1 -9999999 9999999`, and a digit more: `1 -10000000 0`
  pub seven : Ends (49 ∷ 32 ∷ 45 ∷ 57 ∷ 57 ∷ 57 ∷ 57 ∷ 57 ∷ 57 ∷ 57 ∷ 32 ∷ 57 ∷ 57 ∷ 57 ∷ 57 ∷ 57 ∷ 57 ∷ 57 ∷ 10 ∷ []) 1 (pos 1) (neg_ℤ (pos 9999999)) (pos 9999999)
  pub long : NoEnd (49 ∷ 32 ∷ 45 ∷ 49 ∷ 48 ∷ 48 ∷ 48 ∷ 48 ∷ 48 ∷ 48 ∷ 48 ∷ 32 ∷ 48 ∷ 10 ∷ [])
  -- `1 -0 0`, `1 0 -0`
  pub nought : NoEnd (49 ∷ 32 ∷ 45 ∷ 48 ∷ 32 ∷ 48 ∷ 10 ∷ [])
  pub nought_last : NoEnd (49 ∷ 32 ∷ 48 ∷ 32 ∷ 45 ∷ 48 ∷ 10 ∷ [])
  -- `1 - 7`, `1 7 -`
  pub bare : NoEnd (49 ∷ 32 ∷ 45 ∷ 32 ∷ 55 ∷ 10 ∷ [])
  pub bare_last : NoEnd (49 ∷ 32 ∷ 55 ∷ 32 ∷ 45 ∷ 10 ∷ [])
  -- `1 +7 0`, `1 0 +7`
  pub plus : NoEnd (49 ∷ 32 ∷ 43 ∷ 55 ∷ 32 ∷ 48 ∷ 10 ∷ [])
  pub plus_last : NoEnd (49 ∷ 32 ∷ 48 ∷ 32 ∷ 43 ∷ 55 ∷ 10 ∷ [])
  -- `1 -07 0`, `1 0 -07`
  pub leading : NoEnd (49 ∷ 32 ∷ 45 ∷ 48 ∷ 55 ∷ 32 ∷ 48 ∷ 10 ∷ [])
  pub leading_last : NoEnd (49 ∷ 32 ∷ 48 ∷ 32 ∷ 45 ∷ 48 ∷ 55 ∷ 10 ∷ [])
  -- `1 --7 0`
  pub twice : NoEnd (49 ∷ 32 ∷ 45 ∷ 45 ∷ 55 ∷ 32 ∷ 48 ∷ 10 ∷ [])
  -- a minus among the first eight: `-1`, `-1 0 0`, and before the profile
  pub unit : NoEnd (45 ∷ 49 ∷ 10 ∷ [])
  pub unit_ten : NoEnd (45 ∷ 49 ∷ 32 ∷ 48 ∷ 32 ∷ 48 ∷ 10 ∷ [])
  pub profile : reply_to_book (with_body (45 ∷ 53 ∷ 32 ∷ 49 ∷ 32 ∷ 51 ∷ 48 ∷ 32 ∷ 51 ∷ 48 ∷ 48 ∷ 48 ∷ 48 ∷ 32 ∷ 54 ∷ 48 ∷ 32 ∷ 54 ∷ 48 ∷ 48 ∷ 32 ∷ 50 ∷ 48 ∷ 48 ∷ 48 ∷ 48 ∷ 32 ∷ 49 ∷ 10 ∷ [])) least_list ≡ refused_of 26 3
  -- seven, nine and eleven numbers
  pub few : NoEnd (10 ∷ [])
  pub nine : NoEnd (49 ∷ 32 ∷ 48 ∷ 10 ∷ [])
  pub more : NoEnd (49 ∷ 32 ∷ 48 ∷ 32 ∷ 48 ∷ 32 ∷ 48 ∷ 10 ∷ [])
  -- a blank behind the last number, and a line without byte 10
  pub blank : NoEnd (49 ∷ 32 ∷ 48 ∷ 32 ∷ 48 ∷ 32 ∷ 10 ∷ [])
  pub unended : NoEnd (49 ∷ 32 ∷ 48 ∷ 32 ∷ 48 ∷ [])
