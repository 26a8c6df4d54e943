-- The writer at its edges, with the numbers of RAMP's card: where a name ends, how long a list is, how many digits a number has, which signs and
-- marks it may have, what is a twin, and which reason comes first. The names' bytes are the four of RAMP and no more.
-- Assumes nothing.
use Rattle.std.specs.Prelude.{ℕ, ◌≡◌, List, [], ◌∷◌, ◌++◌, ℤ, pos, neg_ℤ, take, replicate}
use Rattle.card.specs.Table.{reply_by}
use Rattle.card_list.specs.List.{eleven}
use Rattle.book.specs.Writing.{reply_to_list, buffer_after}

abbrev pub ramp_bytes : List ℕ
ramp_bytes = 82 ∷ 65 ∷ 77 ∷ 80 ∷ []

-- the thirteen numbers of a relative curve with this place and length of its name; and the same with this unit
abbrev pub placed : ℤ → ℤ → List ℤ
placed place size = place ∷ size ∷ eleven 5 1 30 30000 60 600 20000 1 (pos 0) (pos 0) (pos 0)

abbrev pub listed : ℕ → ℕ → ℕ → List ℤ
listed place size unit = pos place ∷ pos size ∷ eleven 5 1 30 30000 60 600 20000 unit (pos 0) (pos 0) (pos 0)

-- of a curve with this mark, height and grade, and with this number for its profile
abbrev pub marked : ℤ → ℤ → ℤ → List ℤ
marked mark height grade = pos 0 ∷ pos 4 ∷ eleven 5 1 30 30000 60 600 20000 1 mark height grade

abbrev pub profiled : ℤ → List ℤ
profiled profile = pos 0 ∷ pos 4 ∷ profile ∷ pos 1 ∷ pos 30 ∷ pos 30000 ∷ pos 60 ∷ pos 600 ∷ pos 20000 ∷ pos 1 ∷ pos 0 ∷ pos 0 ∷ pos 0 ∷ []

-- THEOREM (proofs/WriterEdges.antt):
pub record WriterReadings : Type 0 where
  -- a name that ends at the bytes' end, and one past it; place and length above 31 bits together; no bytes at all
  pub ends : reply_to_list (listed 0 4 1) ramp_bytes 37 ≡ reply_by 0 37
  pub past : reply_to_list (listed 1 4 1) ramp_bytes 37 ≡ reply_by 31 0
  pub far : reply_to_list (listed 2147483647 4 1) ramp_bytes 37 ≡ reply_by 31 0
  pub wide : reply_to_list (listed 2147483647 2147483647 1) ramp_bytes 37 ≡ reply_by 31 0
  pub empty : reply_to_list (listed 0 0 1) ramp_bytes 37 ≡ reply_by 31 0
  -- a place and a length below 0
  pub before : reply_to_list (placed (neg_ℤ (pos 1)) (pos 4)) ramp_bytes 37 ≡ reply_by 31 0
  pub minus : reply_to_list (placed (pos 0) (neg_ℤ (pos 4))) ramp_bytes 37 ≡ reply_by 31 0
  -- the name has as many bytes as its length says: 1, RAM 3, 5 1 30 30000 60 600 20000 1
  pub front : buffer_after (listed 0 3 1) ramp_bytes (replicate 36 7)
      ≡ (49 ∷ 10 ∷ [])
      ++ ((82 ∷ 65 ∷ 77 ∷ 32 ∷ 51 ∷ 10 ∷ [])
      ++ (53 ∷ 32 ∷ 49 ∷ 32 ∷ 51 ∷ 48 ∷ 32 ∷ 51 ∷ 48 ∷ 48 ∷ 48 ∷ 48 ∷ 32 ∷ 54 ∷ 48 ∷ 32 ∷ 54 ∷ 48 ∷ 48 ∷ 32 ∷ 50 ∷ 48 ∷ 48 ∷ 48 ∷ 48 ∷ 32 ∷ 49 ∷ 10 ∷ []))
  -- lists of 0, 10, 12, 14 and 845 numbers, whatever names and buffer
  pub none : (names : List ℕ) (room : ℕ) → reply_to_list [] names room ≡ reply_by 31 0
  pub ten : (names : List ℕ) (room : ℕ) → reply_to_list (take 10 (listed 0 4 1)) names room ≡ reply_by 31 0
  pub twelve : (names : List ℕ) (room : ℕ) → reply_to_list (take 12 (listed 0 4 1)) names room ≡ reply_by 31 0
  pub fourteen : (names : List ℕ) (room : ℕ) → reply_to_list (listed 0 4 1 ++ (pos 1 ∷ [])) names room ≡ reply_by 31 0
  pub many : (names : List ℕ) (room : ℕ) → reply_to_list (replicate 845 (pos 0)) names room ≡ reply_by 31 0
  -- seven digits and eight, and a buffer one byte short
  pub seven : reply_to_list (listed 0 4 9999999) ramp_bytes 43 ≡ reply_by 0 43
  pub eight : reply_to_list (listed 0 4 10000000) ramp_bytes 8192 ≡ reply_by 33 0
  pub short : reply_to_list (listed 0 4 9999999) ramp_bytes 42 ≡ reply_by 33 0
  -- height and grade of an absolute curve, 0 too: `1 0 0` behind the seven; the minus is no digit, but a byte
  pub absolute : reply_to_list (marked (pos 1) (pos 0) (pos 0)) ramp_bytes 41 ≡ reply_by 0 41
  pub below : reply_to_list (marked (pos 1) (neg_ℤ (pos 9999999)) (pos 7)) ramp_bytes 48 ≡ reply_by 0 48
  pub room_below : reply_to_list (marked (pos 1) (neg_ℤ (pos 9999999)) (pos 7)) ramp_bytes 47 ≡ reply_by 33 0
  pub long_below : reply_to_list (marked (pos 1) (neg_ℤ (pos 10000000)) (pos 7)) ramp_bytes 8192 ≡ reply_by 33 0
  pub long_grade : reply_to_list (marked (pos 1) (pos 0) (pos 10000000)) ramp_bytes 8192 ≡ reply_by 33 0
  -- a mark not 0 or 1, one of the eight below 0, a height or a grade beside mark 0
  pub mark : reply_to_list (marked (pos 2) (pos 0) (pos 0)) ramp_bytes 8192 ≡ reply_by 33 0
  pub mark_below : reply_to_list (marked (neg_ℤ (pos 1)) (pos 0) (pos 0)) ramp_bytes 8192 ≡ reply_by 33 0
  pub profile : reply_to_list (profiled (neg_ℤ (pos 5))) ramp_bytes 8192 ≡ reply_by 33 0
  pub height : reply_to_list (marked (pos 0) (pos 250000) (pos 0)) ramp_bytes 8192 ≡ reply_by 33 0
  pub grade : reply_to_list (marked (pos 0) (pos 0) (neg_ℤ (pos 35))) ramp_bytes 8192 ≡ reply_by 33 0
  -- the same name twice; one that begins like another is no twin
  pub twin : reply_to_list (listed 0 4 1 ++ listed 0 4 10) ramp_bytes 8192 ≡ reply_by 32 0
  pub alike : reply_to_list (listed 0 4 1 ++ listed 0 3 1) ramp_bytes 71 ≡ reply_by 0 71
  -- over the whole list: a wrong name in the last curve before a twin in the second, a twin in the last before a long number in the first
  -- and before a short buffer
  pub wrong_first : reply_to_list (listed 0 4 1 ++ (listed 0 4 1 ++ listed 1 4 1)) ramp_bytes 8192 ≡ reply_by 31 0
  pub twin_next : reply_to_list (listed 0 4 10000000 ++ listed 0 4 1) ramp_bytes 8192 ≡ reply_by 32 0
  pub room_last : reply_to_list (listed 0 4 1 ++ listed 0 4 1) ramp_bytes 0 ≡ reply_by 32 0
