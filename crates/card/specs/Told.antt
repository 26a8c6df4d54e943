-- Document 01, "Where an answer is an enum, the promises use a definition. That definition gives this paper's number and values for each of
-- the enum's cases."
-- Assumes nothing.
use Rattle.std.specs.Prelude.{◌≡◌, ℕ, Result, Ok, Err}
use Rattle.card.specs.declared.reasons.Refusal.{Refusal}
use Rattle.card.specs.declared.reasons.Refusal.TheVariants.{Profile, Terrain, Radius, Clothoid, FullSlope, Widening, AddedSlope, Step, Unit, ShortTable, Height, Grade, Method, FirstStage, WideningPlace}
use Rattle.card.specs.Table.{Reply}

-- the number of each reason to refuse a card
abbrev pub refusal_number : Refusal → ℕ
refusal_number Profile = 1
refusal_number Terrain = 2
refusal_number Radius = 3
refusal_number Clothoid = 4
refusal_number FullSlope = 5
refusal_number Widening = 6
refusal_number AddedSlope = 8
refusal_number Step = 9
refusal_number Unit = 10
refusal_number ShortTable = 11
refusal_number Height = 34
refusal_number Grade = 35
refusal_number Method = 36
refusal_number FirstStage = 37
refusal_number WideningPlace = 38

-- THEOREM (proofs/Told.antt): no reason has the number 7, that of the narrow shoulder, which is no longer given
abbrev pub NotSevenTheorem : Type 0
NotSevenTheorem = (e : Refusal) → ¬ (refusal_number e ≡ 7)

-- the number of an answer: 0 where nothing is refused, else that of the refusal
abbrev pub number_told : {A E : Type 0} → (E → ℕ) → Result A E → ℕ
number_told numbered (Ok given) = 0
number_told numbered (Err refusal) = numbered refusal

-- an answer with the number of its refusal in place of the refusal
abbrev pub with_number : {A E : Type 0} → (E → ℕ) → Result A E → Result A ℕ
with_number numbered (Ok given) = Ok given
with_number numbered (Err refusal) = Err (numbered refusal)

-- the number and the count of an answer: an accepted card gives 0 and its count; a refused one its number and 0
abbrev pub told : {E : Type 0} → (E → ℕ) → Result ℕ E → Reply
told numbered (Ok count) = record { number = 0; count = count }
told numbered (Err refusal) = record { number = numbered refusal; count = 0 }
