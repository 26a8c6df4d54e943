-- What the definitions of a book's lines mean: a number, a contents line or a body is read at a place exactly when its text stands
-- there, and then it gives what was written.
-- Assumes nothing.
use Rattle.std.specs.Prelude.{ℕ, ◌+◌, ◌<◌, ◌≡◌, List, [], ◌∷◌, ◌++◌, true, false, ℤ, length, take, drop, Some, Ok}
use Rattle.decimal.specs.Decimal.{digit_of, Each}
use Rattle.book.specs.Number.{number_at, signed_at}
use Rattle.book.specs.Name.{twin_at}
use Rattle.book.specs.Contents.{heading_at}
use Rattle.book.specs.Body.{front_numbers, body_from, numbers_at}
use Rattle.book.specs.Printed.{IsName, IsNumber, IsSigned, IsBody, Differs, number_text, signed_number_text, contents_text, body_text}

-- the bytes stand at a place, and `next` is the place after them
pub record Stands (text : List ℕ) (at : ℕ) (bytes : List ℕ) (next : ℕ) : Type 0 where
  pub there : drop at text ≡ bytes ++ drop next text
  pub after : next ≡ at + length bytes

-- the text starts with these bytes
pub record Starts (text bytes : List ℕ) : Type 0 where
  pub rest : List ℕ
  pub whole : text ≡ bytes ++ rest

-- the names, each with the blank after it, stand at the places
unfoldable pub Named : List ℕ → List ℕ → List (List ℕ) → Type 0
Named text [] [] = Unit
Named text [] (name ∷ names) = ⊥
Named text (place ∷ places) [] = ⊥
Named text (place ∷ places) (name ∷ names) =
    Starts (drop place text) (name ++ (32 ∷ [])) × (IsName name × Named text places names)

-- THEOREM (proofs/LineMeaning.antt):
pub record LineTheorem : Type 0 where
  -- a number and the byte that ends it, which is no digit, and not the 0 that byte_at gives past the text's end
  pub number_read : (text : List ℕ) (at end v next : ℕ) → 0 < end → number_at text at end ≡ Some (v, next)
      → IsNumber v × Stands text at (number_text v end) next
  pub number_reads : (text : List ℕ) (at end v next : ℕ) → digit_of end ≡ 10 → IsNumber v → Stands text at (number_text v end) next
      → number_at text at end ≡ Some (v, next)
  -- so with a signed number
  pub signed_read : (text : List ℕ) (at end : ℕ) (z : ℤ) (next : ℕ) → 0 < end → signed_at text at end ≡ Some (z, next)
      → IsSigned z × Stands text at (signed_number_text z end) next
  pub signed_reads : (text : List ℕ) (at end : ℕ) (z : ℤ) (next : ℕ) → digit_of end ≡ 10 → IsSigned z
      → Stands text at (signed_number_text z end) next → signed_at text at end ≡ Some (z, next)
  -- a contents line
  pub heading_read : (text : List ℕ) (at size v next : ℕ) → heading_at text at ≡ Some (size, v, next)
      → (length (take size (drop at text)) ≡ size) × (IsName (take size (drop at text))
      × (IsNumber v × Stands text at (contents_text (take size (drop at text)) v) next))
  pub heading_reads : (text : List ℕ) (at : ℕ) (name : List ℕ) (v next : ℕ) → IsName name → IsNumber v
      → Stands text at (contents_text name v) next → heading_at text at ≡ Some (length name, v, next)
  -- a body
  pub body_read : (text : List ℕ) (at next : ℕ) → body_from front_numbers text at ≡ Ok next
      → IsBody (numbers_at front_numbers text at) × Stands text at (body_text (numbers_at front_numbers text at)) next
  pub body_reads : (text : List ℕ) (at : ℕ) (numbers : List ℤ) (next : ℕ) → IsBody numbers → Stands text at (body_text numbers) next
      → (body_from front_numbers text at ≡ Ok next) × (numbers_at front_numbers text at ≡ numbers)
  -- a twin name is one of the names at the earlier places
  pub twin_found : (text places : List ℕ) (names : List (List ℕ)) (at : ℕ) (name : List ℕ) → Named text places names → IsName name
      → Starts (drop at text) (name ++ (32 ∷ [])) → twin_at text places at (length name) ≡ true → Each (Differs name) names → ⊥
  pub twin_none : (text places : List ℕ) (names : List (List ℕ)) (at : ℕ) (name : List ℕ) → Named text places names → IsName name
      → Starts (drop at text) (name ++ (32 ∷ [])) → twin_at text places at (length name) ≡ false → Each (Differs name) names
