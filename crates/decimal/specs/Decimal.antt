-- Document 01, the book of cards and the sheet printer: the decimal text of a count, and of a signed number with a minus before numbers
-- below nought.
-- Assumes nothing.
use Rattle.std.specs.Prelude.{ℕ, zero, suc, ◌+◌, ◌-◌, ◌*◌, ◌/◌, ◌%◌, ◌^◌, ◌≤◌, ◌<◌, ◌≡◌, List, [], ◌∷◌, ◌++◌, cond, ltb, eqb, ℤ, pos, negsuc, neg_ℤ, nat_abs, length, get_or}

-- something holds of each of a list
unfoldable pub Each : {A : Type 0} → (A → Type 0) → List A → Type 0
Each P [] = Unit
Each P (x ∷ xs) = P x × Each P xs

-- the value of a decimal digit (bytes 48 to 57), and 10 for any other byte
abbrev pub digit_of : ℕ → ℕ
digit_of b = cond (ltb b 48) 10 (cond (ltb 57 b) 10 (b - 48))

-- the text of a number: its decimal digits, at most k of them
unfoldable pub digits_text : ℕ → ℕ → List ℕ
digits_text zero v = []
digits_text (suc k) v = cond (ltb v 10) ((48 + v) ∷ []) (digits_text k (v / 10) ++ ((48 + v % 10) ∷ []))

-- a number of 32 bits, signed or not, has at most ten digits
abbrev pub most_digits : ℕ
most_digits = 10

-- a count: its decimal digits, no leading zero but in 0 itself
abbrev pub count_text : ℕ → List ℕ
count_text v = digits_text most_digits v

-- a signed number: a minus (byte 45) before numbers below nought; `negsuc n` is −(n + 1)
unfoldable pub signed_text : ℤ → List ℕ
signed_text (pos n) = count_text n
signed_text (negsuc n) = 45 ∷ count_text (suc n)

-- the value of digits that stand after the value v
unfoldable pub digits_value : ℕ → List ℕ → ℕ
digits_value v [] = v
digits_value v (b ∷ text) = digits_value (v * 10 + digit_of b) text

-- the signed number that a text reads as
unfoldable pub signed_of : List ℕ → ℤ
signed_of [] = pos 0
signed_of (b ∷ text) = cond (eqb b 45) (neg_ℤ (pos (digits_value 0 text))) (pos (digits_value 0 (b ∷ text)))

-- a decimal digit, bytes 48 to 57
abbrev pub IsDigit : ℕ → Type 0
IsDigit b = digit_of b < 10

-- THEOREM (proofs/ReadBack.antt):
pub record DecimalTheorem : Type 0 where
  -- reading the text of a number of at most ten digits gives the number back
  pub back : (z : ℤ) → nat_abs z < 10 ^ most_digits → signed_of (signed_text z) ≡ z
  -- the text of a count has digits only, one to ten of them, and the first is not 0 but in 0 itself
  pub digits : (v : ℕ) → Each IsDigit (count_text v)
  pub some : (v : ℕ) → 1 ≤ length (count_text v)
  pub most : (v : ℕ) → length (count_text v) ≤ most_digits
  pub leading : (v : ℕ) → 1 ≤ v → v < 10 ^ most_digits → 49 ≤ get_or (count_text v) 0 48
