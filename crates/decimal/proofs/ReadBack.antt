-- The text of a signed number reads as the number: DecimalTheorem of specs/Decimal.antt.
-- Assumes nothing.
use Prim.Native.Nat.{ℕ, zero, suc, ◌+◌, ◌*◌, ◌/◌, ◌%◌, ◌^◌, ◌≤◌, ◌<◌}
use mathlib.Core.Path.{◌≡◌, refl, ap, ◌∙◌, subst}
use mathlib.Core.List.{List, [], ◌∷◌, ◌++◌}
use native.Mathlib.Omega.{arith}
use borrow.Author.Tests.{ne_eqb}
use lib.IntN.{ℤ, pos, negsuc, neg_ℤ, nat_abs}
use lib.ListN.{get_or}
use Rattle.decimal.proofs.Digits.{of_digit, digit_or, digits_most, text_none, text_one, text-more, tenth_below}
use Rattle.decimal.proofs.Choices.{each_none, each_first, each_more}
use Rattle.decimal.specs.Decimal.{Each, most_digits, digit_of, digits_text, count_text, signed_text, digits_value, signed_of, IsDigit, DecimalTheorem}
use Rattle.decimal.proofs.DecimalLaws.{size-some}

-- one digit more at the end
value_more : (u d : ℕ) (text : List ℕ) → d < 10 → digits_value u (text ++ ((48 + d) ∷ [])) ≡ digits_value u text * 10 + d
unfolding digits_value
value_more u d [] h = ap (λ (x : ℕ). u * 10 + x) (of_digit d h)
value_more u d (b ∷ text) h = value_more (u * 10 + digit_of b) d text h

-- the digits of a number have its value
text_value : (k v : ℕ) → v < 10 ^ k → digits_value 0 (digits_text k v) ≡ v
unfolding digits_value
text_value zero v h = ap (digits_value 0) (text_none v) ∙ omega arith
text_value (suc k) v h =
    digit_or v
    (λ l. ap (digits_value 0) (text_one k v l) ∙ value_more 0 v [] l ∙ omega arith)
    (λ l. ap (digits_value 0) (text-more k v l)
    ∙ value_more 0 (v % 10) (digits_text k (v / 10)) (omega arith)
    ∙ omega (arith, text_value k (v / 10) (tenth_below k v h)))

-- the text of a count has digits only
text_digits : (k v : ℕ) → Each IsDigit (digits_text k v)
text_digits zero v = rw (text_none v) (each_none IsDigit)
text_digits (suc k) v =
    digit_or v
    (λ l. rw (text_one k v l) (each_more IsDigit [] (48 + v) (each_none IsDigit) (rw (of_digit v l) l)))
    (λ l. let d : v % 10 < 10 = omega arith in
    rw (text-more k v l) (each_more IsDigit (digits_text k (v / 10)) (48 + v % 10) (text_digits k (v / 10)) (rw (of_digit (v % 10) d) d)))

-- no digit is a minus, so a text of digits reads as a count
signed_plain : (text : List ℕ) → Each IsDigit text → signed_of text ≡ pos (digits_value 0 text)
unfolding signed_of digits_value
signed_plain [] all = refl
signed_plain (b ∷ text) all = simp (ne_eqb b 45 (λ e. let d : 10 < 10 = subst IsDigit e (each_first IsDigit b text all) in omega arith))

back : (z : ℤ) → nat_abs z < 10 ^ most_digits → signed_of (signed_text z) ≡ z
unfolding signed_of signed_text
back (pos n) h = signed_plain (count_text n) (text_digits most_digits n) ∙ ap pos (text_value most_digits n h)
back (negsuc n) h = ap (λ (m : ℕ). neg_ℤ (pos m)) (text_value most_digits (suc n) h)

-- the first digit stays the first where there is one
first-kept : (text : List ℕ) (b : ℕ) → 49 ≤ get_or text 0 48 → 49 ≤ get_or (text ++ (b ∷ [])) 0 48
first-kept [] b h = absurd (omega arith)
first-kept (first ∷ text) b h = h

text_leading : (k v : ℕ) → 1 ≤ v → v < 10 ^ k → 49 ≤ get_or (digits_text k v) 0 48
text_leading zero v some few = absurd (omega arith)
text_leading (suc k) v some few =
    digit_or v
    (λ l. rw (text_one k v l) (omega arith))
    (λ l. let more : 1 ≤ v / 10 = omega arith in
    rw (text-more k v l) (first-kept (digits_text k (v / 10)) (48 + v % 10) (text_leading k (v / 10) more (tenth_below k v few))))

pub read_back : DecimalTheorem
read_back = record {
  back = back;
  digits = text_digits most_digits;
  some = λ v. size-some most_digits v (omega arith);
  most = digits_most most_digits;
  leading = text_leading most_digits;
}
