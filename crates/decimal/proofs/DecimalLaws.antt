-- Laws of decimal text: how many digits it has, how it is stored from its last digit on, and how a sign is told.
-- Assumes nothing.
use Prim.Native.Nat.{ℕ, zero, suc, ◌+◌, ◌-◌, ◌*◌, ◌/◌, ◌%◌, ◌^◌, ◌≤◌, ◌<◌}
use mathlib.Core.Path.{◌≡◌, refl, sym, ap, ap₂, ◌∙◌, subst}
use mathlib.Core.Bool.{true, false}
use mathlib.Core.List.{List, [], ◌∷◌, ◌++◌, append_assoc}
use native.Mathlib.Omega.{arith}
use native.Mathlib.Nat.{pow-suc}
use native.Mathlib.Numerals.{add-one}
use lib.ListN.{length, set, drop, length-append}
use lib.Seq.{sets, set_comm}
use lib.Dec.{T}
use lib.IntN.{ℤ, pos, negsuc, nat_abs, ◌-ℤ◌}
use lib.Signed.{lt_z}
use borrow.Author.Tests.{ltb-true}
use Rattle.std.specs.Prelude.{Option, None, Some, IfNone, IfSome}
use Rattle.std.specs.Option.{unwrap_or}
use Rattle.std.proofs.lemmas.List.{drop-set}
use Rattle.decimal.specs.Decimal.{most_digits, digits_text, count_text, signed_text}
use Rattle.decimal.proofs.Digits.{digit_or, text_none, text_one, text-more, tenth_below}
use Rattle.decimal.proofs.Choices.{none_left}

-- ---- how many digits
size_one : (k v : ℕ) → v < 10 → length (digits_text (suc k) v) ≡ 1
size_one k v h = ap length (text_one k v h)

size_more : (k v : ℕ) → 10 ≤ v → length (digits_text (suc k) v) ≡ length (digits_text k (v / 10)) + 1
size_more k v h = ap length (text-more k v h) ∙ length-append (digits_text k (v / 10)) ((48 + v % 10) ∷ [])

pub size-some : (k v : ℕ) → 0 < k → 1 ≤ length (digits_text k v)
size-some zero v some = absurd (omega arith)
size-some (suc k) v some = digit_or v (λ h. omega (arith, size_one k v h)) (λ h. omega (arith, size_more k v h))

-- the digits of v are counted from the last one on: those of `whole` but its last are left to count, and they are `rest`
pub record Counted (v digits rest : ℕ) : Type 0 where
  pub whole : ℕ
  pub tenth : rest ≡ whole / 10
  pub few : digits ≤ most_digits
  pub small : whole < 10 ^ suc (most_digits - digits)
  pub all : length (count_text v) + 1 ≡ digits + length (digits_text (suc (most_digits - digits)) whole)

pub counted_first : (v : ℕ) → v < 10 ^ most_digits → Counted v 1 (v / 10)
counted_first v h = record { whole = v; tenth = refl; few = omega arith; small = h; all = omega arith }

-- one digit more, and it is not the eleventh
pub counted_next : {v digits rest : ℕ} → Counted v digits rest → 0 < rest → Counted v (digits + 1) (rest / 10)
counted_next {v} {digits} {rest} c h =
    let below : rest < 10 ^ (most_digits - digits) = rw c.tenth (tenth_below (most_digits - digits) c.whole c.small) in
    let p : most_digits - digits ≡ suc (most_digits - (digits + 1)) = omega (arith, some_left (most_digits - digits) below) in
    let more : 10 ≤ c.whole = omega arith in
    record {
      whole = rest;
      tenth = refl;
      few = omega arith;
      small = rw p at below;
      all = c.all ∙ omega (arith, size_more (most_digits - digits) c.whole more, ap₂ (λ (k n : ℕ). length (digits_text k n)) p (sym c.tenth));
    }
  where
    some_left : (k : ℕ) → rest < 10 ^ k → 1 ≤ k
    some_left zero l = absurd (omega arith)
    some_left (suc k) l = omega arith

pub counted_last : {v digits rest : ℕ} → Counted v digits rest → rest ≤ 0 → digits ≡ length (count_text v)
counted_last {v} {digits} {rest} c h =
    let one : c.whole < 10 = omega arith in
    omega (arith, size_one (most_digits - digits) c.whole one)

ten_some : (p : ℕ) → 1 ≤ 10 ^ p
ten_some zero = omega arith
ten_some (suc p) = omega (arith, pow-suc 10 p, ten_some p)

-- a number between two powers of ten has one digit more than the lower one says
pub size_power : (k p v : ℕ) → p < k → 10 ^ p ≤ v → v < 10 * 10 ^ p → length (digits_text k v) ≡ p + 1
size_power zero p v some low high = absurd (omega arith)
size_power (suc k) zero v some low high = omega (arith, size_one k v high)
size_power (suc k) (suc p) v some low high =
    let ten = pow-suc 10 p in
    let more : 10 ≤ v = omega (arith, ten, ten_some p) in
    omega (arith, size_more k v more, size_power k p (v / 10) (omega arith) (omega (arith, ten)) (omega (arith, ten)))

-- so the greatest power of ten in a count tells its size
pub size_told : (v : ℕ) (power : Option ℕ) → IfNone power (v ≡ 0) → IfSome power (λ k. 10 ^ k ≤ v) → IfSome power (λ k. v < 10 * 10 ^ k)
    → IfSome power (λ k. k < most_digits) → unwrap_or power 0 + 1 ≡ length (count_text v)
size_told v None nought low high few = omega (arith, size_one 9 v (omega (arith, nought)))
size_told v (Some k) nought low high few = sym (size_power most_digits k v few low high)

-- ---- the digits, from the last one on
-- the last n digits of v, whatever stands before them
unfoldable pub last_digits : ℕ → ℕ → List ℕ
last_digits zero v = []
last_digits (suc n) v = last_digits n (v / 10) ++ ((48 + v % 10) ∷ [])

last_length_lem : (n v : ℕ) → length (last_digits n v) ≡ n
unfolding last_digits
last_length_lem zero v = refl
last_length_lem (suc n) v = length-append (last_digits n (v / 10)) ((48 + v % 10) ∷ []) ∙ omega (arith, last_length_lem n (v / 10))

-- the text of a number is as many last digits as it has
pub text_last : (k v : ℕ) → digits_text k v ≡ last_digits (length (digits_text k v)) v
unfolding last_digits
text_last zero v = text_none v ∙ ap (λ (t : List ℕ). last_digits (length t) v) (sym (text_none v))
text_last (suc k) v =
    digit_or v
    (λ h. let d : v ≡ v % 10 = omega arith in
    text_one k v h ∙ ap (λ (x : ℕ). (48 + x) ∷ []) d ∙ ap (λ (n : ℕ). last_digits n v) (sym (size_one k v h)))
    (λ h. let n : suc (length (digits_text k (v / 10))) ≡ length (digits_text (suc k) v) = omega (arith, size_more k v h) in
    text-more k v h ∙ ap (λ (t : List ℕ). t ++ ((48 + v % 10) ∷ [])) (text_last k (v / 10)) ∙ ap (λ (m : ℕ). last_digits m v) n)

-- a store behind a run of stores may come first
set_first : (xs l : List ℕ) (i j b : ℕ) → i + length xs ≤ j → set (sets l i xs) j b ≡ sets (set l j b) i xs
set_first [] l i j b h = refl
set_first (x ∷ xs) l i j b h =
    set_first xs (set l i x) (suc i) j b (omega arith)
    ∙ ap (λ (m : List ℕ). sets m (suc i) xs) (set_comm l i j x b (λ e. omega arith))

-- one digit written before those behind it
digit_before : (l : List ℕ) (place v : ℕ) → place < length l
    → last_digits (suc place) v ++ drop (suc place) l ≡ last_digits place (v / 10) ++ drop place (set l place (48 + v % 10))
unfolding last_digits
digit_before l place v h =
    let d : (48 + v % 10) ∷ drop (suc place) l ≡ drop place (set l place (48 + v % 10)) = rw (sym (add-one place)) (sym (drop-set l place (48 + v % 10) h)) in
    append_assoc (last_digits place (v / 10)) ((48 + v % 10) ∷ []) (drop (suc place) l)
    ∙ ap (λ (m : List ℕ). last_digits place (v / 10) ++ m) d

pub digit_written : (l : List ℕ) (place v : ℕ) → 0 < place → place ≤ length l
    → last_digits place v ++ drop place l ≡ last_digits (place - 1) (v / 10) ++ drop (place - 1) (set l (place - 1) (48 + v % 10))
digit_written l place v some in_part =
    let p : place ≡ suc (place - 1) = omega arith in
    ap (λ (m : ℕ). last_digits m v ++ drop m l) p ∙ digit_before l (place - 1) v (omega arith)

-- no digit left to write
pub all_written : (l : List ℕ) (place v rest : ℕ) → place ≤ 0 → last_digits (length l) v ≡ last_digits place rest ++ drop place l
    → length l ≡ length (count_text v) → l ≡ count_text v
unfolding last_digits
all_written l place v rest none whole n =
    sym (whole ∙ none_left (λ (k : ℕ). last_digits k rest ++ drop k l) place none)
    ∙ ap (λ (m : ℕ). last_digits m v) n
    ∙ sym (text_last most_digits v)

-- ---- signed numbers, by the test whether one is below nought: y is what is read back of z
pub size_below : {y z : ℤ} → y ≡ z → lt_z y (pos 0) ≡ true → pos 0 -ℤ y ≡ pos (nat_abs z)
size_below {y = pos n} e t = absurd (omega (arith, ltb-true n 0 t))
size_below {y = negsuc n} e t = ap pos (omega arith) ∙ ap (λ (x : ℤ). pos (nat_abs x)) e

pub size_above : {y z : ℤ} → y ≡ z → lt_z y (pos 0) ≡ false → y ≡ pos (nat_abs z)
size_above {y = pos n} e t = ap (λ (x : ℤ). pos (nat_abs x)) e
size_above {y = negsuc n} e t = absurd (subst T t tt)

pub text_below : {y z : ℤ} {size : ℕ} → y ≡ z → size ≡ nat_abs y → lt_z y (pos 0) ≡ true → signed_text z ≡ 45 ∷ count_text size
unfolding signed_text
text_below {y = pos n} e s t = absurd (omega (arith, ltb-true n 0 t))
text_below {y = negsuc n} e s t = sym (ap signed_text e) ∙ ap (λ (m : ℕ). 45 ∷ count_text m) (sym s)

pub text_above : {y z : ℤ} {size : ℕ} → y ≡ z → size ≡ nat_abs y → lt_z y (pos 0) ≡ false → signed_text z ≡ count_text size
unfolding signed_text
text_above {y = pos n} e s t = sym (ap signed_text e) ∙ ap count_text (sym s)
text_above {y = negsuc n} e s t = absurd (subst T t tt)
