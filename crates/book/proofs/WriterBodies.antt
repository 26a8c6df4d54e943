-- The numbers of a card and its body: what the writer's tests of them say, which of them a body shows, and the bytes of each.
-- Assumes nothing.
use Prim.Native.Nat.{ℕ, zero, suc, ◌+◌, ◌-◌, ◌≤◌, ◌<◌}
use mathlib.Core.Path.{◌≡◌, refl, sym, ap, ap₂, ◌∙◌, subst}
use mathlib.Core.Bool.{Bool, true, false, cond, not, ◌||◌, true≢false, false≢true}
use mathlib.Core.List.{List, [], ◌∷◌, ◌++◌}
use native.Mathlib.Omega.{arith}
use native.Mathlib.Numerals.{add-one}
use lib.Dec.{ltb, eqb, leb-suc-suc}
use lib.IntN.{ℤ, pos, negsuc, nat_abs}
use lib.Signed.{lt_z}
use lib.ListN.{length, take, drop, length-append, length-drop, take-append-drop, drop_of_length-le, get_or-append}
use lib.Seq.{drop-cons, get_or-take, get_or-append-add, length-take-le}
use borrow.Author.Tests.{ltb-true, ltb-false, lt-ltb, le-ltb, eqb-true, eq-eqb, ne_eqb, not-false}
use mir.Syntax.{w32}
use mir.Val.{SFits, of_z, to_z}
use mir.Facts.{sfits_lit, to_z-of_z}
use Rattle.decimal.specs.Decimal.{Each, digits_text, count_text, signed_text}
use Rattle.decimal.proofs.Digits.{text_wider, digits_most}
use Rattle.decimal.proofs.Choices.{cond_case, or-none, neither_met, second_met, both_met}
use Rattle.card.specs.Words.{◌above◌}
use Rattle.card_list.specs.List.{number_of}
use Rattle.book.specs.Body.{card_numbers, end_of}
use Rattle.book.specs.Printed.{IsNumber, IsCount, IsSigned, IsDatum, IsBody, number_text, signed_number_text, numbers_text, eight_of, mark_of, height_of, grade_of, is_nought, shown_numbers, body_text}
use Rattle.book.specs.Writing.{has_long, wrong_mark, is_below, has_below, beside_nought, is_unfit}
use Rattle.book.proofs.Keys.{one_test}
use Rattle.std.proofs.lemmas.List.Recursion.{same_from_clauses}
use Rattle.std.specs.List.{list_any}
use Rattle.std.specs.Prelude.{None, Some}
use Rattle.book.specs.WriterSteps.{body_size}
use mathlib.Core.Logic.{◌⊎◌, inl, inr}

-- ---- tests of a signed number: y is what is read back of z
-- more than seven digits, above nought or below
pub long_above : {y z : ℤ} → y ≡ z → lt_z (pos 9999999) y ≡ true → true ≡ nat_abs z above 9999999
long_above {y = pos n} e t = sym t ∙ ap (λ (x : ℤ). nat_abs x above 9999999) e
long_above {y = negsuc n} e t = absurd (false≢true t)

pub long_below : {y z : ℤ} → y ≡ z → lt_z (pos 9999999) y ≡ false → lt_z y (negsuc 9999998) ≡ nat_abs z above 9999999
long_below {y = pos n} e t = sym t ∙ ap (λ (x : ℤ). nat_abs x above 9999999) e
long_below {y = negsuc n} e t = sym (leb-suc-suc 9999999 n) ∙ ap (λ (x : ℤ). nat_abs x above 9999999) e

-- below nought
pub below_is : (z : ℤ) → lt_z z (pos 0) ≡ is_below z
below_is (pos n) = le-ltb n 0 (omega arith)
below_is (negsuc n) = refl

-- nought, by its bits
nought_is : (z : ℤ) → is_nought z ≡ true → z ≡ pos 0
nought_is (pos zero) t = refl
nought_is (pos (suc n)) t = absurd (false≢true t)
nought_is (negsuc n) t = absurd (false≢true t)

not_nought : (z : ℤ) → (z ≡ pos 0 → ⊥) → is_nought z ≡ false
not_nought (pos zero) h = absurd (h refl)
not_nought (pos (suc n)) h = refl
not_nought (negsuc n) h = refl

same_bits : {a b : ℤ} → SFits w32 a → SFits w32 b → of_z w32 a ≡ of_z w32 b → a ≡ b
same_bits fa fb e = sym (to_z-of_z fa) ∙ ap (to_z w32) e ∙ to_z-of_z fb

nought_bits : {z : ℤ} → SFits w32 z → eqb (of_z w32 z) 0 ≡ is_nought z
nought_bits {z} f =
    one_test _ _
    (λ t. let e : z ≡ pos 0 = same_bits f (sfits_lit tt) (eqb-true (of_z w32 z) 0 t) in ap is_nought e)
    (λ t. eq-eqb _ _ (ap (of_z w32) (nought_is z t)))

-- mark, height and grade: a height beside mark 0, a grade beside it or none, and another mark
abbrev pub wrong_datum : (mark height grade : ℤ) → Bool
wrong_datum mark height grade = wrong_mark mark || beside_nought mark height grade

module _ (mark height grade : ℤ) where
  pub datum_height : mark ≡ pos 0 → (height ≡ pos 0 → ⊥) → true ≡ wrong_datum mark height grade
  datum_height e h = sym (ap (λ (m : ℤ). wrong_mark m || beside_nought m height grade) e ∙ rw (not_nought height h))

  pub datum_grade : SFits w32 grade → mark ≡ pos 0 → height ≡ pos 0 → not (eqb (of_z w32 grade) 0) ≡ wrong_datum mark height grade
  datum_grade f e h = ap not (nought_bits f) ∙ sym (ap₂ (λ (m x : ℤ). wrong_mark m || beside_nought m x grade) e h)

pub datum_mark : (mark height grade : ℤ) → SFits w32 mark → (mark ≡ pos 0 → ⊥) → not (eqb (of_z w32 mark) 1) ≡ wrong_datum mark height grade
datum_mark (pos zero) height grade f h = absurd (h refl)
datum_mark (pos (suc zero)) height grade f h = refl
datum_mark (pos (suc (suc n))) height grade f h = rw (ne_eqb (suc (suc n)) 1 (λ e. omega arith), lt-ltb 1 (suc (suc n)) (omega arith))
datum_mark (negsuc n) height grade f h = ap not (ne_eqb _ _ (λ e. other (same_bits f (sfits_lit tt) e)))
  where
    other : negsuc n ≡ pos 1 → ⊥
    other e = true≢false (ap is_below e)

-- one of several numbers is too long, or below nought
pub any_long : (numbers : List ℤ) → list_any (λ z. nat_abs z above 9999999) numbers ≡ has_long numbers
unfolding has_long
any_long = same_from_clauses _ has_long (λ z b. nat_abs z above 9999999 || b) refl (λ z zs. refl) (λ z zs. refl)

pub any_below : (numbers : List ℤ) → list_any (λ z. lt_z z (pos 0)) numbers ≡ has_below numbers
unfolding has_below
any_below = same_from_clauses _ has_below (λ z b. lt_z z (pos 0) || b) refl (λ z zs. refl) (λ z zs. rw below_is)

-- ---- numbers of a list, one by one
module _ (numbers : List ℤ) (i : ℕ) where
  pub numbers-none : length numbers ≤ i → numbers_text (drop i numbers) ≡ []
  unfolding numbers_text
  numbers-none h = ap numbers_text (drop_of_length-le numbers h)

  module _ (inside : i < length numbers) where
    abbrev pub here : ℤ
    here = number_of numbers i

    -- the text of a number, and of those after it
    abbrev pub here_text : List ℕ
    here_text = signed_number_text here (end_of (length numbers - (i + 1)))

    pub numbers_turn : numbers_text (drop i numbers) ≡ here_text ++ numbers_text (drop (i + 1) numbers)
    unfolding numbers_text
    numbers_turn = ap numbers_text (drop-cons numbers i (pos 0) inside) ∙ rw (length-drop, add-one)

    pub numbers_size_turn : length (numbers_text (drop i numbers)) ≡ length here_text + length (numbers_text (drop (i + 1) numbers))
    numbers_size_turn = ap length numbers_turn ∙ length-append here_text _

-- each number of a list without long ones has at most seven digits, and 0 past its end too
long_at : (numbers : List ℤ) → has_long numbers ≡ false → (i : ℕ) → IsSigned (number_of numbers i)
unfolding has_long
long_at [] e i = omega arith
long_at (z ∷ numbers) e zero = omega (arith, ltb-false 9999999 (nat_abs z) (or-none (nat_abs z above 9999999) (has_long numbers) e).0)
long_at (z ∷ numbers) e (suc i) = long_at numbers (or-none (nat_abs z above 9999999) (has_long numbers) e).1 i

-- ---- the text of a number
-- a number of at most seven digits has the digits of a count
number_digits : (v : ℕ) → IsNumber v → digits_text 7 v ≡ count_text v
number_digits v h = text_wider 6 v h ∙ text_wider 7 v (omega arith) ∙ text_wider 8 v (omega arith)

pub number_text_lem : (v end : ℕ) → IsNumber v → count_text v ++ (end ∷ []) ≡ number_text v end
number_text_lem v end h = ap (λ (t : List ℕ). t ++ (end ∷ [])) (sym (number_digits v h))

pub number_length : (v end : ℕ) → IsNumber v → length (number_text v end) ≡ length (count_text v) + 1
number_length v end h = ap length (sym (number_text_lem v end h)) ∙ length-append (count_text v) (end ∷ [])

-- and so has one of either sign, behind its minus
pub signed_text_lem : (z : ℤ) (end : ℕ) → IsSigned z → signed_text z ++ (end ∷ []) ≡ signed_number_text z end
unfolding signed_text signed_number_text
signed_text_lem (pos n) end h = number_text_lem n end h
signed_text_lem (negsuc n) end h = ap (λ (t : List ℕ). 45 ∷ t) (number_text_lem (suc n) end h)

pub signed_length : (z : ℤ) (end : ℕ) → IsSigned z → length (signed_number_text z end) ≡ length (signed_text z) + 1
signed_length z end h = ap length (sym (signed_text_lem z end h)) ∙ length-append (signed_text z) (end ∷ [])

-- seven digits and a minus at most
pub signed_short : (z : ℤ) → IsSigned z → length (signed_text z) ≤ 8
unfolding signed_text
signed_short (pos n) h = omega (arith, ap length (number_digits n h), digits_most 7 n)
signed_short (negsuc n) h = omega (arith, ap length (number_digits (suc n) h), digits_most 7 (suc n))

-- a number has bytes, and so have numbers
signed_some : (z : ℤ) (end : ℕ) → 1 ≤ length (signed_number_text z end)
unfolding signed_number_text
signed_some (pos n) end = omega (arith, length-append (digits_text 7 n) (end ∷ []))
signed_some (negsuc n) end = omega arith

numbers_some : (numbers : List ℤ) → 1 ≤ length numbers → 1 ≤ length (numbers_text numbers)
unfolding numbers_text
numbers_some [] h = absurd (omega arith)
numbers_some (z ∷ numbers) h =
    omega (arith, length-append (signed_number_text z (end_of (length numbers))) (numbers_text numbers), signed_some z (end_of (length numbers)))

-- ---- the numbers that a body shows
pub body_shows : (numbers : List ℤ) → body_text numbers ≡ numbers_text (shown_numbers numbers)
unfolding body_text
body_shows numbers = refl

module _ (numbers : List ℤ) (eleven : length numbers ≡ card_numbers) where
  abbrev shown : List ℤ
  shown = shown_numbers numbers

  eight_long : length (eight_of numbers) ≡ 8
  eight_long = length-take-le 8 numbers (omega (arith, eleven))

  shown_least : 8 ≤ length shown
  unfolding shown_numbers
  shown_least = omega (arith, length-append (eight_of numbers) (cond (is_nought (mark_of numbers)) [] (height_of numbers ∷ grade_of numbers ∷ [])), eight_long)

  -- the eight, or ten
  module _ (mark : mark_of numbers ≡ pos 0) where
    pub shown_relative : 8 ≡ length shown
    unfolding shown_numbers
    shown_relative = sym (rw mark (length-append (eight_of numbers) [] ∙ omega (arith, eight_long)))

  module _ (mark : mark_of numbers ≡ pos 0 → ⊥) where
    pub shown_absolute : 10 ≡ length shown
    unfolding shown_numbers
    shown_absolute =
        sym (rw (not_nought (mark_of numbers) mark) (length-append (eight_of numbers) (height_of numbers ∷ grade_of numbers ∷ []) ∙ omega (arith, eight_long)))

  -- so a body has bytes
  pub body_some : 1 ≤ length (body_text numbers)
  body_some = omega (arith, ap length (body_shows numbers), numbers_some shown (omega (arith, shown_least)))

  -- one of the eight
  pub shown_front : (i : ℕ) → i < 8 → number_of numbers i ≡ number_of shown i
  unfolding shown_numbers
  shown_front i h =
      sym (get_or-append (eight_of numbers) _ (pos 0) i (omega (arith, eight_long)) ∙ get_or-take 8 numbers i (pos 0) h)

  -- height and grade, behind the mark
  abbrev Behind : List ℤ → ℕ → Type 0
  Behind last k = k < length last → number_of numbers (9 + k) ≡ number_of last k

  behind : (b : Bool) (k : ℕ) → Behind (cond b [] (height_of numbers ∷ grade_of numbers ∷ [])) k
  behind true k h = absurd (omega arith)
  behind false zero h = refl
  behind false (suc zero) h = refl
  behind false (suc (suc k)) h = absurd (omega arith)

  pub shown_most : length shown ≤ 10
  unfolding shown_numbers
  shown_most =
      cond_case (λ (last : List ℤ). length (eight_of numbers ++ last) ≤ 10) (is_nought (mark_of numbers)) [] (height_of numbers ∷ grade_of numbers ∷ [])
      (λ t. omega (arith, length-append (eight_of numbers) [], eight_long))
      (λ t. omega (arith, length-append (eight_of numbers) (height_of numbers ∷ grade_of numbers ∷ []), eight_long))

  pub shown_back : (i : ℕ) → 8 ≤ i → i < length shown → number_of numbers (i + 1) ≡ number_of shown i
  unfolding shown_numbers
  shown_back i h l =
      let last : List ℤ = cond (is_nought (mark_of numbers)) [] (height_of numbers ∷ grade_of numbers ∷ []) in
      let p : i + 1 ≡ 9 + (i - 8) = omega arith in
      let q : length (eight_of numbers) + (i - 8) ≡ i = omega (arith, eight_long) in
      let inside : i - 8 < length last = omega (arith, length-append (eight_of numbers) last, eight_long) in
      ap (number_of numbers) p
      ∙ behind (is_nought (mark_of numbers)) (i - 8) inside
      ∙ sym (get_or-append-add (eight_of numbers) last (i - 8) (pos 0))
      ∙ ap (number_of shown) q

  -- each of at most seven digits, if those of the card are
  pub shown_signed : has_long numbers ≡ false → (i : ℕ) → i < length shown → IsSigned (number_of shown i)
  shown_signed e i l =
      cond_case (λ (u : Unit {0}). IsSigned (number_of shown i)) (ltb i 8) tt tt
      (λ t. subst IsSigned (shown_front i (ltb-true i 8 t)) (long_at numbers e i))
      (λ t. subst IsSigned (shown_back i (ltb-false i 8 t) l) (long_at numbers e (i + 1)))

-- ---- numbers that a body has
module _ (numbers : List ℤ) where
  -- by the tests in the order of the code
  module _ {long below : Bool} (l : long ≡ list_any (λ z. nat_abs z above 9999999) numbers) (m : below ≡ list_any (λ z. lt_z z (pos 0)) (eight_of numbers)) where
    pub unfit_numbers : (long ≡ true) ⊎ ((long ≡ false) × (below ≡ true)) → is_unfit numbers ≡ true
    unfolding is_unfit
    unfit_numbers (inl t) = rw (sym (l ∙ any_long numbers) ∙ t)
    unfit_numbers (inr f) = rw (sym (l ∙ any_long numbers) ∙ f.0, sym (m ∙ any_below (eight_of numbers)) ∙ f.1) (second_met (wrong_mark (mark_of numbers)) true refl)

    pub unfit_datum : {r : Bool} → (long ≡ false) × (below ≡ false) → r ≡ wrong_datum (mark_of numbers) (height_of numbers) (grade_of numbers) → r ≡ is_unfit numbers
    unfolding is_unfit
    unfit_datum f e = e ∙ sym (rw (sym (l ∙ any_long numbers) ∙ f.0, sym (m ∙ any_below (eight_of numbers)) ∙ f.1))

  pub body_size_none : is_unfit numbers ≡ true → None ≡ body_size numbers
  unfolding body_size
  body_size_none t = rw t

  -- the four reasons for which none has them
  fit_parts : is_unfit numbers ≡ false
      → (has_long numbers ≡ false)
      × ((wrong_mark (mark_of numbers) ≡ false)
      × ((has_below (eight_of numbers) ≡ false) × (beside_nought (mark_of numbers) (height_of numbers) (grade_of numbers) ≡ false)))
  unfolding is_unfit
  fit_parts e =
      let a = or-none (has_long numbers) _ e in
      let b = or-none (wrong_mark (mark_of numbers)) _ a.1 in
      (a.0, (b.0, or-none (has_below (eight_of numbers)) _ b.1))

  pub fit_short : is_unfit numbers ≡ false → has_long numbers ≡ false
  fit_short e = (fit_parts e).0

-- ---- the bytes of a body, number by number
module _ (numbers : List ℤ) (eleven : length numbers ≡ card_numbers) (fit : is_unfit numbers ≡ false) where
  -- a number that is shown takes its own and the byte that ends it
  pub size_turn : (i : ℕ) {size : ℕ} → i < length (shown_numbers numbers) → size ≡ length (signed_text (number_of (shown_numbers numbers) i))
      → (size ≤ 8) × (length (numbers_text (drop i (shown_numbers numbers))) ≡ size + 1 + length (numbers_text (drop (i + 1) (shown_numbers numbers))))
  size_turn i some e =
      let z : ℤ = number_of (shown_numbers numbers) i in
      let small : IsSigned z = shown_signed numbers eleven (fit_short numbers fit) i some in (
        omega (arith, e, signed_short z small),
        omega (arith, e, numbers_size_turn (shown_numbers numbers) i some, signed_length z (end_of (length (shown_numbers numbers) - (i + 1))) small),
      )

  pub body_size_whole : (i : ℕ) {size : ℕ} → length (shown_numbers numbers) ≤ i
      → size + length (numbers_text (drop i (shown_numbers numbers))) ≡ length (numbers_text (shown_numbers numbers)) → Some size ≡ body_size numbers
  unfolding body_size body_text
  body_size_whole i {size} all e =
      let whole : size ≡ length (body_text numbers) = omega (arith, ap length (numbers-none (shown_numbers numbers) i all)) in
      rw (fit, whole)

-- numbers that are not below nought and have at most seven digits
counts_are : (numbers : List ℤ) → has_long numbers ≡ false → has_below numbers ≡ false → Each IsCount numbers
unfolding has_long has_below Each
counts_are [] e f = tt
counts_are (pos n ∷ numbers) e f =
    let both = or-none (n above 9999999) (has_long numbers) e in
    (omega (arith, ltb-false 9999999 n both.0), counts_are numbers both.1 f)
counts_are (negsuc n ∷ numbers) e f = absurd (true≢false f)

are_counts : (numbers : List ℤ) → Each IsCount numbers → (has_long numbers ≡ false) × (has_below numbers ≡ false)
unfolding has_long has_below Each
are_counts [] h = (refl, refl)
are_counts (pos n ∷ numbers) h =
    let both = are_counts numbers h.1 in
    (neither_met _ _ (le-ltb 9999999 n (omega (arith, h.0))) both.0, both.1)
are_counts (negsuc n ∷ numbers) h = absurd h.0

-- none too long among the first of several, nor where others follow
long-front : (k : ℕ) (numbers : List ℤ) → has_long numbers ≡ false → has_long (take k numbers) ≡ false
unfolding has_long
long-front zero numbers e = refl
long-front (suc k) [] e = refl
long-front (suc k) (z ∷ numbers) e =
    let both = or-none (nat_abs z above 9999999) (has_long numbers) e in
    neither_met _ _ both.0 (long-front k numbers both.1)

long_joined : (front last : List ℤ) → has_long front ≡ false → has_long last ≡ false → has_long (front ++ last) ≡ false
unfolding has_long
long_joined [] last e f = f
long_joined (z ∷ front) last e f =
    let both = or-none (nat_abs z above 9999999) (has_long front) e in
    neither_met _ _ both.0 (long_joined front last both.1 f)

three_short : (a b c : ℤ) → IsSigned a → IsSigned b → IsSigned c → has_long (a ∷ b ∷ c ∷ []) ≡ false
unfolding has_long
three_short a b c p q r =
    neither_met _ _ (le-ltb 9999999 (nat_abs a) (omega (arith, p)))
    (neither_met _ _ (le-ltb 9999999 (nat_abs b) (omega (arith, q))) (neither_met _ _ (le-ltb 9999999 (nat_abs c) (omega (arith, r))) refl))

-- mark, height and grade of a card that has a body
datum_is : (mark height grade : ℤ) → wrong_mark mark ≡ false → beside_nought mark height grade ≡ false → IsSigned height → IsSigned grade
    → IsDatum mark height grade
datum_is (pos zero) height grade w b p q =
    let both = both_met (is_nought height) (is_nought grade) (not-false _ b) in
    (nought_is height both.0, nought_is grade both.1)
datum_is (pos (suc zero)) height grade w b p q = (p, q)
datum_is (pos (suc (suc n))) height grade w b p q = absurd (omega (arith, ltb-false 1 (suc (suc n)) w))
datum_is (negsuc n) height grade w b p q = absurd (true≢false w)

record RightDatum (mark height grade : ℤ) : Type 0 where
  right : wrong_mark mark ≡ false
  beside : beside_nought mark height grade ≡ false
  short : has_long (mark ∷ height ∷ grade ∷ []) ≡ false

is_datum : (mark height grade : ℤ) → IsDatum mark height grade → RightDatum mark height grade
is_datum (pos zero) height grade d = record {
  right = refl;
  beside = rw (d.0, d.1);
  short = rw (d.0, d.1) (three_short (pos 0) (pos 0) (pos 0) (omega arith) (omega arith) (omega arith));
}
is_datum (pos (suc zero)) height grade d = record {
  right = refl;
  beside = refl;
  short = three_short (pos 1) height grade (omega arith) d.0 d.1;
}
is_datum (pos (suc (suc n))) height grade d = absurd d
is_datum (negsuc n) height grade d = absurd d

-- numbers pass these tests exactly when a body has them
pub fit_body : (numbers : List ℤ) → length numbers ≡ card_numbers → is_unfit numbers ≡ false → IsBody numbers
fit_body numbers n e =
    let p = fit_parts numbers e in
    record {
      eleven = n;
      eight = counts_are (eight_of numbers) (long-front 8 numbers p.0) p.1.1.0;
      datum = datum_is (mark_of numbers) (height_of numbers) (grade_of numbers) p.1.0 p.1.1.1 (long_at numbers p.0 9) (long_at numbers p.0 10);
    }

-- eleven numbers: the eight, and three
eleven_parts : (numbers : List ℤ) → length numbers ≡ card_numbers → numbers ≡ eight_of numbers ++ (mark_of numbers ∷ height_of numbers ∷ grade_of numbers ∷ [])
eleven_parts numbers n =
    let none : drop 11 numbers ≡ [] = drop_of_length-le numbers {i = 11} (omega (arith, n)) in
    sym (take-append-drop 8 numbers)
    ∙ ap (λ (last : List ℤ). eight_of numbers ++ last)
    (drop-cons numbers 8 (pos 0) (omega (arith, n))
    ∙ ap (λ (last : List ℤ). mark_of numbers ∷ last)
    (drop-cons numbers 9 (pos 0) (omega (arith, n))
    ∙ ap (λ (last : List ℤ). height_of numbers ∷ last)
    (drop-cons numbers 10 (pos 0) (omega (arith, n))
    ∙ ap (λ (last : List ℤ). grade_of numbers ∷ last) none)))

pub body_fit : (numbers : List ℤ) → IsBody numbers → is_unfit numbers ≡ false
unfolding is_unfit
body_fit numbers body =
    let eight = are_counts (eight_of numbers) body.eight in
    let d = is_datum (mark_of numbers) (height_of numbers) (grade_of numbers) body.datum in
    let short : has_long numbers ≡ false = ap has_long (eleven_parts numbers body.eleven) ∙ long_joined (eight_of numbers) _ eight.0 d.short in
    neither_met _ _ short (neither_met _ _ d.right (neither_met _ _ eight.1 d.beside))
