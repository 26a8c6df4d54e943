-- The text of a book: where its lines stand, how long it is, and its curves read from the list of their numbers.
-- Assumes nothing.
use Rattle.std.proofs.Common.{ℕ, suc, ◌+◌, ◌-◌, ◌*◌, ◌^◌, ◌≤◌, ◌<◌, ◌≡◌, refl, sym, ap, ◌∙◌, subst, List, [], ◌∷◌, ◌++◌, append_assoc, append-nil, arith, zero-add, ℤ, pos, negsuc, length, take, drop, length-append, ltb, ltb-true, ltb-false, take_at, drop_at, length-take-le}
use lib.ListN.{length-map}
use lib.Seq.{take-append_seam, drop-length}
use Rattle.decimal.specs.Decimal.{Each, digits_text}
use Rattle.decimal.proofs.Choices.{cond_case}
use Rattle.decimal.proofs.Digits.{digits_most, digits_few}
use Rattle.card_list.specs.List.{name_place_in}
use Rattle.book.specs.Body.{card_numbers, end_of}
use Rattle.book.specs.Printed.{IsName, IsCount, IsBody, IsBook, Curve, number_text, signed_number_text, numbers_text, eight_of, mark_of, height_of, grade_of, is_nought, shown_numbers, contents_text, contents_texts, body_text, body_texts, names_of, bodies_of, book_text, greatest_book}
use Rattle.book.specs.LineMeaning.{Stands}
use Rattle.book.specs.Meaning.{entries, curve_in, curves_in}
use Rattle.book.proofs.Standing.{stands_front, stands_back}

-- a name and a body for each curve
pub names_length : (curves : List Curve) → length (names_of curves) ≡ length curves
names_length curves = length-map curves (λ (curve : Curve). curve.name)

pub bodies_length : (curves : List Curve) → length (bodies_of curves) ≡ length curves
bodies_length curves = length-map curves (λ (curve : Curve). curve.numbers)

-- Lengths.
number_most : (v end : ℕ) → length (number_text v end) ≤ 8
number_most v end = omega (arith, length-append (digits_text 7 v) (end ∷ []), digits_most 7 v)

-- a minus is a byte more
signed_most : (z : ℤ) (end : ℕ) → length (signed_number_text z end) ≤ 9
unfolding signed_number_text
signed_most (pos n) end = omega (arith, number_most n end)
signed_most (negsuc n) end = omega (arith, number_most (suc n) end)

numbers_most : (numbers : List ℤ) → length (numbers_text numbers) ≤ 9 * length numbers
unfolding numbers_text
numbers_most [] = omega arith
numbers_most (z ∷ numbers) =
    omega (arith, length-append (signed_number_text z (end_of (length numbers))) (numbers_text numbers), signed_most z (end_of (length numbers)), numbers_most numbers)

-- numbers that are not below nought, and others behind them
counts_most : (counts numbers : List ℤ) → Each IsCount counts → length (numbers_text (counts ++ numbers)) ≤ 8 * length counts + 9 * length numbers
unfolding Each numbers_text signed_number_text
counts_most [] numbers all = omega (arith, numbers_most numbers)
counts_most (pos n ∷ counts) numbers all =
    let end : ℕ = end_of (length (counts ++ numbers)) in
    omega (arith, length-append (number_text n end) (numbers_text (counts ++ numbers)), number_most n end, counts_most counts numbers all.1)
counts_most (negsuc n ∷ counts) numbers all = absurd all.0

pub body_most : (numbers : List ℤ) → IsBody numbers → length (body_text numbers) ≤ 82
unfolding body_text shown_numbers
body_most numbers body =
    let eight : length (eight_of numbers) ≡ 8 = length-take-le 8 numbers (omega (arith, body.eleven)) in
    let two : List ℤ = height_of numbers ∷ grade_of numbers ∷ [] in
    cond_case (λ (last : List ℤ). length (numbers_text (eight_of numbers ++ last)) ≤ 82) (is_nought (mark_of numbers)) [] two
    (λ t. omega (arith, eight, counts_most (eight_of numbers) [] body.eight))
    (λ t. omega (arith, eight, counts_most (eight_of numbers) two body.eight))

bodies_most : (bodies : List (List ℤ)) → Each IsBody bodies → length (body_texts bodies) ≤ 82 * length bodies
unfolding Each body_texts
bodies_most [] cards = omega arith
bodies_most (numbers ∷ bodies) cards =
    omega (arith, length-append (body_text numbers) (body_texts bodies), body_most numbers cards.0, bodies_most bodies cards.1)

-- a number below a power of ten, and the byte that ends it
number_few : (n v end : ℕ) → 1 ≤ n → v < 10 ^ n → length (number_text v end) ≤ n + 1
number_few n v end some h = omega (arith, length-append (digits_text 7 v) (end ∷ []), digits_few 7 n v some h)

-- at most 13 bytes a line up to line 999, and one less up to line 99
contents_most : (line : ℕ) (names : List (List ℕ)) → Each IsName names → line + length names ≤ 1000
    → length (contents_texts line names) + (100 - line) ≤ 13 * length names + (100 - line - length names)
unfolding Each contents_texts
contents_most line [] known low = omega arith
contents_most line (name ∷ names) known low =
    let all = length-append (contents_text name line) (contents_texts (line + 1) names) in
    let one = length-append name (32 ∷ number_text line 10) in
    let rest = contents_most (line + 1) names known.1 (omega arith) in
    cond_case (λ (u : Unit {0}). length (contents_text name line ++ contents_texts (line + 1) names) + (100 - line)
    ≤ 13 * suc (length names) + (100 - line - suc (length names))) (ltb line 100) tt tt
    (λ t. let few : length (number_text line 10) ≤ 3 = number_few 2 line 10 (omega arith) (ltb-true line 100 t) in
    omega (arith, all, one, rest, known.0.short, ltb-true line 100 t))
    (λ t. let few : length (number_text line 10) ≤ 4 = number_few 3 line 10 (omega arith) (omega arith) in
    omega (arith, all, one, rest, known.0.short, ltb-false line 100 t))

module _ (curves : List Curve) where
  abbrev count : ℕ
  count = length curves

  abbrev count_line : List ℕ
  count_line = number_text count 10

  abbrev contents : List ℕ
  contents = contents_texts (count + 2) (names_of curves)

  abbrev bodies : List ℕ
  bodies = body_texts (bodies_of curves)

  text_length : length (book_text curves) ≡ length count_line + (length contents + length bodies)
  unfolding book_text
  text_length = length-append count_line (contents ++ bodies) ∙ ap (λ (k : ℕ). length count_line + k) (length-append contents bodies)

  pub book_most : IsBook curves → length (book_text curves) ≤ greatest_book
  book_most book =
      omega (
        arith,
        text_length,
        number_few 2 count 10 (omega arith) (omega (arith, book.few)),
        contents_most (count + 2) (names_of curves) book.names (omega (arith, names_length curves, book.few)),
        bodies_most (bodies_of curves) book.bodies,
        names_length curves,
        bodies_length curves,
        book.few,
      )

  pub book_some : length (book_text curves) ≡ 0 → ⊥
  book_some e = absurd (omega (arith, text_length, length-append (digits_text 7 count) (10 ∷ [])))

  -- Places: the lines of a book stand behind each other.
  whole : Stands (book_text curves) 0 (count_line ++ (contents ++ bodies)) (length (book_text curves))
  unfolding book_text
  whole = record {
    there = sym (append-nil (book_text curves)) ∙ ap (λ (r : List ℕ). book_text curves ++ r) (sym (drop-length (book_text curves)));
    after = sym (zero-add (length (book_text curves)));
  }

  -- the place of the first contents line, and that of the first body
  abbrev pub contents_place : ℕ
  contents_place = length count_line

  abbrev pub bodies_place : ℕ
  bodies_place = contents_place + length contents

  pub count_stands : Stands (book_text curves) 0 count_line contents_place
  count_stands = subst (Stands (book_text curves) 0 count_line) (zero-add contents_place) (stands_front count_line (contents ++ bodies) whole)

  behind_count : Stands (book_text curves) contents_place (contents ++ bodies) (length (book_text curves))
  behind_count =
      subst (λ (p : ℕ). Stands (book_text curves) p (contents ++ bodies) (length (book_text curves))) (zero-add contents_place)
      (stands_back count_line (contents ++ bodies) whole)

  pub contents_stand : Stands (book_text curves) contents_place contents bodies_place
  contents_stand = stands_front contents bodies behind_count

  pub bodies_stand : Stands (book_text curves) bodies_place bodies (length (book_text curves))
  bodies_stand = stands_back contents bodies behind_count

-- the curves of the list that a book fills
pub curves_read : (text : List ℕ) (curves : List Curve) (at line end : ℕ) (rest : List ℤ) → Each IsBody (bodies_of curves)
    → Stands text at (contents_texts line (names_of curves)) end → curves_in (length curves) text (entries at line curves ++ rest) ≡ curves
unfolding Each contents_texts entries curves_in curve_in name_place_in
curves_read text [] at line end rest cards s = refl
curves_read text (curve ∷ curves) at line end rest cards s =
    let next : ℕ = at + length (contents_text curve.name line) in
    let later : List ℤ = entries next (line + 1) curves in
    let first : Stands text at (contents_text curve.name line) next = stands_front (contents_text curve.name line) _ s in
    let name : take (length curve.name) (drop at text) ≡ curve.name =
    ap (take (length curve.name)) (first.there ∙ append_assoc curve.name (32 ∷ number_text line 10) (drop next text))
    ∙ take-append_seam curve.name _ in
    let joined : curve.numbers ++ later ++ rest ≡ curve.numbers ++ (later ++ rest) = append_assoc curve.numbers later rest in
    let numbers : take card_numbers (curve.numbers ++ later ++ rest) ≡ curve.numbers =
    ap (take card_numbers) joined ∙ take_at curve.numbers (later ++ rest) card_numbers cards.0.eleven in
    let others : drop card_numbers (curve.numbers ++ later ++ rest) ≡ later ++ rest =
    ap (drop card_numbers) joined ∙ drop_at curve.numbers (later ++ rest) card_numbers cards.0.eleven in
    let tail : curves_in (length curves) text (drop card_numbers (curve.numbers ++ later ++ rest)) ≡ curves =
    ap (curves_in (length curves) text) others
    ∙ curves_read text curves next (line + 1) end rest cards.1 (stands_back (contents_text curve.name line) _ s) in
    λ i. record { name = name i; numbers = numbers i } ∷ tail i
