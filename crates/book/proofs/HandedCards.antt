-- Each curve in the list of a book hands over the curve's own numbers and name.
-- Assumes nothing.
use Rattle.std.proofs.Common.{ℕ, suc, ◌+◌, ◌*◌, ◌<◌, arith, add-zero, ◌≡◌, refl, sym, ap, ap₂, ◌∙◌, List, [], ◌∷◌, ◌++◌, map, append_assoc, ℤ, pos, length, drop, get_or-drop, lit<}
use lib.ListN.{get_or-append}
use lib.Seq.{drop-append-add}
use Rattle.decimal.specs.Decimal.{Each}
use Rattle.card.specs.Card.{card_on}
use Rattle.card_list.specs.List.{curve_width, counted, datum_of, number_of, datum_from, card_from, card_in, name_place_of, name_place_in, name_bytes, name_in}
use Rattle.book.specs.Body.{card_numbers}
use Rattle.book.specs.Printed.{Curve, IsBody, bodies_of, contents_text, book_text}
use Rattle.book.specs.Meaning.{entries, curve_in, curves_in}
use Rattle.book.specs.Cards.{HandedTheorem}
use Rattle.book.proofs.BookMeaning.{meaning}

-- a list starts with these numbers
record Begins (list numbers : List ℤ) : Type 0 where
  rest : List ℤ
  whole : list ≡ numbers ++ rest

-- the numbers of a curve stand in the entries behind thirteen numbers for each curve before, and two more
entries_numbers : (before : List Curve) (curve : Curve) (later : List Curve) (at line : ℕ) (rest : List ℤ)
    → Each IsBody (bodies_of (before ++ (curve ∷ later)))
    → Begins (drop (curve_width * length before + 2) (entries at line (before ++ (curve ∷ later)) ++ rest)) curve.numbers
unfolding entries Each
entries_numbers [] curve later at line rest bodies =
    record {
      rest = entries (at + length (contents_text curve.name line)) (line + 1) later ++ rest;
      whole = append_assoc curve.numbers _ rest;
    }
entries_numbers (first ∷ before) curve later at line rest bodies =
    let next = at + length (contents_text first.name line) in
    let others = entries next (line + 1) (before ++ (curve ∷ later)) in
    let found = entries_numbers before curve later next (line + 1) rest bodies.1 in
    let entry = pos at ∷ pos (length first.name) ∷ first.numbers in
    let skipped : curve_width * suc (length before) + 2 ≡ length entry + (curve_width * length before + 2) = omega (arith, bodies.0.eleven) in
    record {
      rest = found.rest;
      whole =
          ap (λ (l : List ℤ). drop (curve_width * suc (length before) + 2) l) (append_assoc entry others rest)
          ∙ ap (λ (k : ℕ). drop k (entry ++ (others ++ rest))) skipped
          ∙ drop-append-add entry (others ++ rest) (curve_width * length before + 2)
          ∙ found.whole;
    }

-- what holds of each curve's part, as its body or its name, holds of this curve's
pub own_part : {A : Type 0} (P : A → Type 0) (part : Curve → A) (before : List Curve) (curve : Curve) (later : List Curve)
    → Each P (map part (before ++ (curve ∷ later))) → P (part curve)
unfolding Each
own_part P part [] curve later all = all.0
own_part P part (first ∷ before) curve later all = own_part P part before curve later all.1

-- eleven numbers that stand in a list from a place on make the same card there as by themselves
module _ (list : List ℤ) (at : ℕ) (numbers : List ℤ) (found : Begins (drop at list) numbers) (eleven : length numbers ≡ card_numbers) where
  -- the j-th of them stands at a place p of the list
  number_there : (j p : ℕ) → j < card_numbers → p ≡ at + j → number_of list p ≡ number_of numbers j
  number_there j p few e =
      ap (number_of list) e
      ∙ sym (get_or-drop at list j (pos 0))
      ∙ ap (λ (l : List ℤ). number_of l j) found.whole
      ∙ get_or-append numbers found.rest (pos 0) j (omega arith)

  card_there : card_from list at ≡ card_from numbers 0
  unfolding card_from datum_from
  card_there =
      λ i. card_on
      (datum_of (number_there 8 (at + 8) (lit< tt) refl i) (number_there 9 (at + 8 + 1) (lit< tt) (omega arith) i) (number_there 10 (at + 8 + 2) (lit< tt) (omega arith) i))
      (counted (number_there 0 at (lit< tt) (sym (add-zero at)) i))
      (counted (number_there 1 (at + 1) (lit< tt) refl i))
      (counted (number_there 2 (at + 2) (lit< tt) refl i))
      (counted (number_there 3 (at + 3) (lit< tt) refl i))
      (counted (number_there 4 (at + 4) (lit< tt) refl i))
      (counted (number_there 5 (at + 5) (lit< tt) refl i))
      (counted (number_there 6 (at + 6) (lit< tt) refl i))
      (counted (number_there 7 (at + 7) (lit< tt) refl i))

-- the first curve's name, and the curves after it
abbrev first_name : List Curve → List ℕ
first_name [] = []
first_name (curve ∷ curves) = curve.name

abbrev later_curves : List Curve → List Curve
later_curves [] = []
later_curves (curve ∷ curves) = curves

-- the name of the curve after k others is that after k − 1 others once the first thirteen numbers are left out
name_further : (text : List ℕ) (list : List ℤ) (k : ℕ) → name_in text list (suc k) ≡ name_in text (drop curve_width list) k
unfolding name_place_in
name_further text list k =
    let place : curve_width * suc k ≡ curve_width + curve_width * k = omega arith in
    let size : curve_width * suc k + 1 ≡ curve_width + (curve_width * k + 1) = omega arith in
    let at = ap (number_of list) place ∙ sym (get_or-drop curve_width list (curve_width * k) (pos 0)) in
    let long = ap (number_of list) size ∙ sym (get_or-drop curve_width list (curve_width * k + 1) (pos 0)) in
    ap₂ (λ (p n : ℤ). name_bytes text (name_place_of p n)) at long

-- the name of the curve that stands at a place among the curves of a list
name_there : (before : List Curve) (curve : Curve) (later : List Curve) (text : List ℕ) (list : List ℤ)
    → curves_in (length (before ++ (curve ∷ later))) text list ≡ before ++ (curve ∷ later) → name_in text list (length before) ≡ curve.name
unfolding curves_in curve_in name_place_in
name_there [] curve later text list same = ap (λ (curves : List Curve). first_name curves) same
name_there (first ∷ before) curve later text list same =
    name_further text list (length before)
    ∙ name_there before curve later text (drop curve_width list) (ap (λ (curves : List Curve). later_curves curves) same)

pub handed_cards : HandedTheorem
handed_cards before curve later list book room =
    let curves = before ++ (curve ∷ later) in
    let rest = drop (curve_width * length curves) list in
    let found = entries_numbers before curve later _ _ rest book.bodies in
    let stands = (meaning.accepted curves book list room).1 in
    record {
      card =
          ap (λ (l : List ℤ). card_in l (length before)) stands
          ∙ card_there _ _ curve.numbers found (own_part IsBody (λ (c : Curve). c.numbers) before curve later book.bodies).eleven;
      name =
          ap (λ (l : List ℤ). name_in (book_text curves) l (length before)) stands
          ∙ name_there before curve later (book_text curves) _ (meaning.given curves book rest);
    }
