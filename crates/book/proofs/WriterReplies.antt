-- What the tests of the writer give: its number, its reply and the buffer afterwards.
-- Assumes nothing.
use Prim.Native.Nat.{ℕ, ◌+◌, ◌*◌, ◌%◌, ◌≤◌}
use mathlib.Core.Path.{◌≡◌, refl, sym, ap, ◌∙◌}
use mathlib.Core.Bool.{Bool, true, false, cond, not}
use mathlib.Core.List.{List, ◌++◌}
use native.Mathlib.Omega.{arith}
use lib.Dec.{eqb}
use lib.IntN.{ℤ}
use lib.ListN.{length, drop}
use lib.Seq.{sets, sets-eq}
use borrow.Author.Tests.{ltb-false, eqb-true, eq-eqb, ne_eqb, not-false}
use Rattle.decimal.proofs.Choices.{or-none}
use Rattle.card.specs.Words.{◌below◌, ◌above◌, outside}
use Rattle.card.specs.Table.{reply_by}
use Rattle.card_list.specs.List.{curve_width}
use Rattle.book.specs.Book.{most_curves}
use Rattle.book.specs.Printed.{Curve, bodies_of, book_text}
use Rattle.card.specs.Told.{told}
use Rattle.book.specs.Writing.{curve_count, curves_of, wrong_length, some_unfit, wrong_list, twinned, unwritable, writer_number, reply_to_list, list_refusal_number, buffer_after}
use Rattle.book.specs.declared.ListRefusal.{ListRefusal}
use Rattle.book.specs.declared.ListRefusal.TheVariants.{WrongList, ListedTwin, ShortBuffer}
use Rattle.std.specs.Prelude.{Result, Ok, Err}

-- thirteen numbers for each of 1 to 64 curves
pub length_of : (size : ℕ) → wrong_length size ≡ false → (size ≡ curve_width * curve_count size) × ((1 ≤ curve_count size) × (curve_count size ≤ most_curves))
length_of size e =
    let both = or-none (not (eqb (size % curve_width) 0)) (outside (curve_count size) 1 most_curves) e in
    let range = or-none (curve_count size below 1) (curve_count size above most_curves) both.1 in
    let whole : size % curve_width ≡ 0 = eqb-true (size % curve_width) 0 (not-false (eqb (size % curve_width) 0) both.0) in
    (omega (arith, whole), (ltb-false (curve_count size) 1 range.0, ltb-false most_curves (curve_count size) range.1))

-- the first of three tests that is met
module _ (a b c : Bool) where
  abbrev pub given : ℕ
  given = cond a 31 (cond b 32 (cond c 33 0))

module _ (list : List ℤ) (names : List ℕ) where
  abbrev curves : List Curve
  curves = curves_of list names

  pub number_is : (room : ℕ) → writer_number list names room ≡ given (wrong_list list names) (twinned list names) (unwritable list names room)
  unfolding writer_number
  number_is room = refl

  -- what the call is answered, and the buffer afterwards
  abbrev pub Answered : List ℕ → Result ℕ ListRefusal → List ℕ → Type 0
  Answered buffer result after = record {
    value : told list_refusal_number result ≡ reply_to_list list names (length buffer);
    buffer_after : after ≡ buffer_after list names buffer;
  }

  module _ (buffer : List ℕ) where
    pub refused : (writer_number list names (length buffer) ≡ 0 → ⊥)
        → (reply_to_list list names (length buffer) ≡ reply_by (writer_number list names (length buffer)) 0) × (buffer_after list names buffer ≡ buffer)
    unfolding reply_to_list reply_by buffer_after
    refused h = (rw (ne_eqb (writer_number list names (length buffer)) 0 h), rw (ne_eqb (writer_number list names (length buffer)) 0 h))

    module _ (e : writer_number list names (length buffer) ≡ 0) where
      pub reply_is : reply_to_list list names (length buffer) ≡ reply_by 0 (length (book_text curves))
      unfolding reply_to_list
      reply_is = rw e

      pub buffer_is : buffer_after list names buffer ≡ book_text curves ++ drop (length (book_text curves)) buffer
      unfolding buffer_after
      buffer_is = rw (eq-eqb _ _ e)

    -- a refusal
    answered_refused : (refusal : ListRefusal) → writer_number list names (length buffer) ≡ list_refusal_number refusal
        → (list_refusal_number refusal ≡ 0 → ⊥) → Answered buffer (Err refusal) buffer
    unfolding reply_by
    answered_refused refusal e some =
        let both = refused (λ z. some (sym e ∙ z)) in
        record {
          value = sym (both.0 ∙ rw (e, ne_eqb (list_refusal_number refusal) 0 some));
          buffer_after = sym both.1;
        }

    pub answered_wrong : wrong_list list names ≡ true → Answered buffer (Err WrongList) buffer
    answered_wrong a = answered_refused WrongList (number_is (length buffer) ∙ rw a) (λ z. omega arith)

    pub answered_twin : wrong_list list names ≡ false → twinned list names ≡ true → Answered buffer (Err ListedTwin) buffer
    answered_twin a b = answered_refused ListedTwin (number_is (length buffer) ∙ rw (a, b)) (λ z. omega arith)

    pub answered_short : wrong_list list names ≡ false → twinned list names ≡ false → unwritable list names (length buffer) ≡ true → Answered buffer (Err ShortBuffer) buffer
    answered_short a b c = answered_refused ShortBuffer (number_is (length buffer) ∙ rw (a, b, c)) (λ z. omega arith)

    -- a book that fits
    module _ (a : wrong_list list names ≡ false) (b : twinned list names ≡ false) (c : unwritable list names (length buffer) ≡ false) where
      pub number-none : writer_number list names (length buffer) ≡ 0
      number-none = number_is (length buffer) ∙ rw (a, b, c)

      pub answered_written : {count : ℕ} {after : List ℕ} → count ≡ length (book_text curves) → after ≡ sets buffer 0 (book_text curves)
          → Answered buffer (Ok count) after
      unfolding reply_by
      answered_written q s =
          let both = or-none (length buffer below length (book_text curves)) (some_unfit (bodies_of curves)) c in
          let room : length (book_text curves) ≤ length buffer = ltb-false (length buffer) (length (book_text curves)) both.0 in
          let z : 0 + length (book_text curves) ≡ length (book_text curves) = omega arith in
          record {
            value = (λ i. record { number = 0; count = q i }) ∙ sym (reply_is number-none);
            buffer_after = s ∙ sets-eq (book_text curves) buffer 0 (omega arith) ∙ ap (λ (k : ℕ). book_text curves ++ drop k buffer) z ∙ sym (buffer_is number-none);
          }
