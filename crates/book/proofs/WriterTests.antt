-- The tests of the writer in their order: what is known of a list after each of them, and what it is answered.
-- Assumes nothing.
use Prim.Native.Nat.{ℕ, ◌≤◌, ◌<◌}
use mathlib.Core.Path.{◌≡◌, sym, ap, ◌∙◌, subst}
use mathlib.Core.Bool.{Bool, true, false, cond}
use mathlib.Core.List.{List, map}
use native.Mathlib.Omega.{arith}
use lib.IntN.{ℤ}
use lib.ListN.{length, take}
use lib.Seq.{sets}
use borrow.Author.Tests.{lt-ltb, le-ltb}
use Rattle.std.specs.Prelude.{Option, None, Some, Result, Ok, Err}
use Rattle.std.specs.Option.{ok_or}
use Rattle.std.specs.Simd.{first_chunks}
use Rattle.decimal.proofs.Choices.{neither_met, second_met}
use Rattle.card.specs.Words.{◌below◌}
use Rattle.card_list.specs.List.{curve_width}
use Rattle.book.specs.Printed.{Curve, bodies_of, book_text, greatest_book}
use Rattle.book.specs.Meaning.{curve_in}
use Rattle.book.specs.Writing.{curve_count, curves_of, wrong_length, some_wrong, some_unfit, wrong_list, twinned, unwritable}
use Rattle.book.specs.WriterSteps.{cards_in, any_wrong, KeysRead, twin_keys, Sizes}
use Rattle.book.specs.declared.ListRefusal.{ListRefusal}
use Rattle.book.specs.declared.ListRefusal.TheVariants.{WrongList, ListedTwin, ShortBuffer}
use Rattle.book.proofs.BookText.{book_most}
use Rattle.book.proofs.WriterNames.{keys_twins}
use Rattle.book.proofs.WriterCurves.{some_of, none_of, bodies_are, cut_wrong, cut_curves}
use Rattle.book.proofs.WriterReplies.{Answered, answered_wrong, answered_twin, answered_short, answered_written, number-none}
use Rattle.book.proofs.WriterMeaning.{is_book}

-- the curves into which a list is cut
abbrev pub Cut : List ℤ → List (List ℤ) → Type 0
Cut list curves = curves ≡ first_chunks curve_width (curve_count (length list)) list

-- what a refusal gives where a value is missed
pub refused_by : {A : Type 0} {result : Result ℕ ListRefusal} {value : Option A} {refusal given : ListRefusal}
    → (other : ListRefusal) × (result ≡ Err other) × (other ≡ given) → ◌≡◌ {A = Result A ListRefusal} (Err given) (ok_or value refusal) → value ≡ None → result ≡ Err refusal
refused_by {value = value} {refusal = refusal} p e n =
    let f : ok_or value refusal ≡ Err refusal = rw n in
    let q = p.1 in
    let r = p.2 in
    cc

-- 31
module _ (list : List ℤ) (names buffer : List ℕ) {curves : List (List ℤ)} (cut : Cut list curves) where
  wrong_is : any_wrong names curves ≡ some_wrong (curve_count (length list)) names list
  wrong_is = ap (any_wrong names) cut ∙ cut_wrong (curve_count (length list)) names list

  pub unnamed : {keys : Option (List ℕ)} → KeysRead names curves keys → keys ≡ None → Answered list names buffer (Err WrongList) buffer
  unnamed k e = answered_wrong list names buffer (second_met (wrong_length (length list)) _ (sym wrong_is ∙ subst (KeysRead names curves) e k))

-- the list is right: what is known of its curves and their keys
pub record Named (list : List ℤ) (names : List ℕ) (curves : List (List ℤ)) (keys : List ℕ) : Type 0 where
  pub right : any_wrong names curves ≡ false
  pub right_list : wrong_list list names ≡ false
  pub own : map (curve_in names) curves ≡ curves_of list names
  pub twin : twin_keys (take (length curves) keys) ≡ twinned list names

pub named : (list : List ℤ) (names : List ℕ) {curves : List (List ℤ)} {read : Option (List ℕ)} {keys : List ℕ} → wrong_length (length list) ≡ false
    → Cut list curves → KeysRead names curves read → read ≡ Some keys → Named list names curves keys
named list names {curves} sized cut k e =
    let r = subst (KeysRead names curves) e k in
    let own : map (curve_in names) curves ≡ curves_of list names = ap (map (curve_in names)) cut ∙ cut_curves (curve_count (length list)) names list in
    record {
      right = r.0;
      right_list = neither_met (wrong_length (length list)) _ sized (sym (wrong_is list names names cut) ∙ r.0);
      own = own;
      twin = ap twin_keys r.1 ∙ keys_twins names curves r.0 ∙ rw own;
    }

-- a list whose book has so many bytes: what it is answered, with the room that there is
pub record Measured (list : List ℤ) (names buffer : List ℕ) (curves : List (List ℤ)) (count : ℕ) : Type 0 where
  pub names_right : any_wrong names curves ≡ false
  pub cards_fit : some_unfit (cards_in curves) ≡ false
  pub short : length buffer < count → Answered list names buffer (Err ShortBuffer) buffer
  pub in_bounds : count ≤ length buffer → length (book_text (map (curve_in names) curves)) ≤ length buffer
  pub few : count ≤ length buffer → count ≤ greatest_book
  pub written : {after : List ℕ} → count ≤ length buffer → after ≡ sets buffer 0 (book_text (map (curve_in names) curves)) → Answered list names buffer (Ok count) after

module _ (list : List ℤ) (names buffer : List ℕ) {curves : List (List ℤ)} {keys : List ℕ} (n : Named list names curves keys)
    {twin : Bool} (e : twin ≡ twin_keys (take (length curves) keys)) where
  -- 32
  pub twin_listed : twin ≡ true → Answered list names buffer (Err ListedTwin) buffer
  twin_listed t = answered_twin list names buffer n.right_list (sym (e ∙ n.twin) ∙ t)

  module _ (apart : twin ≡ false) {size : Option ℕ} (s : Sizes curves size) where
    no_twin : twinned list names ≡ false
    no_twin = sym (e ∙ n.twin) ∙ apart

    size_is : size ≡ cond (some_unfit (bodies_of (curves_of list names))) None (Some (length (book_text (curves_of list names))))
    size_is = s names n.right ∙ rw (sym (bodies_are names curves), n.own)

    -- 33
    pub unfit : size ≡ None → Answered list names buffer (Err ShortBuffer) buffer
    unfit z =
        answered_short list names buffer n.right_list no_twin
        (second_met (length buffer below length (book_text (curves_of list names))) _ (none_of _ _ (sym z ∙ size_is)))

    module _ {count : ℕ} (z : size ≡ Some count) where
      fit : (some_unfit (bodies_of (curves_of list names)) ≡ false) × (count ≡ length (book_text (curves_of list names)))
      fit = some_of (some_unfit (bodies_of (curves_of list names))) (sym z ∙ size_is)

      writable : count ≤ length buffer → unwritable list names (length buffer) ≡ false
      writable h = neither_met _ _ (le-ltb (length buffer) (length (book_text (curves_of list names))) (omega (arith, fit.1))) fit.0

      pub measured : Measured list names buffer curves count
      measured = record {
        names_right = n.right;
        cards_fit = ap some_unfit (sym (bodies_are names curves) ∙ ap bodies_of n.own) ∙ fit.0;
        short = λ h. answered_short list names buffer n.right_list no_twin
            (rw (lt-ltb (length buffer) (length (book_text (curves_of list names))) (omega (arith, fit.1))));
        in_bounds = λ h. rw n.own (omega (arith, fit.1));
        few = λ h. omega (
          arith,
          fit.1,
          book_most (curves_of list names)
              (is_book list names (length buffer) (number-none list names buffer n.right_list no_twin (writable h))),
        );
        written = λ h w. answered_written list names buffer n.right_list no_twin (writable h) fit.1 (w ∙ ap (λ (c : List Curve). sets buffer 0 (book_text c)) n.own);
      }
