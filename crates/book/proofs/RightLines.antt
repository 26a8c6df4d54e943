-- The lines that a reader found right: one more contents line, one more body, and the curves of all of them.
-- Assumes nothing.
use Rattle.std.proofs.Common.{ℕ, suc, ◌+◌, ◌≤◌, ◌≡◌, refl, sym, ap, ◌∙◌, subst, List, [], ◌∷◌, ◌++◌, append_assoc, append-nil, arith, ℤ, length, drop}
use native.Mathlib.Nat.{suc_inj}
use Rattle.decimal.specs.Decimal.{Each}
use Rattle.decimal.proofs.Choices.{each_more}
use Rattle.book.specs.Book.{most_curves}
use Rattle.book.specs.LineMeaning.{Stands}
use Rattle.book.specs.Printed.{IsName, IsBody, Differs, NoTwins, Curve, number_text, contents_text, contents_texts, body_text, body_texts, lines_text, names_of, bodies_of, book_text}
use Rattle.book.specs.Meaning.{TextOfBook}
use Rattle.book.specs.Reasons.{Right}
use Rattle.book.proofs.Lists.{twins_more, contents_more_text, bodies_more_text}

-- the text of the lines, one line longer
lines_name : (n : ℕ) (names : List (List ℕ)) (name : List ℕ)
    → lines_text n (names ++ (name ∷ [])) [] ≡ lines_text n names [] ++ contents_text name (n + 2 + length names)
unfolding body_texts
lines_name n names name =
    let line : List ℕ = contents_text name (n + 2 + length names) in
    let before : List ℕ = contents_texts (n + 2) names in
    ap (λ (r : List ℕ). number_text n 10 ++ r)
    (append-nil (contents_texts (n + 2) (names ++ (name ∷ []))) ∙ contents_more_text (n + 2) names name ∙ ap (λ (r : List ℕ). r ++ line) (sym (append-nil before)))
    ∙ sym (append_assoc (number_text n 10) (before ++ []) line)

lines_body : (n : ℕ) (names : List (List ℕ)) (bodies : List (List ℤ)) (numbers : List ℤ)
    → lines_text n names (bodies ++ (numbers ∷ [])) ≡ lines_text n names bodies ++ body_text numbers
lines_body n names bodies numbers =
    let before : List ℕ = contents_texts (n + 2) names in
    ap (λ (r : List ℕ). number_text n 10 ++ r)
    (ap (λ (r : List ℕ). before ++ r) (bodies_more_text bodies numbers) ∙ sym (append_assoc before (body_texts bodies) (body_text numbers)))
    ∙ sym (append_assoc (number_text n 10) (before ++ body_texts bodies) (body_text numbers))

-- lines and then bytes, as longer lines
longer : (text before bytes lines rest after : List ℕ) → text ≡ before ++ rest → rest ≡ bytes ++ after → lines ≡ before ++ bytes → text ≡ lines ++ after
longer text before bytes lines rest after w r l =
    w ∙ ap (λ (x : List ℕ). before ++ x) r ∙ sym (append_assoc before bytes after) ∙ ap (λ (x : List ℕ). x ++ after) (sym l)

pub right_count : (text : List ℕ) (n next : ℕ) → 1 ≤ n → n ≤ most_curves → Stands text 0 (number_text n 10) next → Right text n [] [] (drop next text)
unfolding Each NoTwins contents_texts body_texts
right_count text n next some few stands = record {
  some = some;
  few = few;
  known = tt;
  twins = tt;
  cards = tt;
  whole = stands.there ∙ ap (λ (r : List ℕ). r ++ drop next text) (sym (append-nil (number_text n 10)));
}

module _ (text : List ℕ) (n : ℕ) (names : List (List ℕ)) (at next : ℕ) where
  pub right_name : (name : List ℕ) (v : ℕ) → Right text n names [] (drop at text) → IsName name → v ≡ n + length names + 2
      → Each (Differs name) names → Stands text at (contents_text name v) next → Right text n (names ++ (name ∷ [])) [] (drop next text)
  right_name name v right known due differs stands =
      let place : v ≡ n + 2 + length names = omega arith in
      record {
        some = right.some;
        few = right.few;
        known = each_more IsName names name right.known known;
        twins = twins_more names name right.twins differs;
        cards = right.cards;
        whole = longer text (lines_text n names []) (contents_text name v) _ (drop at text) (drop next text) right.whole stands.there
            (lines_name n names name ∙ ap (λ (k : ℕ). lines_text n names [] ++ contents_text name k) (sym place));
      }

  pub right_body : (bodies : List (List ℤ)) (numbers : List ℤ) → Right text n names bodies (drop at text) → IsBody numbers
      → Stands text at (body_text numbers) next → Right text n names (bodies ++ (numbers ∷ [])) (drop next text)
  right_body bodies numbers right card stands = record {
    some = right.some;
    few = right.few;
    known = right.known;
    twins = right.twins;
    cards = each_more IsBody bodies numbers right.cards card;
    whole = longer text (lines_text n names bodies) (body_text numbers) _ (drop at text) (drop next text) right.whole stands.there
        (lines_body n names bodies numbers);
  }

-- the curves with these names and bodies
unfoldable paired : List (List ℕ) → List (List ℤ) → List Curve
paired [] bodies = []
paired (name ∷ names) [] = []
paired (name ∷ names) (numbers ∷ bodies) = record { name = name; numbers = numbers } ∷ paired names bodies

paired_length : (names : List (List ℕ)) (bodies : List (List ℤ)) → length names ≡ length bodies → length (paired names bodies) ≡ length names
unfolding paired
paired_length [] bodies e = refl
paired_length (name ∷ names) [] e = absurd (omega arith)
paired_length (name ∷ names) (numbers ∷ bodies) e = ap suc (paired_length names bodies (suc_inj e))

paired_names : (names : List (List ℕ)) (bodies : List (List ℤ)) → length names ≡ length bodies → names_of (paired names bodies) ≡ names
unfolding paired
paired_names [] bodies e = refl
paired_names (name ∷ names) [] e = absurd (omega arith)
paired_names (name ∷ names) (numbers ∷ bodies) e = ap (λ (r : List (List ℕ)). name ∷ r) (paired_names names bodies (suc_inj e))

paired_bodies : (names : List (List ℕ)) (bodies : List (List ℤ)) → length names ≡ length bodies → bodies_of (paired names bodies) ≡ bodies
unfolding paired
paired_bodies [] [] e = refl
paired_bodies [] (numbers ∷ bodies) e = absurd (omega arith)
paired_bodies (name ∷ names) [] e = absurd (omega arith)
paired_bodies (name ∷ names) (numbers ∷ bodies) e = ap (λ (r : List (List ℤ)). numbers ∷ r) (paired_bodies names bodies (suc_inj e))

-- all lines are right and no bytes are left: the text of a book
pub right_book : (text : List ℕ) (n : ℕ) (names : List (List ℕ)) (bodies : List (List ℤ)) → Right text n names bodies [] → length names ≡ n → length bodies ≡ n → TextOfBook text
unfolding book_text
right_book text n names bodies right all last =
    let same : length names ≡ length bodies = all ∙ sym last in
    let size : length (paired names bodies) ≡ n = paired_length names bodies same ∙ all in
    let ns : names ≡ names_of (paired names bodies) = sym (paired_names names bodies same) in
    let bs : bodies ≡ bodies_of (paired names bodies) = sym (paired_bodies names bodies same) in
    let m : n ≡ length (paired names bodies) = sym size in
    record {
      curves = paired names bodies;
      book = record {
        some = omega (arith, size, right.some);
        few = omega (arith, size, right.few);
        names = subst (Each IsName) ns right.known;
        bodies = subst (Each IsBody) bs right.cards;
        twins = subst NoTwins ns right.twins;
      };
      same = right.whole ∙ append-nil (lines_text n names bodies) ∙ (λ i. lines_text (m i) (ns i) (bs i));
    }
