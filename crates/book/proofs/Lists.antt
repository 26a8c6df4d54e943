-- Laws of lists of names and bodies that get one more at the end.
-- Assumes nothing.
use Rattle.std.proofs.Common.{ℕ, suc, ◌+◌, ◌≡◌, refl, sym, ap, ◌∙◌, List, [], ◌∷◌, ◌++◌, append_assoc, append-nil, arith, ℤ, length, drop, length-append}
use Rattle.decimal.specs.Decimal.{Each}
use Rattle.decimal.proofs.Choices.{each_more}
use Rattle.book.specs.LineMeaning.{Starts, Named}
use Rattle.book.specs.Printed.{IsName, Differs, NoTwins, contents_text, contents_texts, body_text, body_texts}

pub length_more : {A : Type 0} (xs : List A) (x : A) → length (xs ++ (x ∷ [])) ≡ length xs + 1
length_more xs x = length-append xs (x ∷ [])

-- a name that differs from all before
pub twins_more : (names : List (List ℕ)) (name : List ℕ) → NoTwins names → Each (Differs name) names → NoTwins (names ++ (name ∷ []))
unfolding NoTwins Each
twins_more [] name t d = (tt, tt)
twins_more (other ∷ names) name t d =
    (each_more (Differs other) names name t.0 (λ e. d.0 (sym e)), twins_more names name t.1 d.1)

-- where no name has a twin, one of them differs from all before
pub twins_before : (names : List (List ℕ)) (name : List ℕ) (later : List (List ℕ)) → NoTwins (names ++ (name ∷ later)) → Each (Differs name) names
unfolding NoTwins Each
twins_before [] name later t = tt
twins_before (other ∷ names) name later t = (λ e. first names t.0 (sym e), twins_before names name later t.1)
  where
    first : (xs : List (List ℕ)) → Each (Differs other) (xs ++ (name ∷ later)) → Differs other name
    first [] d = d.0
    first (x ∷ xs) d = first xs d.1

pub named_none : (text : List ℕ) → Named text [] []
unfolding Named
named_none text = tt

pub named_more : (text places : List ℕ) (names : List (List ℕ)) (at : ℕ) (name : List ℕ) → Named text places names
    → Starts (drop at text) (name ++ (32 ∷ [])) → IsName name → Named text (places ++ (at ∷ [])) (names ++ (name ∷ []))
unfolding Named
named_more text [] [] at name n s i = (s, (i, tt))
named_more text [] (other ∷ names) at name n s i = absurd n
named_more text (place ∷ places) [] at name n s i = absurd n
named_more text (place ∷ places) (other ∷ names) at name n s i = (n.0, (n.1.0, named_more text places names at name n.1.1 s i))

-- as many places as names
pub named_length : (text places : List ℕ) (names : List (List ℕ)) → Named text places names → length places ≡ length names
unfolding Named
named_length text [] [] n = refl
named_length text [] (name ∷ names) n = absurd n
named_length text (place ∷ places) [] n = absurd n
named_length text (place ∷ places) (name ∷ names) n = ap suc (named_length text places names n.1.1)

pub contents_more_text : (line : ℕ) (names : List (List ℕ)) (name : List ℕ)
    → contents_texts line (names ++ (name ∷ [])) ≡ contents_texts line names ++ contents_text name (line + length names)
unfolding contents_texts
contents_more_text line [] name =
    let z : line ≡ line + 0 = omega arith in
    append-nil (contents_text name line) ∙ ap (contents_text name) z
contents_more_text line (other ∷ names) name =
    let z : line + 1 + length names ≡ line + suc (length names) = omega arith in
    ap (λ (r : List ℕ). contents_text other line ++ r) (contents_more_text (line + 1) names name ∙ ap (λ (k : ℕ). contents_texts (line + 1) names ++ contents_text name k) z)
    ∙ sym (append_assoc (contents_text other line) (contents_texts (line + 1) names) (contents_text name (line + suc (length names))))

pub bodies_more_text : (bodies : List (List ℤ)) (numbers : List ℤ) → body_texts (bodies ++ (numbers ∷ [])) ≡ body_texts bodies ++ body_text numbers
unfolding body_texts
bodies_more_text [] numbers = append-nil (body_text numbers)
bodies_more_text (other ∷ bodies) numbers =
    ap (λ (r : List ℕ). body_text other ++ r) (bodies_more_text bodies numbers)
    ∙ sym (append_assoc (body_text other) (body_texts bodies) (body_text numbers))
