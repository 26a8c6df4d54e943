-- The reader's walk over a text: whatever it replies, the lines before were right, and the number says what stands there.
-- Assumes nothing.
use Rattle.std.proofs.Common.{ℕ, zero, suc, ◌+◌, ◌*◌, ◌≤◌, ◌<◌, ◌≡◌, refl, sym, ap, ◌∙◌, subst, Bool, true, false, cond, ◌&&◌, true≢false, List, [], ◌∷◌, ◌++◌, arith, ℤ, length, take, drop, length-drop, drop_of_length-le, ltb, leb, eqb, lit<, leb-true, le-leb, ltb-true, ltb-false, eqb-true, ne_eqb, Some, None, Ok, Err}
use mathlib.Core.Bool.{and-eq-true_iff}
use borrow.Author.Tests.{eqb-false}
use Rattle.decimal.proofs.Choices.{cond_case}
use Rattle.book.specs.Number.{number_at, field_value, Field}
use Rattle.book.specs.Name.{twin_at}
use Rattle.book.specs.Contents.{heading_at, contents_line_of, contents_line, Heading, Line}
use Rattle.book.specs.Body.{front_numbers, body_from, numbers_at}
use Rattle.book.specs.Book.{fault_number, most_curves, most_bytes, accepted_of, refused_of, line_then, bodies_from, contents_from, count_then, text_reply, BookReply}
use Rattle.book.specs.Printed.{number_text, contents_text, body_text}
use Rattle.book.specs.LineMeaning.{Starts, Named, LineTheorem}
use Rattle.book.specs.Reasons.{Right, AtContents, SomeContents, RightSize, WrongSize, SaysOfLines, SaysOfText}
use Rattle.book.specs.declared.Fault.{Fault}
use Rattle.book.proofs.LineLaws.{Faults26, body_26}
use Rattle.book.proofs.Replies.{line_case}
use Rattle.book.proofs.Standing.{starts_stands, stands_starts, name_starts, stands_in}
use Rattle.book.proofs.Lists.{length_more, named_none, named_more, named_length}
use Rattle.book.proofs.RightLines.{right_count, right_name, right_body, right_book}
use Rattle.book.specs.declared.Fault.TheVariants.{WrongLine, TwinName}

-- what a reply says of the lines of a text
abbrev MeantBy : List ℕ → BookReply → Type 0
MeantBy text reply = SaysOfLines text reply.line reply.number

module _ (lines : LineTheorem) (text : List ℕ) where
  -- the last k bodies
  bodies_meant : (k n : ℕ) (names : List (List ℕ)) (bodies : List (List ℤ)) (at : ℕ) → Right text n names bodies (drop at text) → length names ≡ n
      → k + length bodies ≡ n → at ≤ length text → MeantBy text (bodies_from k text n (length bodies) at)
  unfolding bodies_from
  bodies_meant zero n names bodies at right all left inside =
      let last : length bodies ≡ n = omega arith in
      cond_case (MeantBy text) (eqb at (length text)) (accepted_of n) (refused_of 27 (2 * n + 2))
      (λ t.
      let e : at ≡ length text = eqb-true _ _ t in
      right_book text n names bodies (subst (Right text n names bodies) (drop_of_length-le text {i = at} (omega arith)) right) all last)
      (λ t. record {
        before = record { n = n; names = names; bodies = bodies; rest = drop at text; right = right; all = all };
        last = last;
        place = refl;
        bytes = λ e. eqb-false at (length text) t (omega (arith, length-drop at text, ap length e));
      })
  bodies_meant (suc k) n names bodies at right all left inside =
      line_case (MeantBy text) (body_from front_numbers text at) (n + length bodies + 2) _
      (λ p e.
      let r = lines.body_read text at p e in
      let numbers : List ℤ = numbers_at front_numbers text at in
      let more : length (bodies ++ (numbers ∷ [])) ≡ length bodies + 1 = length_more bodies numbers in
      subst (λ (i : ℕ). MeantBy text (bodies_from k text n i p)) more
      (bodies_meant k n names (bodies ++ (numbers ∷ [])) p (right_body text n names at p bodies numbers right r.0 r.1) all
      (omega arith) (stands_in text at (body_text numbers) p r.1 inside)))
      (λ f e. subst (λ (fault : Fault). SaysOfLines text (n + length bodies + 2) (fault_number fault)) (sym (subst Faults26 e (body_26 front_numbers text at))) (record {
        before = record { n = n; names = names; bodies = bodies; rest = drop at text; right = right; all = all };
        one = omega arith;
        place = refl;
        none = λ numbers eight s.
            absurd (cc (e, (lines.body_reads text at numbers (at + length (body_text numbers)) eight (starts_stands text at (body_text numbers) s)).0));
      }))

  -- one contents line
  module _ (n : ℕ) (names : List (List ℕ)) (earlier : List ℕ) (at : ℕ) (right : Right text n names [] (drop at text))
      (named : Named text earlier names) (one : length names < n) (inside : at ≤ length text) where
    abbrev here : AtContents text (length earlier + 2)
    here = record {
      n = n;
      names = names;
      rest = drop at text;
      right = right;
      one = one;
      place = ap (λ (k : ℕ). k + 2) (named_length text earlier names named);
    }

    abbrev due : ℕ
    due = n + length earlier + 2

    due_line : due ≡ n + length names + 2
    due_line = omega (arith, named_length text earlier names named)

    -- what holds where the reader goes on
    abbrev GoesOn : (ℕ → BookReply) → Type 0
    GoesOn go = (name : List ℕ) (next : ℕ) → Right text n (names ++ (name ∷ [])) [] (drop next text)
        → Named text (earlier ++ (at ∷ [])) (names ++ (name ∷ [])) → next ≤ length text → MeantBy text (go next)

    entry_meant : (go : ℕ → BookReply) → GoesOn go → (size v next : ℕ) → heading_at text at ≡ Some (size, v, next)
        → MeantBy text (line_then (contents_line_of text earlier at due (Some (size, v, next))) (length earlier + 2) go)
    entry_meant go on size v next e =
        let r = lines.heading_read text at size v next e in
        let name : List ℕ = take size (drop at text) in
        let found : Starts (drop at text) (contents_text name v) = stands_starts text at (contents_text name v) next r.1.1.1 in
        let blank : Starts (drop at text) (name ++ (32 ∷ [])) = name_starts text at name v found in
        let contents : SomeContents text (length earlier + 2) = record { before = here; name = name; v = v; known = r.1.0; small = r.1.1.0; stands = found } in
        let twin : (b : Bool) → twin_at text earlier at size ≡ b → twin_at text earlier at (length name) ≡ b =
        λ b t. ap (twin_at text earlier at) r.0 ∙ t in
        cond_case (λ (l : Line). MeantBy text (line_then l (length earlier + 2) go)) (eqb v due)
        (cond (twin_at text earlier at size) (Err TwinName) (Ok next)) (Err WrongLine)
        (λ t.
        let v-due : v ≡ n + length names + 2 = eqb-true _ _ t ∙ due_line in
        cond_case (λ (l : Line). MeantBy text (line_then l (length earlier + 2) go)) (twin_at text earlier at size) (Err TwinName) (Ok next)
        (λ u. record { found = contents; due = v-due; twin = lines.twin_found text earlier names at name named r.1.0 blank (twin true u) })
        (λ u. on name next
        (right_name text n names at next name v right r.1.0 v-due (lines.twin_none text earlier names at name named r.1.0 blank (twin false u)) r.1.1.1)
        (named_more text earlier names at name named blank r.1.0)
        (stands_in text at (contents_text name v) next r.1.1.1 inside)))
        (λ t. record { found = contents; wrong = λ w. eqb-false _ _ t (w ∙ sym due_line) })

    heading_meant : (go : ℕ → BookReply) → GoesOn go → (h : Heading) → heading_at text at ≡ h
        → MeantBy text (line_then (contents_line_of text earlier at due h) (length earlier + 2) go)
    heading_meant go on None e = record {
      before = here;
      none = λ name v known small s.
          absurd (cc (e, lines.heading_reads text at name v (at + length (contents_text name v)) known small (starts_stands text at (contents_text name v) s)));
    }
    heading_meant go on (Some (size, v, next)) e = entry_meant go on size v next e

    contents_step : (go : ℕ → BookReply) → GoesOn go → MeantBy text (line_then (contents_line text earlier at due) (length earlier + 2) go)
    unfolding contents_line
    contents_step go on = heading_meant go on (heading_at text at) refl

  -- the last k contents lines, and the bodies
  contents_meant : (k n : ℕ) (names : List (List ℕ)) (earlier : List ℕ) (at : ℕ) → Right text n names [] (drop at text)
      → Named text earlier names → k + length names ≡ n → at ≤ length text → MeantBy text (contents_from k text n earlier at)
  unfolding contents_from
  contents_meant zero n names earlier at right named left inside =
      bodies_meant n n names [] at right (omega arith) (omega arith) inside
  contents_meant (suc k) n names earlier at right named left inside =
      contents_step n names earlier at right named (omega arith) inside _
      (λ name next r m i. contents_meant k n (names ++ (name ∷ [])) (earlier ++ (at ∷ [])) next r m (omega (arith, length_more names name)) i)

  count_reads : (n : ℕ) → n ≤ most_curves → Starts text (number_text n 10) → number_at text 0 10 ≡ Some (n, 0 + length (number_text n 10))
  count_reads n few s = lines.number_reads text 0 10 n _ refl (omega arith) (starts_stands text 0 (number_text n 10) s)

  -- the count line, and all after it
  count_meant : (f : Field) → number_at text 0 10 ≡ f → MeantBy text (count_then text f)
  count_meant None e = record { first = refl; none = λ n some few s. absurd (cc (e, count_reads n few s)) }
  count_meant (Some (n, next)) e =
      let r = lines.number_read text 0 10 n next (lit< tt) e in
      cond_case (MeantBy text) (leb 1 n && leb n most_curves) (contents_from n text n [] next) (refused_of 22 1)
      (λ t.
      let b = (and-eq-true_iff (leb 1 n) (leb n most_curves)).0 t in
      contents_meant n n [] [] next (right_count text n next (leb-true _ _ b.0) (leb-true _ _ b.1) r.1) (named_none text) (omega arith)
      (stands_in text 0 (number_text n 10) next r.1 (omega arith)))
      (λ t. record {
        first = refl;
        none = λ m some few s.
            let same : m ≡ n = ap field_value (sym (count_reads m few s) ∙ e) in
            let low : 1 ≤ n = omega arith in
            let high : n ≤ most_curves = omega arith in
            true≢false (sym ((and-eq-true_iff (leb 1 n) (leb n most_curves)).1 (le-leb _ _ low, le-leb _ _ high)) ∙ t);
      })

  -- the lines never give 21
  sized : (r : BookReply) → RightSize text → MeantBy text r → SaysOfText text r.line r.number
  sized r size says =
      let not21 : r.number ≡ 21 → ⊥ = λ e. subst (SaysOfLines text r.line) e says in
      subst (λ (b : Bool). cond b (WrongSize text r.line) (RightSize text × MeantBy text r)) (sym (ne_eqb _ _ not21)) (size, says)

  -- what the whole text is answered
  pub text_meant : SaysOfText text (text_reply text).line (text_reply text).number
  unfolding text_reply
  text_meant =
      let Answers : BookReply → Type 0 = λ (r : BookReply). SaysOfText text r.line r.number in
      cond_case Answers (eqb (length text) 0) (refused_of 21 0) (cond (ltb most_bytes (length text)) (refused_of 21 0) (count_then text (number_at text 0 10)))
      (λ t. let none : length text ≡ 0 = eqb-true _ _ t in record { size = λ s l. omega arith; place = refl })
      (λ t.
      let some : length text ≡ 0 → ⊥ = eqb-false _ _ t in
      cond_case Answers (ltb most_bytes (length text)) (refused_of 21 0) (count_then text (number_at text 0 10))
      (λ u. let long : most_bytes < length text = ltb-true _ _ u in record { size = λ s l. omega arith; place = refl })
      (λ u. sized (count_then text (number_at text 0 10)) (record { some = omega arith; short = ltb-false _ _ u }) (count_meant (number_at text 0 10) refl)))
