-- The reader's walk over right contents lines and bodies: it goes on, and the list's numbers are those of the curves.
-- Assumes nothing.
use Rattle.std.proofs.Common.{ℕ, ◌+◌, ◌≤◌, ◌≡◌, refl, sym, ap, ◌∙◌, subst, Bool, true, false, List, [], ◌∷◌, ◌++◌, arith, ℤ, pos, length, eqb, eq-eqb, Some, None, Ok}
use lib.Seq.{append_snoc}
use Rattle.decimal.specs.Decimal.{Each}
use Rattle.decimal.proofs.Choices.{cond_case}
use Rattle.book.specs.Number.{number_at, Field}
use Rattle.book.specs.Name.{name_at}
use Rattle.book.specs.Contents.{headed, heading_at, heading_next, after_heading, contents_line, Heading, Line}
use Rattle.book.specs.Body.{front_numbers, body_from, numbers_at, after_numbers}
use Rattle.book.specs.Book.{most_curves, accepted_of, line_then, bodies_from, contents_from, after_headings, entry_at, entries_from}
use Rattle.book.specs.Printed.{IsName, IsNumber, IsBody, Differs, NoTwins, Curve, contents_text, contents_texts, body_text, body_texts, names_of, bodies_of}
use Rattle.book.specs.LineMeaning.{Stands, Named, LineTheorem}
use Rattle.book.specs.Meaning.{entries}
use Rattle.book.proofs.LineLaws.{line_good}
use Rattle.book.proofs.BodyText.{body_place}
use Rattle.book.proofs.Standing.{stands_front, stands_back, stands_starts, name_starts}
use Rattle.book.proofs.Lists.{length_more, twins_before, named_more, named_length}

-- a contents line that was read has the name that stands there
abbrev NameIs : ℕ → Heading → Type 0
NameIs k (Some (size, v, next)) = k ≡ size
NameIs k None = Unit

headed_name : (size : ℕ) (f : Field) → NameIs size (headed size f)
headed_name size (Some (v, next)) = refl
headed_name size None = tt

heading_name : (text : List ℕ) (at : ℕ) → NameIs (name_at text at) (heading_at text at)
unfolding heading_at
heading_name text at =
    cond_case (NameIs (name_at text at)) (eqb (name_at text at) 0) _ _ (λ t. tt) (λ t. headed_name (name_at text at) (number_at text (at + name_at text at + 1) 10))

-- a test that cannot be true
untrue : (b : Bool) → (b ≡ true → ⊥) → b ≡ false
untrue true h = absurd (h refl)
untrue false h = refl

module _ (lines : LineTheorem) (text : List ℕ) where
  -- the first of some contents lines: it is read, and the others stand behind it
  module _ (name : List ℕ) (names : List (List ℕ)) (at line end : ℕ) (known : IsName name) (small : IsNumber line)
      (s : Stands text at (contents_text name line ++ contents_texts (line + 1) names) end) where
    abbrev behind : ℕ
    behind = at + length (contents_text name line)

    line_there : Stands text at (contents_text name line) behind
    line_there = stands_front (contents_text name line) (contents_texts (line + 1) names) s

    lines_behind : Stands text behind (contents_texts (line + 1) names) end
    lines_behind = stands_back (contents_text name line) (contents_texts (line + 1) names) s

    heading_there : heading_at text at ≡ Some (length name, line, behind)
    heading_there = lines.heading_reads text at name line behind known small line_there

    after_there : after_heading text at ≡ behind
    unfolding after_heading
    after_there = ap (heading_next at) heading_there

    name_there : name_at text at ≡ length name
    name_there = subst (NameIs (name_at text at)) heading_there (heading_name text at)

  -- the same of a body
  module _ (numbers : List ℤ) (bodies : List (List ℤ)) (at end : ℕ) (right : IsBody numbers)
      (s : Stands text at (body_text numbers ++ body_texts bodies) end) where
    abbrev past : ℕ
    past = at + length (body_text numbers)

    bodies_behind : Stands text past (body_texts bodies) end
    bodies_behind = stands_back (body_text numbers) (body_texts bodies) s

    body_there : (body_from front_numbers text at ≡ Ok past) × (numbers_at front_numbers text at ≡ numbers)
    body_there = lines.body_reads text at numbers past right (stands_front (body_text numbers) (body_texts bodies) s)

    numbers-end : after_numbers front_numbers text at ≡ past
    numbers-end = sym (body_place front_numbers text at body_there.0)

  -- the place after some contents lines
  pub headings_there : (names : List (List ℕ)) (at line end : ℕ) → Each IsName names → line + length names ≤ 10000000
      → Stands text at (contents_texts line names) end → after_headings (length names) text at ≡ end
  unfolding Each contents_texts after_headings
  headings_there [] at line end known small s = omega (arith, s.after)
  headings_there (name ∷ names) at line end known small s =
      let b : IsNumber line = omega arith in
      ap (after_headings (length names) text) (after_there name names at line end known.0 b s)
      ∙ headings_there names _ (line + 1) end known.1 (omega arith) (lines_behind name names at line end known.0 b s)

  -- the last bodies, with no bytes after them
  pub bodies_there : (bodies : List (List ℤ)) (n i at : ℕ) → Each IsBody bodies → Stands text at (body_texts bodies) (length text)
      → bodies_from (length bodies) text n i at ≡ accepted_of n
  unfolding Each body_texts bodies_from
  bodies_there [] n i at cards s =
      let e : at ≡ length text = omega (arith, s.after) in
      simp (eq-eqb _ _ e)
  bodies_there (numbers ∷ bodies) n i at cards s =
      ap (λ (l : Line). line_then l (n + i + 2) (bodies_from (length bodies) text n (i + 1))) (body_there numbers bodies at (length text) cards.0 s).0
      ∙ bodies_there bodies n (i + 1) _ cards.1 (bodies_behind numbers bodies at (length text) cards.0 s)

  -- the first of some contents lines, whose name differs from those before
  contents_goes_on : (names : List (List ℕ)) (name : List ℕ) (earlier : List ℕ) (at line behind : ℕ) → IsName name → Named text earlier names
      → Each (Differs name) names → Stands text at (contents_text name line) behind → heading_at text at ≡ Some (length name, line, behind)
      → contents_line text earlier at line ≡ Ok behind
  contents_goes_on names name earlier at line behind known named differs s e =
      line_good text earlier at line e refl
      (untrue _ (λ t. lines.twin_found text earlier names at name named known (name_starts text at name line (stands_starts text at (contents_text name line) behind s)) t differs))

  -- the contents lines after those with these names
  pub contents_there : (left passed : List (List ℕ)) (n : ℕ) (earlier : List ℕ) (at end : ℕ) → Each IsName left → Named text earlier passed
      → n ≤ most_curves → length passed + length left ≡ n → NoTwins (passed ++ left) → Stands text at (contents_texts (n + length earlier + 2) left) end
      → contents_from (length left) text n earlier at ≡ bodies_from n text n 0 end
  unfolding Each contents_texts contents_from
  contents_there [] passed n earlier at end known named few all twins s =
      let e : at ≡ end = omega (arith, s.after) in
      ap (bodies_from n text n 0) e
  contents_there (name ∷ left) passed n earlier at end known named few all twins s =
      let same : length earlier ≡ length passed = named_length text earlier passed named in
      let line : ℕ = n + length earlier + 2 in
      let small : IsNumber line = omega arith in
      let next : ℕ = at + length (contents_text name line) in
      let there : Stands text at (contents_text name line) next = line_there name left at line end known.0 small s in
      let on : contents_line text earlier at line ≡ Ok next =
      contents_goes_on passed name earlier at line next known.0 named (twins_before passed name left twins) there
      (heading_there name left at line end known.0 small s) in
      let more : line + 1 ≡ n + length (earlier ++ (at ∷ [])) + 2 = omega (arith, length_more earlier at) in
      ap (λ (l : Line). line_then l (length earlier + 2) (contents_from (length left) text n (earlier ++ (at ∷ [])))) on
      ∙ contents_there left (passed ++ (name ∷ [])) n (earlier ++ (at ∷ [])) next end known.1
      (named_more text earlier passed at name named (name_starts text at name line (stands_starts text at (contents_text name line) next there)) known.0)
      few (omega (arith, length_more passed name)) (subst NoTwins (sym (append_snoc passed name left)) twins)
      (subst (λ (k : ℕ). Stands text next (contents_texts k left) end) more (lines_behind name left at line end known.0 small s))

  -- thirteen numbers a curve: what the reader gives is what the curves have
  pub entries_there : (curves : List Curve) (at line end body last : ℕ) → Each IsName (names_of curves) → Each IsBody (bodies_of curves)
      → line + length curves ≤ 10000000 → Stands text at (contents_texts line (names_of curves)) end → Stands text body (body_texts (bodies_of curves)) last
      → entries_from (length curves) text at body ≡ entries at line curves
  unfolding Each contents_texts body_texts entries_from entry_at entries
  entries_there [] at line end body last known cards small s t = refl
  entries_there (curve ∷ curves) at line end body last known cards small s t =
      let b : IsNumber line = omega arith in
      let names : List (List ℕ) = names_of curves in
      let bodies : List (List ℤ) = bodies_of curves in
      let size : name_at text at ≡ length curve.name = name_there curve.name names at line end known.0 b s in
      let numbers : numbers_at front_numbers text body ≡ curve.numbers = (body_there curve.numbers bodies body last cards.0 t).1 in
      let rest : entries_from (length curves) text (after_heading text at) (after_numbers front_numbers text body)
      ≡ entries (at + length (contents_text curve.name line)) (line + 1) curves =
      (λ i. entries_from (length curves) text (after_there curve.name names at line end known.0 b s i) (numbers-end curve.numbers bodies body last cards.0 t i))
      ∙ entries_there curves _ (line + 1) end _ last known.1 cards.1 (omega arith)
      (lines_behind curve.name names at line end known.0 b s) (bodies_behind curve.numbers bodies body last cards.0 t) in
      λ i. (pos at ∷ pos (size i) ∷ numbers i) ++ rest i
