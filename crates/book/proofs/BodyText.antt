-- A body is read at a place exactly when its text stands there.
-- Assumes nothing.
use Rattle.std.proofs.Common.{ℕ, zero, suc, ◌+◌, ◌≡◌, refl, sym, ap, ap₂, ◌∙◌, subst, cond, List, [], ◌∷◌, ◌++◌, append-nil, arith, lit<, ℤ, pos, negsuc, length, get_or, take, Some, None, Ok, Err}
use Rattle.decimal.specs.Decimal.{Each}
use Rattle.book.specs.Number.{number_at, signed_at, field_value, field_next, Field, SignedField}
use Rattle.book.specs.Body.{end_of, graded, surveyed, absolute_last, relative_or, last_at, field_then, last_line, body_from, last_values, last_next, numbers_at, after_numbers, LastNumbers}
use Rattle.book.specs.Printed.{IsCount, IsSigned, IsDatum, number_text, signed_number_text, numbers_text, is_nought}
use Rattle.book.specs.LineMeaning.{Stands}
use Rattle.book.specs.Contents.{Line}
use Rattle.book.proofs.Standing.{stands_join, stands_front, stands_back}
use Rattle.book.proofs.NumberText.{number_read, number_reads}
use Rattle.book.proofs.SignedText.{signed_read, signed_reads, number_other}

-- of the numbers of a card from the (7 − k)-th on, those that the body has: k, the unit, and beside a mark that is not 0 height and grade
abbrev pub shown_from : ℕ → List ℤ → List ℤ
shown_from k numbers =
    take (suc k) numbers
    ++ cond (is_nought (get_or numbers (suc k) (pos 0))) []
    (get_or numbers (suc (suc k)) (pos 0) ∷ get_or numbers (suc (suc (suc k))) (pos 0) ∷ [])

-- such numbers
pub record IsRest (k : ℕ) (numbers : List ℤ) : Type 0 where
  pub count : length numbers ≡ k + 4
  pub front : Each IsCount (take (suc k) numbers)
  pub datum : IsDatum (get_or numbers (suc k) (pos 0)) (get_or numbers (suc (suc k)) (pos 0)) (get_or numbers (suc (suc (suc k))) (pos 0))

-- and their text at a place
abbrev RestThere : List ℕ → ℕ → ℕ → List ℤ → ℕ → Type 0
RestThere text k at numbers next = IsRest k numbers × Stands text at (numbers_text (shown_from k numbers)) next

-- another number follows, so a blank stands before it
shown_end : (k : ℕ) (numbers : List ℤ) → length numbers ≡ k + 4 → end_of (length (shown_from k numbers)) ≡ 32
shown_end k [] e = absurd (omega arith)
shown_end k (z ∷ numbers) e = refl

-- one number alone in its line
one_text : (z : ℤ) → numbers_text (z ∷ []) ≡ signed_number_text z 10
unfolding numbers_text
one_text z = append-nil (signed_number_text z 10)

module _ (text : List ℕ) where
  -- what the last numbers that were read say of the text at a place
  abbrev LastRead : ℕ → LastNumbers → Type 0
  LastRead at (Some (numbers, next)) = RestThere text 0 at numbers next
  LastRead at None = Unit

  rest_of : (unit mark height grade : ℤ) → IsCount unit → IsDatum mark height grade → IsRest 0 (unit ∷ mark ∷ height ∷ grade ∷ [])
  unfolding Each
  rest_of unit mark height grade c d = record { count = refl; front = (c, tt); datum = d }

  module _ (at unit p : ℕ) (e : number_at text at 32 ≡ Some (unit, p)) where
    graded_read : (height : ℤ) (q : ℕ) (f : SignedField) → signed_at text p 32 ≡ Some (height, q) → signed_at text q 10 ≡ f
        → LastRead at (graded unit height f)
    unfolding numbers_text signed_number_text
    graded_read height q None eh eg = tt
    graded_read height q (Some (grade, next)) eh eg =
        let u = number_read text 32 (lit< tt) at unit p e in
        let h = signed_read text 32 (lit< tt) p height q eh in
        let g = signed_read text 10 (lit< tt) q grade next eg in
        let gs : Stands text q (numbers_text (grade ∷ [])) next = subst (λ (bytes : List ℕ). Stands text q bytes next) (sym (one_text grade)) g.1 in (
          rest_of (pos unit) (pos 1) height grade u.0 (h.0, g.0),
          stands_join (number_text unit 32) _ u.1 (stands_join (signed_number_text height 32) (numbers_text (grade ∷ [])) h.1 gs),
        )

    surveyed_read : (f : SignedField) → signed_at text p 32 ≡ f → LastRead at (surveyed text unit f)
    surveyed_read (Some (height, q)) eh = graded_read height q (signed_at text q 10) eh refl
    surveyed_read None eh = tt

  absolute_read : (at : ℕ) (f : Field) → number_at text at 32 ≡ f → LastRead at (absolute_last text f)
  absolute_read at (Some (unit, p)) e = surveyed_read at unit p e (signed_at text p 32) refl
  absolute_read at None e = tt

  relative_read : (at : ℕ) (f : Field) → number_at text at 10 ≡ f → LastRead at (relative_or text at f)
  unfolding signed_number_text
  relative_read at (Some (unit, next)) e =
      let u = number_read text 10 (lit< tt) at unit next e in (
        rest_of (pos unit) (pos 0) (pos 0) (pos 0) u.0 (refl, refl),
        subst (λ (bytes : List ℕ). Stands text at bytes next) (sym (one_text (pos unit))) u.1,
      )
  relative_read at None e = absolute_read at (number_at text at 32) refl

  last_read : (at : ℕ) → LastRead at (last_at text at)
  unfolding last_at
  last_read at = relative_read at (number_at text at 10) refl

  -- what a line says that was read as a body
  abbrev Read : ℕ → ℕ → List ℤ → Line → Type 0
  Read k at numbers (Ok next) = RestThere text k at numbers next
  Read k at numbers (Err m) = Unit

  read-last : (at : ℕ) (l : LastNumbers) → LastRead at l → Read 0 at (last_values l) (last_line l)
  read-last at (Some (numbers, next)) r = r
  read-last at None r = tt

  -- a number, and then k numbers and the last ones
  number_more : (k at v p : ℕ) (numbers : List ℤ) (line : Line) → number_at text at 32 ≡ Some (v, p) → Read k p numbers line
      → Read (suc k) at (pos v ∷ numbers) line
  unfolding Each numbers_text signed_number_text
  number_more k at v p numbers (Err m) e b = tt
  number_more k at v p numbers (Ok next) e b =
      let r = number_read text 32 (lit< tt) at v p e in
      let s : Stands text at (number_text v (end_of (length (shown_from k numbers)))) p =
      subst (λ (n : ℕ). Stands text at (number_text v n) p) (sym (shown_end k numbers b.0.count)) r.1 in (
        record { count = ap suc b.0.count ∙ omega arith; front = (r.0, b.0.front); datum = b.0.datum },
        stands_join (number_text v (end_of (length (shown_from k numbers)))) (numbers_text (shown_from k numbers)) s b.1,
      )

  read_more : (k at : ℕ) (f : Field) → number_at text at 32 ≡ f → ((p : ℕ) → Read k p (numbers_at k text p) (body_from k text p))
      → Read (suc k) at (pos (field_value f) ∷ numbers_at k text (field_next at f)) (field_then f (body_from k text))
  read_more k at None e h = tt
  read_more k at (Some (v, p)) e h = number_more k at v p (numbers_at k text p) (body_from k text p) e (h p)

  read_of : (k at : ℕ) → Read k at (numbers_at k text at) (body_from k text at)
  unfolding body_from numbers_at
  read_of zero at = read-last at (last_at text at) (last_read at)
  read_of (suc k) at = read_more k at (number_at text at 32) refl (λ p. read_of k p)

  pub body_read : (k at next : ℕ) → body_from k text at ≡ Ok next → RestThere text k at (numbers_at k text at) next
  body_read k at next e = subst (Read k at (numbers_at k text at)) e (read_of k at)

-- The numbers whose text stands at a place are read there.
module _ (text : List ℕ) where
  module _ (at unit next : ℕ) (small : IsCount (pos unit)) where
    relative_reads : Stands text at (numbers_text (pos unit ∷ [])) next → last_at text at ≡ Some (pos unit ∷ pos 0 ∷ pos 0 ∷ pos 0 ∷ [], next)
    unfolding last_at signed_number_text
    relative_reads s =
        ap (relative_or text at)
        (number_reads text at 10 unit next refl small (subst (λ (bytes : List ℕ). Stands text at bytes next) (one_text (pos unit)) s))

    absolute_reads : (height grade : ℤ) → IsSigned height → IsSigned grade → Stands text at (numbers_text (pos unit ∷ height ∷ grade ∷ [])) next
        → last_at text at ≡ Some (pos unit ∷ pos 1 ∷ height ∷ grade ∷ [], next)
    unfolding last_at numbers_text signed_number_text
    absolute_reads height grade hs gs s =
        let p : ℕ = at + length (number_text unit 32) in
        let q : ℕ = p + length (signed_number_text height 32) in
        let behind = stands_back (number_text unit 32) (numbers_text (height ∷ grade ∷ [])) s in
        let last = stands_back (signed_number_text height 32) (numbers_text (grade ∷ [])) behind in
        let u : number_at text at 32 ≡ Some (unit, p) =
        number_reads text at 32 unit p refl small (stands_front (number_text unit 32) (numbers_text (height ∷ grade ∷ [])) s) in
        let h : signed_at text p 32 ≡ Some (height, q) =
        signed_reads text p 32 height q refl hs (stands_front (signed_number_text height 32) (numbers_text (grade ∷ [])) behind) in
        let g : signed_at text q 10 ≡ Some (grade, next) =
        signed_reads text q 10 grade next refl gs (subst (λ (bytes : List ℕ). Stands text q bytes next) (one_text grade) last) in
        ap (relative_or text at) (number_other text at unit p u)
        ∙ ap (absolute_last text) u
        ∙ ap (surveyed text unit) h
        ∙ ap (graded unit height) g

  -- the last four numbers
  last_reads : (at next : ℕ) (unit mark height grade : ℤ) → IsCount unit → IsDatum mark height grade
      → Stands text at (numbers_text (shown_from 0 (unit ∷ mark ∷ height ∷ grade ∷ []))) next → last_at text at ≡ Some (unit ∷ mark ∷ height ∷ grade ∷ [], next)
  last_reads at next (pos unit) (pos zero) height grade c d s =
      relative_reads at unit next c s ∙ ap₂ (λ (h g : ℤ). Some (pos unit ∷ pos 0 ∷ h ∷ g ∷ [], next)) (sym d.0) (sym d.1)
  last_reads at next (pos unit) (pos (suc zero)) height grade c d s = absolute_reads at unit next c height grade d.0 d.1 s
  last_reads at next (pos unit) (pos (suc (suc n))) height grade c d s = absurd d
  last_reads at next (pos unit) (negsuc n) height grade c d s = absurd d
  last_reads at next (negsuc n) mark height grade c d s = absurd c

  abbrev Reads : ℕ → ℕ → List ℤ → ℕ → Type 0
  Reads k at numbers next = (body_from k text at ≡ Ok next) × (numbers_at k text at ≡ numbers)

  reads-last : (numbers : List ℤ) (at next : ℕ) → RestThere text 0 at numbers next → Reads 0 at numbers next
  unfolding body_from numbers_at Each
  reads-last (unit ∷ mark ∷ height ∷ grade ∷ []) at next b =
      let e = last_reads at next unit mark height grade b.0.front.0 b.0.datum b.1 in
      (ap last_line e, ap last_values e)
  reads-last [] at next b = absurd (omega (arith, b.0.count))
  reads-last (unit ∷ []) at next b = absurd (omega (arith, b.0.count))
  reads-last (unit ∷ mark ∷ []) at next b = absurd (omega (arith, b.0.count))
  reads-last (unit ∷ mark ∷ height ∷ []) at next b = absurd (omega (arith, b.0.count))
  reads-last (unit ∷ mark ∷ height ∷ grade ∷ other ∷ numbers) at next b = absurd (omega (arith, b.0.count))

  pub body_reads : (k : ℕ) (numbers : List ℤ) (at next : ℕ) → RestThere text k at numbers next → Reads k at numbers next
  unfolding body_from numbers_at Each numbers_text signed_number_text
  body_reads zero numbers at next b = reads-last numbers at next b
  body_reads (suc k) [] at next b = absurd (omega (arith, b.0.count))
  body_reads (suc k) (negsuc n ∷ numbers) at next b = absurd b.0.front.0
  body_reads (suc k) (pos v ∷ numbers) at next b =
      let count : length numbers ≡ k + 4 = omega (arith, b.0.count) in
      let first : List ℕ = number_text v 32 in
      let p : ℕ = at + length first in
      let s : Stands text at (first ++ numbers_text (shown_from k numbers)) next =
      subst (λ (end : ℕ). Stands text at (number_text v end ++ numbers_text (shown_from k numbers)) next) (shown_end k numbers count) b.1 in
      let e : number_at text at 32 ≡ Some (v, p) =
      number_reads text at 32 v p refl b.0.front.0 (stands_front first (numbers_text (shown_from k numbers)) s) in
      let r = body_reads k numbers p next
      (record { count = count; front = b.0.front.1; datum = b.0.datum }, stands_back first (numbers_text (shown_from k numbers)) s) in (
        ap (λ (f : Field). field_then f (body_from k text)) e ∙ r.0,
        ap (λ (f : Field). pos (field_value f) ∷ numbers_at k text (field_next at f)) e ∙ ap (λ (ns : List ℤ). pos v ∷ ns) r.1,
      )

-- a body that was read ends where its numbers end
abbrev place_of : Line → ℕ
place_of (Ok p) = p
place_of (Err f) = 0

last_place : (at : ℕ) (l : LastNumbers) {p : ℕ} → last_line l ≡ Ok p → p ≡ last_next at l
last_place at (Some (numbers, next)) e = ap place_of (sym e)
last_place at None e = absurd (cc)

body_place_of : (k : ℕ) (text : List ℕ) (at : ℕ) (f : Field) {p : ℕ} → ((q : ℕ) → body_from k text q ≡ Ok p → p ≡ after_numbers k text q)
    → field_then f (body_from k text) ≡ Ok p → p ≡ after_numbers k text (field_next at f)
body_place_of k text at (Some (v, next)) h e = h next e
body_place_of k text at None h e = absurd (cc)

pub body_place : (k : ℕ) (text : List ℕ) (at : ℕ) {p : ℕ} → body_from k text at ≡ Ok p → p ≡ after_numbers k text at
unfolding body_from after_numbers
body_place zero text at e = last_place at (last_at text at) e
body_place (suc k) text at e = body_place_of k text at (number_at text at 32) (λ q d. body_place k text q d) e
