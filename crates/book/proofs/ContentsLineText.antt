-- A contents line is read at a place exactly when its text stands there.
-- Assumes nothing.
use Rattle.std.proofs.Common.{ℕ, ◌+◌, ◌≡◌, refl, sym, ap, ◌∙◌, subst, List, [], ◌∷◌, ◌++◌, append_assoc, arith, length, take, drop, eqb, Some, None}
use borrow.Author.Tests.{eqb-false}
use Rattle.decimal.proofs.Choices.{cond_case}
use Rattle.book.specs.Number.{number_at, Field}
use Rattle.book.specs.Name.{name_at}
use Rattle.book.specs.Contents.{headed, heading_at, Heading}
use Rattle.book.specs.Printed.{IsName, IsNumber, number_text, contents_text}
use Rattle.book.specs.LineMeaning.{Stands}
use Rattle.book.proofs.LineLaws.{heading_is}
use Rattle.book.proofs.Standing.{stands_join, stands_back}
use Rattle.book.proofs.NumberText.{number_read, number_reads}
use Rattle.book.proofs.NameText.{NameThere, name_read_lem, name_reads}

module _ (text : List ℕ) (at : ℕ) where
  -- the bytes of a name of this size at the place
  abbrev bytes_of : ℕ → List ℕ
  bytes_of size = take size (drop at text)

  -- what a contents line says that was read
  abbrev pub HeadingRead : Heading → Type 0
  HeadingRead (Some (size, v, next)) =
      (length (bytes_of size) ≡ size) × (IsName (bytes_of size) × (IsNumber v × Stands text at (contents_text (bytes_of size) v) next))
  HeadingRead None = Unit

  headed_read : (size : ℕ) → NameThere text at size → (f : Field) → number_at text (at + size + 1) 10 ≡ f → HeadingRead (headed size f)
  headed_read size n None e = tt
  headed_read size n (Some (v, next)) e =
      let r : IsNumber v × Stands text (at + size + 1) (number_text v 10) next = number_read text 10 (omega arith) (at + size + 1) v next e in
      (n.long, (n.name, (r.0, stands_join (bytes_of size) (32 ∷ number_text v 10) n.stands (stands_join (32 ∷ []) (number_text v 10) n.blank r.1))))

  read_of : HeadingRead (heading_at text at)
  unfolding heading_at
  read_of =
      cond_case HeadingRead (eqb (name_at text at) 0) _ _ (λ t. tt)
      (λ t. let z : name_at text at ≡ 0 → ⊥ = eqb-false _ _ t in
      headed_read (name_at text at) (name_read_lem text at (omega arith)) (number_at text (at + name_at text at + 1) 10) refl)

  pub heading_read : (size v next : ℕ) → heading_at text at ≡ Some (size, v, next) → HeadingRead (Some (size, v, next))
  heading_read size v next e = subst HeadingRead e read_of

  pub heading_reads : (name : List ℕ) (v next : ℕ) → IsName name → IsNumber v → Stands text at (contents_text name v) next
      → heading_at text at ≡ Some (length name, v, next)
  heading_reads name v next n b s =
      let t : Stands text (at + length name) (32 ∷ number_text v 10) next = stands_back name (32 ∷ number_text v 10) s in
      let size : name_at text at ≡ length name =
      name_reads text at name (number_text v 10 ++ drop next text) n (s.there ∙ append_assoc name (32 ∷ number_text v 10) (drop next text)) in
      heading_is text at (length name) (sym size) (λ z. omega (arith, n.some))
      ∙ ap (headed (length name)) (number_reads text (at + length name + 1) 10 v next refl b (stands_back (32 ∷ []) (number_text v 10) t))
