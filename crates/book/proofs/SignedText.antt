-- A signed number is read at a place exactly when its text stands there; and a number that a blank ends is none that byte 10 ends.
-- Assumes nothing.
use Rattle.std.proofs.Common.{IsSome, ℕ, zero, suc, ◌+◌, ◌-◌, ◌<◌, ◌≡◌, refl, sym, ap, ◌∙◌, subst, Bool, true, false, cond, List, [], ◌∷◌, arith, ltb, eqb, ℤ, pos, negsuc, ◌-ℤ◌, w32, SFits, eqb-true, eq-eqb, ne_eqb, Some, None}
use lib.IntN.{+ℤ_idl}
use Rattle.decimal.specs.Decimal.{digit_of}
use Rattle.decimal.proofs.Choices.{cond_case}
use Rattle.book.specs.Number.{byte_at, digit_at, ended_at, digits_at, number_at, plain_field, minus_field, signed_at, Field, SignedField}
use Rattle.book.specs.Printed.{IsNumber, IsSigned, number_text, signed_number_text}
use Rattle.book.specs.LineMeaning.{Stands}
use Rattle.book.proofs.Places.{byte_inside, field-none}
use Rattle.book.proofs.Standing.{byte_there, stands_one, stands_join, stands_back}
use Rattle.book.proofs.NumberText.{number_read, number_reads}

module _ (text : List ℕ) (end : ℕ) where
  -- what a signed number that was read says of the text at a place
  abbrev Read : ℕ → SignedField → Type 0
  Read at (Some (z, next)) = IsSigned z × Stands text at (signed_number_text z end) next
  Read at None = Unit

  module _ (some : 0 < end) (at : ℕ) where
    plain_read : (f : Field) → number_at text at end ≡ f → Read at (plain_field f)
    unfolding signed_number_text
    plain_read (Some (v, next)) e = number_read text end some at v next e
    plain_read None e = tt

    module _ (minus : byte_at text at ≡ 45) where
      minus_read : (f : Field) → number_at text (at + 1) end ≡ f → Read at (minus_field f)
      unfolding signed_number_text
      minus_read (Some (zero, next)) e = tt
      minus_read (Some (suc n, next)) e =
          let r = number_read text end some (at + 1) (suc n) next e in
          let there : Stands text at (45 ∷ []) (at + 1) = stands_one text at 45 (byte_inside text at (omega arith)) minus in
          (r.0, stands_join (45 ∷ []) (number_text (suc n) end) there r.1)
      minus_read None e = tt

    read_of : Read at (signed_at text at end)
    unfolding signed_at
    read_of =
        cond_case (Read at) (eqb (byte_at text at) 45) _ _
        (λ t. minus_read (eqb-true _ _ t) (number_at text (at + 1) end) refl)
        (λ t. plain_read (number_at text at end) refl)

    pub signed_read : (z : ℤ) (next : ℕ) → signed_at text at end ≡ Some (z, next) → IsSigned z × Stands text at (signed_number_text z end) next
    signed_read z next e = subst (Read at) e read_of

module _ (text : List ℕ) (at end : ℕ) where
  -- where a number stands, no minus does
  no_minus : (v next : ℕ) → number_at text at end ≡ Some (v, next) → byte_at text at ≡ 45 → ⊥
  unfolding digit_at
  no_minus v next e m =
      let d : digit_at text at ≡ 10 = ap digit_of m in
      absurd (let none : number_at text at end ≡ None = field-none text at end (omega arith) in cc)

  -- a number with no minus, and one with a minus
  pub signed_plain : {f : Field} → (byte_at text at ≡ 45 → ⊥) → number_at text at end ≡ f → signed_at text at end ≡ plain_field f
  unfolding signed_at
  signed_plain h e = rw (ne_eqb _ _ h) (ap plain_field e)

  pub signed_minus : {f : Field} → byte_at text at ≡ 45 → number_at text (at + 1) end ≡ f → signed_at text at end ≡ minus_field f
  unfolding signed_at
  signed_minus h e = rw (eq-eqb _ _ h) (ap minus_field e)

  -- the signed number whose text stands at a place is read there
  pub signed_reads : (z : ℤ) (next : ℕ) → digit_of end ≡ 10 → IsSigned z → Stands text at (signed_number_text z end) next → signed_at text at end ≡ Some (z, next)
  unfolding signed_number_text
  signed_reads (pos n) next other h s =
      let e : number_at text at end ≡ Some (n, next) = number_reads text at end n next other h s in
      signed_plain (no_minus n next e) e
  signed_reads (negsuc n) next other h s =
      let m : byte_at text at ≡ 45 = byte_there text at 45 _ s.there in
      let e : number_at text (at + 1) end ≡ Some (suc n, next) =
      number_reads text (at + 1) end (suc n) next other h (stands_back (45 ∷ []) (number_text (suc n) end) s) in
      signed_minus m e

-- a number other than 0 taken from 0 has a minus; y is what is read back of it
module _ (v : ℕ) {y : ℤ} (e : y ≡ pos v) (some : v ≡ 0 → ⊥) where
  minus_below : (n : ℕ) → v ≡ suc n → pos 0 -ℤ y ≡ negsuc n
  minus_below n s = ap (λ (z : ℤ). pos 0 -ℤ z) (e ∙ ap pos s) ∙ +ℤ_idl (negsuc n)

  pub minus_fits : IsNumber v → SFits w32 (pos 0 -ℤ y)
  minus_fits small =
      let s : v ≡ suc (v - 1) = omega arith in
      rw (minus_below (v - 1) s) (record { sfits = omega arith })

  pub minus_is : (next : ℕ) → Some (pos 0 -ℤ y, next) ≡ minus_field (Some (v, next))
  minus_is next =
      let s : v ≡ suc (v - 1) = omega arith in
      ap (λ (z : ℤ). Some (z, next)) (minus_below (v - 1) s) ∙ ap (λ (m : ℕ). minus_field (Some (m, next))) (sym s)

-- where a blank ends a number, byte 10 does not
both : (b : Bool) (x y u v : Field) → (IsSome x → u ≡ None) → (IsSome y → v ≡ None) → IsSome (cond b x y) → cond b u v ≡ None
both true x y u v p q h = p h
both false x y u v p q h = q h

module _ (text : List ℕ) where
  ended_other : (at v : ℕ) → IsSome (ended_at text at v 32) → ended_at text at v 10 ≡ None
  unfolding ended_at
  ended_other at v h =
      cond_case (λ (f : Field). IsSome f → ended_at text at v 10 ≡ None) (eqb (byte_at text at) 32) (Some (v, at + 1)) None
      (λ t k. let e : byte_at text at ≡ 32 = eqb-true _ _ t in rw (ne_eqb (byte_at text at) 10 (λ z. omega arith))) (λ t k. absurd (cc)) h

  digits_other : (k at v : ℕ) → IsSome (digits_at k text at v 32) → digits_at k text at v 10 ≡ None
  unfolding digits_at
  digits_other zero at v = ended_other at v
  digits_other (suc k) at v = both (ltb (digit_at text at) 10) _ _ _ _ (digits_other k (at + 1) _) (ended_other at v)

  of_number : (at : ℕ) → IsSome (number_at text at 32) → number_at text at 10 ≡ None
  unfolding number_at
  of_number at =
      both (ltb (digit_at text at) 10) _ _ _ _
      (both (eqb (digit_at text at) 0) _ _ _ _ (ended_other (at + 1) 0) (digits_other 6 (at + 1) (digit_at text at))) (λ h. refl)

  pub number_other : (at v next : ℕ) → number_at text at 32 ≡ Some (v, next) → number_at text at 10 ≡ None
  number_other at v next e = of_number at (subst IsSome (sym e) refl)
