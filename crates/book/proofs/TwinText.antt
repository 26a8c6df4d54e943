-- A name is found at an earlier place exactly when the same name stands there.
-- Assumes nothing.
use Rattle.std.proofs.Common.{ℕ, suc, ◌+◌, ◌≡◌, refl, sym, ap, ◌∙◌, Bool, true, false, true≢false, List, [], ◌∷◌, ◌++◌, add-one, length, drop, eqb, eqb-true, eq-eqb}
use mathlib.Core.Bool.{false≢true}
use lib.Seq.{append_snoc}
use Rattle.decimal.specs.Decimal.{Each}
use Rattle.decimal.proofs.Choices.{cond_case}
use Rattle.book.specs.Number.{byte_at}
use Rattle.book.specs.Name.{is_name_byte, same_bytes, twin_at}
use Rattle.book.specs.Printed.{IsName, Differs}
use Rattle.book.specs.LineMeaning.{Starts, Named}
use Rattle.book.proofs.Standing.{byte_there, rest_there}
use Rattle.book.proofs.NameText.{NameBytes}

-- a name has no blank
no_blank : (b : ℕ) → is_name_byte b ≡ true → b ≡ 32 → ⊥
no_blank b h e = false≢true (ap is_name_byte (sym e) ∙ h)

module _ (text : List ℕ) where
  -- the first bytes and the rest of two places
  pub same_head : (n a b : ℕ) → same_bytes (suc n) text a b ≡ true
      → (byte_at text a ≡ byte_at text b) × (same_bytes n text (a + 1) (b + 1) ≡ true)
  unfolding same_bytes
  same_head n a b =
      cond_case (λ (t : Bool). t ≡ true → (byte_at text a ≡ byte_at text b) × (same_bytes n text (a + 1) (b + 1) ≡ true))
      (eqb (byte_at text a) (byte_at text b)) _ _ (λ t s. (eqb-true _ _ t, s)) (λ t s. absurd (false≢true s))

  pub same_cons : (n a b : ℕ) → byte_at text a ≡ byte_at text b → same_bytes n text (a + 1) (b + 1) ≡ true → same_bytes (suc n) text a b ≡ true
  unfolding same_bytes
  same_cons n a b e s = rw (eq-eqb _ _ e) s

  -- names that agree in each byte and in the blank are the same
  same_name : (name other : List ℕ) (at place : ℕ) (r q : List ℕ) → NameBytes name → NameBytes other
      → drop at text ≡ name ++ (32 ∷ r) → drop place text ≡ other ++ (32 ∷ q) → same_bytes (suc (length name)) text place at ≡ true
      → name ≡ other
  unfolding Each
  same_name [] [] at place r q h g d e s = refl
  same_name [] (b ∷ other) at place r q h g d e s =
      absurd (no_blank b g.0 (sym (byte_there text place b _ e) ∙ (same_head 0 place at s).0 ∙ byte_there text at 32 _ d))
  same_name (a ∷ name) [] at place r q h g d e s =
      absurd (no_blank a h.0 (sym (byte_there text at a _ d) ∙ sym (same_head _ place at s).0 ∙ byte_there text place 32 _ e))
  same_name (a ∷ name) (b ∷ other) at place r q h g d e s =
      let t = same_head (suc (length name)) place at s in
      let first : a ≡ b = sym (byte_there text at a _ d) ∙ sym t.0 ∙ byte_there text place b _ e in
      let rest : name ≡ other =
      same_name name other (at + 1) (place + 1) r q h.1 g.1 (rest_there text at (a ∷ []) _ d) (rest_there text place (b ∷ []) _ e) t.1 in
      ap (λ (x : ℕ). x ∷ name) first ∙ ap (λ (xs : List ℕ). b ∷ xs) rest

  -- the same name at two places agrees with itself
  same_there : (name : List ℕ) (at place : ℕ) (r q : List ℕ) → drop at text ≡ name ++ (32 ∷ r) → drop place text ≡ name ++ (32 ∷ q)
      → same_bytes (suc (length name)) text place at ≡ true
  unfolding same_bytes
  same_there [] at place r q d e = same_cons 0 place at (byte_there text place 32 _ e ∙ sym (byte_there text at 32 _ d)) refl
  same_there (a ∷ name) at place r q d e =
      same_cons (suc (length name)) place at (byte_there text place a _ e ∙ sym (byte_there text at a _ d))
      (same_there name (at + 1) (place + 1) r q (rest_there text at (a ∷ []) _ d) (rest_there text place (a ∷ []) _ e))

  module _ (at : ℕ) (name : List ℕ) (n : IsName name) (s : Starts (drop at text) (name ++ (32 ∷ []))) where
    -- the name, the blank and the rest of the text
    here : drop at text ≡ name ++ (32 ∷ s.rest)
    here = s.whole ∙ append_snoc name 32 s.rest

    -- the name at one earlier place
    module _ (place : ℕ) (other : List ℕ) (o : Starts (drop place text) (other ++ (32 ∷ []))) where
      there : drop place text ≡ other ++ (32 ∷ o.rest)
      there = o.whole ∙ append_snoc other 32 o.rest

      same : IsName other → same_bytes (length name + 1) text place at ≡ true → name ≡ other
      same m t = same_name name other at place s.rest o.rest n.bytes m.bytes here there (rw add-one at t)

      differs : same_bytes (length name + 1) text place at ≡ false → Differs name other
      differs t e =
          true≢false (sym (same_there name at place s.rest o.rest here (there ∙ ap (λ (xs : List ℕ). xs ++ (32 ∷ o.rest)) (sym e))) ∙ rw add-one at t)

    pub twin_found : (places : List ℕ) (names : List (List ℕ)) → Named text places names → twin_at text places at (length name) ≡ true
        → Each (Differs name) names → ⊥
    unfolding twin_at Named Each
    twin_found [] names h t d = false≢true t
    twin_found (place ∷ places) [] h t d = h
    twin_found (place ∷ places) (other ∷ names) h t d =
        cond_case (λ (b : Bool). b ≡ true → ⊥) (same_bytes (length name + 1) text place at) _ _
        (λ u x. d.0 (same place other h.0 h.1.0 u)) (λ u x. twin_found places names h.1.1 x d.1) t

    pub twin_none : (places : List ℕ) (names : List (List ℕ)) → Named text places names → twin_at text places at (length name) ≡ false
        → Each (Differs name) names
    unfolding twin_at Named Each
    twin_none [] [] h t = tt
    twin_none [] (other ∷ names) h t = absurd h
    twin_none (place ∷ places) [] h t = absurd h
    twin_none (place ∷ places) (other ∷ names) h t =
        cond_case (λ (b : Bool). b ≡ false → Differs name other × Each (Differs name) names) (same_bytes (length name + 1) text place at) _ _
        (λ u x. absurd (true≢false x)) (λ u x. (differs place other h.0 u, twin_none places names h.1.1 x)) t
