-- Names at places of a text: their bytes and their sizes.
-- Assumes nothing.
use Rattle.std.proofs.Common.{sym, ◌∙◌, Bool, cond, Option, Some, None, eq-eqb, ne_eqb, ℕ, zero, suc, ◌+◌, ◌-◌, ◌≤◌, ◌<◌, ◌≡◌, refl, ap, true, false, List, arith, length, eqb, eqb-true}
use mathlib.Core.Bool.{false≢true}
use Rattle.decimal.proofs.Choices.{cond_case}
use Rattle.book.specs.Number.{byte_at}
use Rattle.book.specs.Name.{is_name_byte, name_run, name_at}
use Rattle.std.specs.Bool.{then_some}
use Rattle.std.proofs.lemmas.Option.{same_Some}
use borrow.Author.Tests.{eqb-false}
use Rattle.book.specs.Reading.{key_at, run_at, read_at}
use Rattle.book.specs.declared.text.ReadName.{ReadName}
use Rattle.book.proofs.Places.{inside, byte_inside}

-- a byte of a name stands inside the text
pub name_byte_inside : (text : List ℕ) (at : ℕ) → is_name_byte (byte_at text at) ≡ true → at < length text
name_byte_inside = inside (λ b. is_name_byte b ≡ true) false≢true

module _ (text : List ℕ) where
  -- where no byte of a name stands, none is counted
  pub run_stop : (k at : ℕ) → is_name_byte (byte_at text at) ≡ false → name_run k text at ≡ 0
  unfolding name_run
  run_stop zero at h = refl
  run_stop (suc k) at h = rw h

  -- after the last byte that may be counted, none is
  pub run_none : (at : ℕ) → name_run 0 text at ≡ 0
  unfolding name_run
  run_none at = refl

  run_more : (k at : ℕ) → is_name_byte (byte_at text at) ≡ true → name_run (suc k) text at ≡ 1 + name_run k text (at + 1)
  unfolding name_run
  run_more k at h = rw h

  -- one byte more
  pub run_turn : (most from n : ℕ) → n < most → is_name_byte (byte_at text (from + n)) ≡ true
      → n + name_run (most - n) text (from + n) ≡ n + 1 + name_run (most - (n + 1)) text (from + (n + 1))
  run_turn most from n l h =
      let k : most - n ≡ suc (most - (n + 1)) = omega arith in
      let p : from + n + 1 ≡ from + (n + 1) = omega arith in
      let e : name_run (most - n) text (from + n) ≡ name_run (suc (most - (n + 1))) text (from + n) = ap (λ (m : ℕ). name_run m text (from + n)) k in
      let f : name_run (most - (n + 1)) text (from + n + 1) ≡ name_run (most - (n + 1)) text (from + (n + 1)) = ap (name_run (most - (n + 1)) text) p in
      omega (arith, run_more (most - (n + 1)) (from + n) h)

  -- the bytes that are counted stand inside the text
  pub run_in : (k at : ℕ) → at ≤ length text → at + name_run k text at ≤ length text
  unfolding name_run
  run_in zero at h = omega arith
  run_in (suc k) at h =
      cond_case (λ (n : ℕ). at + n ≤ length text) (is_name_byte (byte_at text at)) _ _
      (λ t.
      let i : at < length text = name_byte_inside text at t in
      let r : at + 1 + name_run k text (at + 1) ≤ length text = run_in k (at + 1) (omega arith) in
      omega arith)
      (λ t. omega arith)

  -- where any are
  pub run_inside : (k at : ℕ) → 0 < name_run k text at → at + name_run k text at ≤ length text
  unfolding name_run
  run_inside zero at = λ h. absurd (omega arith)
  run_inside (suc k) at =
      cond_case (λ (n : ℕ). 0 < n → at + n ≤ length text) (is_name_byte (byte_at text at)) _ _
      (λ t h. let i : at < length text = name_byte_inside text at t in omega (arith, run_in k (at + 1) (omega arith)))
      (λ t h. absurd (omega arith))

  -- no name is read where no byte of one stands, and else the blank decides
  unread : (b : Bool) (n key : ℕ) → n ≡ 0 → ◌≡◌ {A = Option ReadName} (cond (eqb (cond b n 0) 0) None (Some (record { size = cond b n 0; key = key }))) None
  unread true n key e = rw (eq-eqb n 0 e)
  unread false n key e = refl

  pub read_none : (at : ℕ) → name_run 8 text at ≡ 0 → read_at text at ≡ None
  unfolding name_at
  read_none at e = unread (eqb (byte_at text (at + name_run 8 text at)) 32) (name_run 8 text at) (key_at text at) e

  by_blank : (b : Bool) (n key : ℕ) → (n ≡ 0 → ⊥)
      → ◌≡◌ {A = Option ReadName} (cond (eqb (cond b n 0) 0) None (Some (record { size = cond b n 0; key = key }))) (then_some b (record { size = n; key = key }))
  by_blank true n key some = rw (ne_eqb n 0 some)
  by_blank false n key some = refl

  pub read_some : (at : ℕ) → (name_run 8 text at ≡ 0 → ⊥)
      → read_at text at ≡ then_some (eqb (byte_at text (at + name_run 8 text at)) 32) (run_at 8 text at)
  unfolding name_at
  read_some at some = by_blank (eqb (byte_at text (at + name_run 8 text at)) 32) (name_run 8 text at) (key_at text at) some

  -- a name that was read
  pub read_named : (at : ℕ) (name : ReadName) → Some name ≡ read_at text at → (name.size ≡ name_at text at) × (name.key ≡ key_at text at) × (name.size ≡ 0 → ⊥)
  read_named at name =
      cond_case (λ (o : Option ReadName). Some name ≡ o → (name.size ≡ name_at text at) × (name.key ≡ key_at text at) × (name.size ≡ 0 → ⊥))
      (eqb (name_at text at) 0) _ _ (λ t e. absurd (cc))
      (λ t e. let r = same_Some _ _ e in (ap (λ (n : ReadName). n.size) r, ap (λ (n : ReadName). n.key) r, λ z. eqb-false _ _ t (sym (ap (λ (n : ReadName). n.size) r) ∙ z)))

  -- a name has a blank after it inside the text
  pub name_in_lem : (at : ℕ) → 0 < name_at text at → at + name_at text at + 1 ≤ length text
  unfolding name_at
  name_in_lem at =
      cond_case (λ (n : ℕ). 0 < n → at + n + 1 ≤ length text) (eqb (byte_at text (at + name_run 8 text at)) 32) _ _
      (λ t h.
      let q : byte_at text (at + name_run 8 text at) ≡ 32 = eqb-true _ _ t in
      omega (arith, byte_inside text (at + name_run 8 text at) (omega arith)))
      (λ t h. absurd (omega arith))

  -- so has one that was read
  pub read_inside : (at : ℕ) (name : ReadName) → Some name ≡ read_at text at → at + name.size + 1 ≤ length text
  read_inside at name e = let named = read_named at name e in omega (arith, named.0, named.2, name_in_lem at (omega arith))
