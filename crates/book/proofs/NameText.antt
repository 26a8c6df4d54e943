-- A name is read at a place exactly when it stands there with a blank after it.
-- Assumes nothing.
use Rattle.std.proofs.Common.{ℕ, zero, suc, ◌+◌, ◌≤◌, ◌<◌, ◌≡◌, sym, ap, ◌∙◌, subst, true, List, [], ◌∷◌, ◌++◌, arith, add-one, length, take, drop, length-drop, take-append-drop, drop-cons, drop-drop, length-take-le, eqb, eqb-true, eq-eqb}
use Rattle.decimal.specs.Decimal.{Each}
use Rattle.decimal.proofs.Choices.{cond_case}
use Rattle.book.specs.Number.{byte_at}
use Rattle.book.specs.Name.{is_name_byte, name_run, name_at}
use Rattle.book.specs.Printed.{IsName}
use Rattle.book.specs.LineMeaning.{Stands}
use Rattle.book.proofs.Places.{byte_inside}
use Rattle.book.proofs.Names.{name_byte_inside, run_stop}
use Rattle.book.proofs.Standing.{byte_there, rest_there, stands_one}

-- bytes of a name
abbrev pub NameBytes : List ℕ → Type 0
NameBytes = Each (λ b. is_name_byte b ≡ true)

-- a name of this size at a place, and the blank after it
pub record NameThere (text : List ℕ) (at size : ℕ) : Type 0 where
  pub long : length (take size (drop at text)) ≡ size
  pub name : IsName (take size (drop at text))
  pub stands : Stands text at (take size (drop at text)) (at + size)
  pub blank : Stands text (at + size) (32 ∷ []) (at + size + 1)

module _ (text : List ℕ) where
  -- a run of at most k bytes has at most k, and each is a name's
  pub run_most : (k at : ℕ) → name_run k text at ≤ k
  unfolding name_run
  run_most zero at = omega arith
  run_most (suc k) at =
      cond_case (λ (n : ℕ). n ≤ suc k) (is_name_byte (byte_at text at)) _ _ (λ t. omega (arith, run_most k (at + 1))) (λ t. omega arith)

  -- so a name has at most eight
  pub name_most : (at : ℕ) → name_at text at ≤ 8
  unfolding name_at
  name_most at = cond_case (λ (n : ℕ). n ≤ 8) (eqb (byte_at text (at + name_run 8 text at)) 32) _ _ (λ t. run_most 8 at) (λ t. omega arith)

  pub run_bytes : (k at : ℕ) → NameBytes (take (name_run k text at) (drop at text))
  unfolding name_run Each
  run_bytes zero at = tt
  run_bytes (suc k) at =
      cond_case (λ (n : ℕ). NameBytes (take n (drop at text))) (is_name_byte (byte_at text at)) _ _
      (λ t. let m : ℕ = name_run k text (at + 1) in
      let one : suc m ≡ 1 + m = omega arith in
      let cut : byte_at text at ∷ drop (at + 1) text ≡ drop at text = sym (drop-cons text at 0 (name_byte_inside text at t) ∙ rw add-one) in
      subst (λ (bytes : List ℕ). NameBytes (take (1 + m) bytes)) cut
      (subst (λ (n : ℕ). NameBytes (take n (byte_at text at ∷ drop (at + 1) text))) one (t, run_bytes k (at + 1))))
      (λ t. tt)

  module _ (at : ℕ) where
    -- some bytes of a name with a blank after them
    name_there : (size : ℕ) → 0 < size → size ≤ 8 → NameBytes (take size (drop at text)) → byte_at text (at + size) ≡ 32 → NameThere text at size
    name_there size some short bytes e =
        let i : at + size < length text = byte_inside text (at + size) (omega arith) in
        let l : length (take size (drop at text)) ≡ size = length-take-le size (drop at text) (omega (arith, length-drop at text)) in
        record {
          long = l;
          name = record { some = omega arith; short = omega arith; bytes = bytes };
          stands = record {
            there = sym (take-append-drop size (drop at text)) ∙ ap (λ (r : List ℕ). take size (drop at text) ++ r) (drop-drop size at text);
            after = omega arith;
          };
          blank = stands_one text (at + size) 32 i e;
        }

    pub name_read_lem : 0 < name_at text at → NameThere text at (name_at text at)
    unfolding name_at
    name_read_lem =
        cond_case (λ (n : ℕ). 0 < n → NameThere text at n) (eqb (byte_at text (at + name_run 8 text at)) 32) _ _
        (λ t h. name_there (name_run 8 text at) h (run_most 8 at) (run_bytes 8 at) (eqb-true _ _ t))
        (λ t h. absurd (omega arith))

  -- the run stops at the blank
  run_is : (name : List ℕ) (k at : ℕ) (rest : List ℕ) → NameBytes name → length name ≤ k → drop at text ≡ name ++ (32 ∷ rest)
      → name_run k text at ≡ length name
  unfolding name_run Each
  run_is [] k at rest h l e = run_stop text k at (ap is_name_byte (byte_there text at 32 rest e))
  run_is (b ∷ name) zero at rest h l e = absurd (omega arith)
  run_is (b ∷ name) (suc k) at rest h l e =
      let t : is_name_byte (byte_at text at) ≡ true = ap is_name_byte (byte_there text at b _ e) ∙ h.0 in
      rw t (omega (arith, run_is name k (at + 1) rest h.1 (omega arith) (rest_there text at (b ∷ []) _ e)))

  pub name_reads : (at : ℕ) (name rest : List ℕ) → IsName name → drop at text ≡ name ++ (32 ∷ rest) → name_at text at ≡ length name
  unfolding name_at
  name_reads at name rest n e =
      let r : name_run 8 text at ≡ length name = run_is name 8 at rest n.bytes n.short e in
      let b : byte_at text (at + length name) ≡ 32 = byte_there text (at + length name) 32 rest (rest_there text at name (32 ∷ rest) e) in
      rw (r, eq-eqb _ _ b)
