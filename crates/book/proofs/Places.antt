-- Bytes, digits and numbers at places of a text: how they are read step by step.
-- Assumes nothing.
use lib.Signed.{mag}
use Rattle.std.proofs.Common.{ℤ, pos, of_z, to_z, to_z-of_z, w32, ltb-true, sym, ℕ, zero, suc, ◌+◌, ◌-◌, ◌*◌, ◌^◌, ◌≤◌, ◌<◌, suc-le-suc, ◌≡◌, refl, ap, ◌∙◌, List, [], ◌∷◌, arith, pow-suc, mul-le-mul_right, suc-mul, lt_of_lt_of_le, add-one, length, ltb, lt-ltb, le-ltb, eq-eqb, ne_eqb, Some, None}
use native.Mathlib.Nat.{pow-le-pow_right}
use Rattle.std.proofs.lemmas.Option.{cond_some}
use Rattle.std.proofs.lemmas.Bool.Decides.{nat_tests}
use Rattle.decimal.specs.Decimal.{digit_of}
use Rattle.book.specs.Reading.{byte_of, digit_read}
use Rattle.book.specs.Number.{byte_at, digit_at, ended_at, digits_at, number_at}
use Rattle.book.specs.declared.text.End.{End}
use Rattle.book.specs.declared.text.End.TheVariants.{Line, Blank}

-- a byte that the 0 past the end is not stands inside the text
pub inside : (P : ℕ → Type 0) → (P 0 → ⊥) → (text : List ℕ) (at : ℕ) → P (byte_at text at) → at < length text
inside P not0 [] at h = absurd (not0 h)
inside P not0 (x ∷ text) zero h = omega arith
inside P not0 (x ∷ text) (suc at) h = suc-le-suc (inside P not0 text at h)

-- so a byte above 0 does, and a digit
pub byte_inside : (text : List ℕ) (at : ℕ) → 0 < byte_at text at → at < length text
byte_inside = inside (λ b. 0 < b) (λ h. omega arith)

pub digit_inside : (text : List ℕ) (at : ℕ) → digit_at text at < 10 → at < length text
unfolding digit_at
digit_inside = inside (λ b. digit_of b < 10) (λ h. omega arith)

-- the byte that ends a number is above 0
pub end_some : (end : End) → 0 < byte_of end
end_some Line = omega arith
end_some Blank = omega arith

-- a digit that was read, and none
pub digit_some : (text : List ℕ) (at d : ℕ) → Some d ≡ digit_read text at → (digit_at text at ≡ d) × (digit_at text at < 10)
digit_some text at d e = let r = cond_some (ltb (digit_at text at) 10) (digit_at text at) d (sym e) in (r.1, ltb-true _ 10 r.0)

pub digit_none : (text : List ℕ) (at : ℕ) → digit_read text at ≡ None → 10 ≤ digit_at text at
digit_none text at e = grind (arith, nat_tests)

module _ (text : List ℕ) (at v end : ℕ) where
  -- where no digit stands, the number ends
  pub digits-stop : (k : ℕ) → 10 ≤ digit_at text at → digits_at k text at v end ≡ ended_at text at v end
  unfolding digits_at
  digits-stop zero h = refl
  digits-stop (suc k) h = simp (le-ltb _ _ h)

  -- after the last digit that may stand, the number ends
  pub digits_none : digits_at 0 text at v end ≡ ended_at text at v end
  unfolding digits_at
  digits_none = refl

  pub digits_more : (k : ℕ) → digit_at text at < 10 → digits_at (suc k) text at v end ≡ digits_at k text (at + 1) (v * 10 + digit_at text at) end
  unfolding digits_at
  digits_more k h = simp (lt-ltb _ _ h)

  -- one digit more
  pub digits_turn : (last d : ℕ) → at < last → Some d ≡ digit_read text at
      → digits_at (last - at) text at v end ≡ digits_at (last - (at + 1)) text (at + 1) (v * 10 + d) end
  digits_turn last d l e =
      let r = digit_some text at d e in
      let k : last - at ≡ suc (last - (at + 1)) = omega arith in
      ap (λ (m : ℕ). digits_at m text at v end) k ∙ digits_more (last - (at + 1)) r.1
      ∙ ap (λ (x : ℕ). digits_at (last - (at + 1)) text (at + 1) (v * 10 + x) end) r.0

-- a number below a power of the base, with one digit more, is below the next power
pub base_more : {base : ℕ} (n v d : ℕ) → v < base ^ n → d < base → v * base + d < base ^ (n + 1)
base_more {base} n v d h l = rw (add-one, pow-suc) (omega (arith, mul-le-mul_right base h, suc-mul v base))

-- a number of at most m digits has at most n, where n is not smaller
pub power_wide : {base : ℕ} (m n v : ℕ) → 0 < base → m ≤ n → v < base ^ m → v < base ^ n
power_wide m n v some l h = lt_of_lt_of_le h (pow-le-pow_right some {i = m} {j = n} l)

module _ (text : List ℕ) (at end : ℕ) where
  -- no number starts where no digit stands
  pub field-none : 10 ≤ digit_at text at → number_at text at end ≡ None
  unfolding number_at
  field-none h = simp (le-ltb _ _ h)

  -- after a first 0 the number ends
  pub field_zero : digit_at text at ≡ 0 → number_at text at end ≡ ended_at text (at + 1) 0 end
  unfolding number_at
  field_zero h =
      let l : digit_at text at < 10 = omega arith in
      simp (lt-ltb _ _ l, eq-eqb _ _ h)

  -- after another first digit at most six more stand
  pub field_some : digit_at text at < 10 → (digit_at text at ≡ 0 → ⊥) → number_at text at end ≡ digits_at 6 text (at + 1) (digit_at text at) end
  unfolding number_at
  field_some l h = simp (lt-ltb _ _ l, ne_eqb _ _ h)

-- what a signed number of 32 bits is read back as
pub read_back : {z : ℤ} {v : ℕ} → mag z < 2147483648 → z ≡ pos v → to_z w32 (of_z w32 z) ≡ pos v
read_back few e = to_z-of_z {w = w32} (record { sfits = few }) ∙ e
