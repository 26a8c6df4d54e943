-- Each condition of a reason turned round: what holds exactly where it is not met.
-- Assumes nothing.
use mathlib.Core.Path.{◌≡◌, refl}
use mathlib.Core.Bool.{Bool, true, false, ◌||◌, ◌&&◌, or-true, and-true, and-false}
use mathlib.Core.Logic.Iff
use mathlib.Core.Logic.{◌↔◌, ◌⊎◌, inl, inr, ⊎_elim}
use mathlib.Mathlib.Data.Bool.Basic.{or-eq-false-eq-eq-false-and-eq-false}
use Prim.Native.Nat.{ℕ, ◌≤◌, ◌<◌}
use native.Mathlib.Omega.{arith}
use lib.Dec.{eqb}
use borrow.Author.Tests.{ltb-true, ltb-false, eqb-true, not-false, lt-ltb, le-ltb, eq-eqb}
use Rattle.card.specs.Words.{◌above◌, outside, neither}
use Rattle.card.specs.Reasons.{too_wide}

pub not_above : (a b : ℕ) → (a above b ≡ false) ↔ (a ≤ b)
not_above a b = (ltb-false b a, le-ltb b a)

pub not_outside : (n a b : ℕ) → (outside n a b ≡ false) ↔ ((a ≤ n) × (n ≤ b))
not_outside n a b =
    Iff.trans (or-eq-false-eq-eq-false-and-eq-false (a above n) (n above b)) (Iff.and (not_above a n) (not_above n b))

pub one_of : (s t : Bool) → (s || t) ≡ true → (s ≡ true) ⊎ (t ≡ true)
one_of true t e = inl refl
one_of false t e = inr e

pub not_neither : (n a b : ℕ) → (neither n a b ≡ false) ↔ ((n ≡ a) ⊎ (n ≡ b))
not_neither n a b = (
  λ e. ⊎_elim (λ s. inl (eqb-true n a s)) (λ t. inr (eqb-true n b t)) (one_of (eqb n a) (eqb n b) (not-false _ e)),
  ⊎_elim (λ h. rw (eq-eqb n a h)) (λ h. rw (eq-eqb n b h, or-true)),
)

-- a unit that is 1 or 10
pub one_or_ten : {n : ℕ} → (n ≡ 1) ⊎ (n ≡ 10) → (1 ≤ n) × (n ≤ 10)
one_or_ten = ⊎_elim (λ e. omega arith) (λ e. omega arith)

-- W above 0 with R above 1000
no_widening : (W R : ℕ) → ((W above 0 && R above 1000) ≡ false) ↔ (1000 < R → W ≡ 0)
no_widening W R = (λ e. forth e, λ none. back none (R above 1000) refl) where
  forth : (W above 0 && R above 1000) ≡ false → 1000 < R → W ≡ 0
  forth e h =
      let zero : W ≤ 0 = ltb-false 0 W (rw (lt-ltb 1000 R h, and-true) at e) in
      omega arith

  back : (1000 < R → W ≡ 0) → (b : Bool) → R above 1000 ≡ b → (W above 0 && b) ≡ false
  back none true e = rw (none (ltb-true 1000 R e))
  back none false e = and-false (W above 0)

pub not_too_wide : (W R : ℕ) → (too_wide W R ≡ false) ↔ ((W ≤ 3500) × (1000 < R → W ≡ 0))
not_too_wide W R =
    Iff.trans (or-eq-false-eq-eq-false-and-eq-false (W above 3500) (W above 0 && R above 1000)) (Iff.and (not_above W 3500) (no_widening W R))
