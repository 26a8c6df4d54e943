-- Which numbers a list of tests can give, by the numbers that stand in it and by those whose tests cannot be met.
-- Assumes nothing.
use mathlib.Core.Path.{◌≡◌, refl, sym, ◌∙◌}
use mathlib.Core.Bool.{Bool, true, false, not, cond, ◌||◌, or-false}
use mathlib.Core.List.{List, [], ◌∷◌}
use Prim.Native.Nat.{ℕ}
use lib.Dec.{eqb}
use borrow.Author.Tests.{not-true, eqb-false}
use Rattle.card.specs.Words.{among}
use Rattle.card.specs.Reasons.{Test, first}
use Rattle.card.proofs.Every.{every, here, later}
use Rattle.card.proofs.Tests.{first_passes}

-- a list without the number n never gives it
pub never : (n : ℕ) (ts : List Test) → not (eqb 0 n) ≡ true → every (λ (t : Test). not (eqb t.number n)) ts ≡ true → ¬ (first ts ≡ n)
never n ts z t e = eqb-false (first ts) n (not-true _ (first_passes (λ k. not (eqb k n)) ts z t)) e

-- a list in which no test with a number that f refuses is met gives none of them
met_passes : (f : ℕ → Bool) (b : Bool) (n m : ℕ) → (f n || not b) ≡ true → f m ≡ true → f (cond b n m) ≡ true
met_passes f true n m h k = sym (or-false (f n)) ∙ h
met_passes f false n m h k = k

module _ (f : ℕ → Bool) where
  abbrev pub can_be_met : Test → Bool
  can_be_met t = f t.number || not t.met

  pub first_met : (ts : List Test) → f 0 ≡ true → every can_be_met ts ≡ true → f (first ts) ≡ true
  first_met [] z t = z
  first_met (x ∷ xs) z t = met_passes f x.met x.number (first xs) (here can_be_met x xs t) (first_met xs z (later can_be_met x xs t))

-- what a relative card is never given
abbrev pub not_surveyed : ℕ → Bool
not_surveyed n = not (among (34 ∷ 35 ∷ []) n)

pub never_surveyed : (ts : List Test) → every (can_be_met not_surveyed) ts ≡ true → among (34 ∷ 35 ∷ []) (first ts) ≡ false
never_surveyed ts t = not-true _ (first_met not_surveyed ts refl t)
