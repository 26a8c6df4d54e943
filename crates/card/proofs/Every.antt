-- A test that each entry of a list passes, computed once, holds of whatever is read from the list.
-- Assumes nothing.
use mathlib.Core.Path.{◌≡◌}
use mathlib.Core.Bool.{Bool, true, false, cond, ◌&&◌, and-eq-true_iff}
use mathlib.Core.List.{List, [], ◌∷◌}
use Prim.Native.Nat.{ℕ, zero, suc, ◌<◌}
use native.Mathlib.Nat.{le_of_suc-le-suc, not-suc-le-zero}
use lib.ListN.{length, get_or}

module _ {A : Type 0} (f : A → Bool) where
  abbrev pub every : List A → Bool
  every [] = true
  every (x ∷ xs) = f x && every xs

  pub here : (x : A) (xs : List A) → every (x ∷ xs) ≡ true → f x ≡ true
  here x xs t = ((and-eq-true_iff (f x) (every xs)).0 t).0

  pub later : (x : A) (xs : List A) → every (x ∷ xs) ≡ true → every xs ≡ true
  later x xs t = ((and-eq-true_iff (f x) (every xs)).0 t).1

  pub at_place : (xs : List A) (d : A) → every xs ≡ true → (n : ℕ) → n < length xs → f (get_or xs n d) ≡ true
  at_place [] d t n h = absurd (not-suc-le-zero h)
  at_place (x ∷ xs) d t zero h = here x xs t
  at_place (x ∷ xs) d t (suc n) h = at_place xs d (later x xs t) n (le_of_suc-le-suc h)

  -- which of two is taken
  pub of_two : (b : Bool) (x y : A) → f x ≡ true → f y ≡ true → f (cond b x y) ≡ true
  of_two true x y s t = s
  of_two false x y s t = t
