-- Laws of choices and tests, of what holds of each of a list, and of what is left.
-- Assumes nothing.
use Prim.Native.Nat.{ℕ, zero, suc, ◌≤◌, ◌<◌}
use mathlib.Core.Path.{◌≡◌, refl, ap}
use mathlib.Core.Bool.{Bool, true, false, cond, ◌&&◌, ◌||◌, true≢false, false≢true}
use mathlib.Core.List.{List, [], ◌∷◌, ◌++◌}
use native.Mathlib.Omega.{arith}
use lib.ListN.{length, get_or}
use Rattle.decimal.specs.Decimal.{Each}

-- what holds in both cases of a test holds of the choice
pub cond_case : {A : Type 0} (P : A → Type 0) (b : Bool) (x y : A) → (b ≡ true → P x) → (b ≡ false → P y) → P (cond b x y)
cond_case P true x y p q = p refl
cond_case P false x y p q = q refl

-- tests joined by "or": where none is met, and where the second is
pub or-none : (a b : Bool) → (a || b) ≡ false → (a ≡ false) × (b ≡ false)
or-none true b e = absurd (true≢false e)
or-none false b e = (refl, e)

pub neither_met : (a b : Bool) → a ≡ false → b ≡ false → (a || b) ≡ false
neither_met a b p q = rw (p, q)

pub second_met : (a b : Bool) → b ≡ true → (a || b) ≡ true
second_met true b q = refl
second_met false b q = q

-- tests joined by "and": where both are met
pub both_met : (a b : Bool) → (a && b) ≡ true → (a ≡ true) × (b ≡ true)
both_met true b e = (refl, e)
both_met false b e = absurd (false≢true e)

-- a test that cannot fail is met
pub not_met : (b : Bool) → (b ≡ false → ⊥) → b ≡ true
not_met true h = refl
not_met false h = absurd (h refl)

-- where none is left, all is as at the start
pub none_left : {A : Type 0} (f : ℕ → A) (k : ℕ) → k ≤ 0 → f k ≡ f 0
none_left f k h = let z : k ≡ 0 = omega arith in ap f z

pub each_none : {A : Type 0} (P : A → Type 0) → Each P []
unfolding Each
each_none P = tt

pub each_first : {A : Type 0} (P : A → Type 0) (x : A) (xs : List A) → Each P (x ∷ xs) → P x
unfolding Each
each_first P x xs ps = ps.0

-- of the i-th of a list, too
pub each_at : {A : Type 0} (P : A → Type 0) (xs : List A) (i : ℕ) (other : A) → Each P xs → i < length xs → P (get_or xs i other)
unfolding Each
each_at P [] i other ps h = absurd (omega arith)
each_at P (x ∷ xs) zero other ps h = ps.0
each_at P (x ∷ xs) (suc i) other ps h = each_at P xs i other ps.1 (omega arith)

pub each_more : {A : Type 0} (P : A → Type 0) (xs : List A) (x : A) → Each P xs → P x → Each P (xs ++ (x ∷ []))
unfolding Each
each_more P [] x ps p = (p, tt)
each_more P (y ∷ xs) x ps p = (ps.0, each_more P xs x ps.1 p)
