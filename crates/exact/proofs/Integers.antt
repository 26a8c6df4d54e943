-- Integers by their parts: z is `up z − dn z`, two naturals, so that `omega` proves what it cannot read in ℤ.
-- `omega (arith, ints, add_parts a b, mul_parts a c)` reads each hypothesis a ≤ℤ b, a <ℤ b and a ≡ b of ℤ, and proves such a goal;
-- one entry of `add_parts`, `sub_parts`, `mul_parts` for each operation that the terms have.
-- Assumes nothing.
use mathlib.Core.Path.{◌≡◌, refl, sym, ap, subst}
use mathlib.Core.Bool.{Bool, true, false, not, cond}
use Prim.Native.Nat.{ℕ, zero, suc, ◌+◌, ◌*◌, ◌-◌, ◌≤◌, ◌<◌}
use native.Mathlib.Omega.{arith}
use lib.Dec.{T, ltb, leb→le, le→leb, ltb→lt, lt→ltb, nltb→le, nleb→lt}
use lib.IntN.{ℤ, pos, negsuc, neg_ℤ, nat_abs, sub_ℕ, ◌+ℤ◌, ◌-ℤ◌, ◌*ℤ◌}
use lib.Signed.{le_z, lt_z, ◌≤ℤ◌, ◌<ℤ◌, lt_z_no}
use Rattle.exact.specs.Parts.{up, dn}

-- ---- the operations
by_test : (c : Bool) (x y : ℤ) (P : ℤ → Type 0) → (T c → P x) → (T (not c) → P y) → P (cond c x y)
by_test true x y P f g = f tt
by_test false x y P f g = g tt

sub_nat : (a b : ℕ) → up (sub_ℕ a b) + b ≡ a + dn (sub_ℕ a b)
sub_nat a b =
    by_test (ltb a b) (negsuc (b - suc a)) (pos (a - b)) (λ z. up z + b ≡ a + dn z)
    (λ t. let h : a < b = ltb→lt a b t in omega arith)
    (λ t. let h : b ≤ a = nltb→le a b t in omega arith)

pub add_parts : (a b : ℤ) → up (a +ℤ b) + (dn a + dn b) ≡ up a + up b + dn (a +ℤ b)
add_parts (pos a) (pos b) = omega arith
add_parts (pos a) (negsuc b) = omega (arith, sub_nat a (suc b))
add_parts (negsuc a) (pos b) = omega (arith, sub_nat b (suc a))
add_parts (negsuc a) (negsuc b) = omega arith

pub neg_up : (a : ℤ) → up (neg_ℤ a) ≡ dn a
neg_up (pos zero) = refl
neg_up (pos (suc n)) = refl
neg_up (negsuc n) = refl

pub neg_dn : (a : ℤ) → dn (neg_ℤ a) ≡ up a
neg_dn (pos zero) = refl
neg_dn (pos (suc n)) = refl
neg_dn (negsuc n) = refl

pub sub_parts : (a b : ℤ) → up (a -ℤ b) + (dn a + up b) ≡ up a + dn b + dn (a -ℤ b)
sub_parts a b = omega (arith, add_parts a (neg_ℤ b), neg_up b, neg_dn b)

pub mul_parts : (a b : ℤ) → up (a *ℤ b) + (up a * dn b + dn a * up b) ≡ up a * up b + dn a * dn b + dn (a *ℤ b)
mul_parts (pos a) (pos b) = omega arith
mul_parts (pos a) (negsuc b) = omega (arith, neg_up (pos (a * suc b)), neg_dn (pos (a * suc b)))
mul_parts (negsuc a) (pos b) = omega (arith, neg_up (pos (suc a * b)), neg_dn (pos (suc a * b)))
mul_parts (negsuc a) (negsuc b) = omega arith

-- ---- the orders
pub le_parts : (a b : ℤ) → a ≤ℤ b → up a + dn b ≤ up b + dn a
le_parts (pos a) (pos b) h = omega (arith, leb→le a b h.le)
le_parts (pos a) (negsuc b) h = absurd h.le
le_parts (negsuc a) (pos b) h = omega arith
le_parts (negsuc a) (negsuc b) h = omega (arith, leb→le b a h.le)

pub parts_le : (a b : ℤ) → up a + dn b ≤ up b + dn a → a ≤ℤ b
parts_le (pos a) (pos b) h = record { le = le→leb a b (omega arith) }
parts_le (pos a) (negsuc b) h = absurd (omega arith)
parts_le (negsuc a) (pos b) h = record { le = tt }
parts_le (negsuc a) (negsuc b) h = record { le = le→leb b a (omega arith) }

pub lt_parts : (a b : ℤ) → a <ℤ b → up a + dn b < up b + dn a
lt_parts (pos a) (pos b) h = omega (arith, ltb→lt a b h.lt)
lt_parts (pos a) (negsuc b) h = absurd h.lt
lt_parts (negsuc a) (pos b) h = omega arith
lt_parts (negsuc a) (negsuc b) h = omega (arith, ltb→lt b a h.lt)

pub parts_lt : (a b : ℤ) → up a + dn b < up b + dn a → a <ℤ b
parts_lt (pos a) (pos b) h = record { lt = lt→ltb a b (omega arith) }
parts_lt (pos a) (negsuc b) h = absurd (omega arith)
parts_lt (negsuc a) (pos b) h = record { lt = tt }
parts_lt (negsuc a) (negsuc b) h = record { lt = lt→ltb b a (omega arith) }

pub eq_parts : (a b : ℤ) → a ≡ b → up a + dn b ≡ up b + dn a
eq_parts a b e = omega (arith, ap up e, ap dn e)

pub parts_eq : (a b : ℤ) → up a + dn b ≡ up b + dn a → a ≡ b
parts_eq (pos a) (pos b) h = ap pos (omega arith)
parts_eq (pos a) (negsuc b) h = absurd (omega arith)
parts_eq (negsuc a) (pos b) h = absurd (omega arith)
parts_eq (negsuc a) (negsuc b) h = ap negsuc (omega arith)

-- the size of a number
pub abs_parts : (z : ℤ) → nat_abs z ≡ up z + dn z
abs_parts (pos n) = omega arith
abs_parts (negsuc n) = omega arith

-- the same where each part is cut off at the other: one of the two is 0
pub size_parts : (z : ℤ) → nat_abs z ≡ (up z - dn z) + (dn z - up z)
size_parts (pos n) = omega arith
size_parts (negsuc n) = omega arith

-- ---- what a signed test leaves
pub lt_yes : (a b : ℤ) → lt_z a b ≡ true → up a + dn b < up b + dn a
lt_yes a b e = lt_parts a b (record { lt = subst T (sym e) tt })

pub lt_no : (a b : ℤ) → lt_z a b ≡ false → up b + dn a ≤ up a + dn b
lt_no a b e = le_parts b a (lt_z_no (subst (λ (t : Bool). T (not t)) (sym e) tt))

pub le_yes : (a b : ℤ) → le_z a b ≡ true → up a + dn b ≤ up b + dn a
le_yes a b e = le_parts a b (record { le = subst T (sym e) tt })

pub le_no : (a b : ℤ) → le_z a b ≡ false → up b + dn a < up a + dn b
le_no (pos m) (pos n) e = omega (arith, nleb→lt m n (subst (λ (t : Bool). T (not t)) (sym e) tt))
le_no (pos m) (negsuc n) e = omega arith
le_no (negsuc m) (pos n) e = absurd (subst (λ (t : Bool). T (not t)) (sym e) tt)
le_no (negsuc m) (negsuc n) e = omega (arith, nleb→lt n m (subst (λ (t : Bool). T (not t)) (sym e) tt))

-- a number that is not below zero
pub is_pos : (z : ℤ) → dn z ≤ up z → z ≡ pos (up z)
is_pos (pos n) h = refl
is_pos (negsuc n) h = absurd (omega arith)

pub ruleset ints = (le_parts, parts_le, lt_parts, parts_lt, eq_parts, parts_eq, lt_yes, lt_no, le_yes, le_no)
