-- Fractions as natural numbers reckon them: x is (a − b)/d. What sums, differences, products, quotients, the greater of two and the order come to.
-- Assumes nothing.
use mathlib.Core.Path.{◌≡◌, refl, ap}
use mathlib.Core.Bool.{Bool, true, false}
use Prim.Native.Nat.{ℕ, zero, suc, ◌+◌, ◌*◌, ◌-◌, ◌≤◌, ◌<◌, max}
use native.Mathlib.Nat.{mul-pos, mul-le-mul_right, mul-lt-mul_of_pos_right, le_of_mul-le-mul_left, lt_of_mul-lt-mul_left, eq_of_mul-eq-mul_left}
use native.Mathlib.Decide.{dec_le}
use native.Mathlib.Omega.{arith}
use lib.IntN.{ℤ, pos, negsuc, nat_abs, ◌*ℤ◌}
use Rattle.exact.specs.Exact.{Exact, frac, whole, minus, ratio, ◌⊕◌, ◌⊖◌, ◌⊗◌, ◌⊘◌, ◌≼◌, ◌≺◌, ◌≈◌, at_most, greater}
use Rattle.exact.specs.Parts.{up, dn, Is}
use Rattle.exact.proofs.Ring.{ring}
use Rattle.exact.proofs.Integers.{sub_parts, mul_parts, neg_up, neg_dn, abs_parts, is_pos}
use Rattle.exact.proofs.Order.{above, below, left, right, le_out, le_in, lt_out, lt_in, eq_in, at_most_yes, at_most_no, clash}
use Rattle.exact.proofs.Sums.{sum_parts, difference_parts}

-- ---- numbers
pub is_self : (x : Exact) → 0 < x.den → Is x (above x) (below x) x.den
is_self x h = record { eq = refl; proper = h; over = h }

pub is_frac : (a b : ℕ) → 0 < b → Is (frac a b) a 0 b
is_frac a b h = record { eq = omega arith; proper = h; over = h }

pub is_whole : (n d : ℕ) → 0 < d → Is (whole n) (n * d) 0 d
is_whole n d h = record { eq = omega arith; proper = omega arith; over = h }

pub is_minus : (n d : ℕ) → 0 < d → Is (minus n) 0 (n * d) d
is_minus n d h = record {
  eq = omega (arith, ap (λ (k : ℕ). k * d) (neg_up (pos n)), ap (λ (k : ℕ). k * d) (neg_dn (pos n)));
  proper = omega arith;
  over = h;
}

pub is_one : (n : ℕ) → Is (whole n) n 0 1
is_one n = is_frac n 1 (omega arith)

-- ---- other parts of the same number
pub is_as : {x : Exact} {a b d a' b' d' : ℕ} → Is x a b d → 0 < d' → a * d' + b' * d ≡ a' * d + b * d' → Is x a' b' d'
is_as {x} {a} {b} {d} {a'} {b'} {d'} f h e = record {
  eq = eq_of_mul-eq-mul_left d f.over _ _ (omega (arith, ap (λ (k : ℕ). k * d') f.eq, ap (λ (k : ℕ). k * x.den) e));
  proper = f.proper;
  over = h;
}

-- what both parts have is left out
pub is_net : {x : Exact} {a b d a' b' : ℕ} → Is x a b d → a + b' ≡ a' + b → Is x a' b' d
is_net {d = d} f e = is_as f f.over (omega (arith, ap (λ (k : ℕ). k * d) e))

pub is_natural : {x : Exact} {a b d : ℕ} → Is x a b d → b ≤ a → Is x (a - b) 0 d
is_natural f h = is_net f (omega arith)

pub is_scale : {x : Exact} {a b d : ℕ} (k : ℕ) → 0 < k → Is x a b d → Is x (a * k) (b * k) (d * k)
is_scale k h f = is_as f (mul-pos f.over h) (omega arith)

-- ---- sums, differences, products, quotients
module _ {x y : Exact} {a b a' b' d : ℕ} (f : Is x a b d) (g : Is y a' b' d) where
  pub is_add : Is (x ⊕ y) (a + a') (b + b') d
  is_add = record {
    eq = omega (arith, ap (λ (k : ℕ). k * d) (sum_parts x y), ap (λ (k : ℕ). k * y.den) f.eq, ap (λ (k : ℕ). k * x.den) g.eq);
    proper = mul-pos f.proper g.proper;
    over = f.over;
  }

  pub is_sub : Is (x ⊖ y) (a + b') (b + a') d
  is_sub = record {
    eq = omega (arith, ap (λ (k : ℕ). k * d) (difference_parts x y), ap (λ (k : ℕ). k * y.den) f.eq, ap (λ (k : ℕ). k * x.den) g.eq);
    proper = mul-pos f.proper g.proper;
    over = f.over;
  }

module _ {x y : Exact} {a b d a' b' d' : ℕ} (f : Is x a b d) (g : Is y a' b' d') where
  product :
      (S : ℤ) (X X' Y Y' e e' : ℕ) → up S + (X * Y' + X' * Y) ≡ X * Y + X' * Y' + dn S →
      X * d + b * e ≡ a * e + X' * d → Y * d' + b' * e' ≡ a' * e' + Y' * d' →
      up S * (d * d') + (a * b' + b * a') * (e * e') ≡ (a * a' + b * b') * (e * e') + dn S * (d * d')
  product S X X' Y Y' e e' k l m =
      simp ring
      (omega (
        arith,
        simp ring at (ap (λ (n : ℕ). n * (d * d')) k),
        simp ring at (ap (λ (n : ℕ). n * (Y * d')) l),
        simp ring at (ap (λ (n : ℕ). n * (Y' * d')) l),
        simp ring at (ap (λ (n : ℕ). n * (a * e)) m),
        simp ring at (ap (λ (n : ℕ). n * (b * e)) m),
      ))

  pub is_product : Is (x ⊗ y) (a * a' + b * b') (a * b' + b * a') (d * d')
  is_product = record {
    eq = product (x.num *ℤ y.num) (above x) (below x) (above y) (below y) x.den y.den (mul_parts x.num y.num) f.eq g.eq;
    proper = mul-pos f.proper g.proper;
    over = mul-pos f.over g.over;
  }

-- where the first factor is not below zero
pub is_mul : {x y : Exact} {a d a' b' d' : ℕ} → Is x a 0 d → Is y a' b' d' → Is (x ⊗ y) (a * a') (a * b') (d * d')
is_mul f g = is_net (is_product f g) (omega arith)

-- the divisor is above zero
module _ {x y : Exact} {a b d m e : ℕ} (f : Is x a b d) (g : Is y m 0 e) (h : 0 < m) where
  none : (z : ℤ) (k : ℕ) → up z * e + 0 * k ≡ m * k + dn z * e → 0 < k → dn z ≡ 0
  none (pos n) k q kp = refl
  none (negsuc n) k q kp = absurd (no (mul-pos h kp) q)
    where
      no : 0 < m * k → 0 * e + 0 * k ≡ m * k + suc n * e → ⊥
      no l q = omega arith

  under : nat_abs y.num * e ≡ m * y.den
  under =
      let z = none y.num y.den g.eq g.proper in
      omega (arith, g.eq, ap (λ (k : ℕ). k * e) (abs_parts y.num), ap (λ (k : ℕ). k * e) z)

  some : (n : ℕ) → n * e ≡ m * y.den → 0 < n
  some zero q = absurd (no (mul-pos h g.proper) q)
    where
      no : 0 < m * y.den → 0 * e ≡ m * y.den → ⊥
      no l q = omega arith
  some (suc n) q = omega arith

  div_eq :
      up (x.num *ℤ pos y.den) * (d * m) + b * e * (x.den * nat_abs y.num)
      ≡ a * e * (x.den * nat_abs y.num) + dn (x.num *ℤ pos y.den) * (d * m)
  div_eq =
      omega (
        arith,
        ap (λ (n : ℕ). n * (d * m)) (mul_parts x.num (pos y.den)),
        ap (λ (n : ℕ). n * (a * x.den)) under,
        ap (λ (n : ℕ). n * (b * x.den)) under,
        ap (λ (n : ℕ). n * (m * y.den)) f.eq,
      )

  pub is_div : Is (x ⊘ y) (a * e) (b * e) (d * m)
  is_div = record { eq = div_eq; proper = mul-pos f.proper (some (nat_abs y.num) under); over = mul-pos f.over h }

-- ---- what is often wanted: n times x, a quotient by a whole number, and a difference that is not below zero
pub is_times : {x : Exact} {a b d : ℕ} (n : ℕ) → Is x a b d → Is (whole n ⊗ x) (n * a) (n * b) d
is_times n f = is_as (is_mul (is_one n) f) f.over (omega arith)

pub is_over : {x : Exact} {a b d : ℕ} (n : ℕ) → 0 < n → Is x a b d → Is (x ⊘ whole n) a b (n * d)
is_over n h f = is_as (is_div f (is_one n) h) (mul-pos h f.over) (omega arith)

pub is_less : {x y : Exact} {a b d : ℕ} → b ≤ a → Is x a 0 d → Is y b 0 d → Is (x ⊖ y) (a - b) 0 d
is_less h f g = is_net (is_sub f g) (omega arith)

pub is_from_zero : {x : Exact} {a d : ℕ} → Is x a 0 d → Is (x ⊖ whole 0) a 0 d
is_from_zero f = is_net (is_sub f (is_whole 0 _ f.over)) (omega arith)

-- a sum and a difference of numbers over two denominators
pub is_sum : {x y : Exact} {a b d a' b' d' : ℕ} → Is x a b d → Is y a' b' d' → Is (x ⊕ y) (a * d' + a' * d) (b * d' + b' * d) (d * d')
is_sum {d = d} {d' = d'} f g = is_add (is_scale d' g.over f) (is_as g (mul-pos f.over g.over) (omega arith))

pub is_diff : {x y : Exact} {a b d a' b' d' : ℕ} → Is x a b d → Is y a' b' d' → Is (x ⊖ y) (a * d' + b' * d) (b * d' + a' * d) (d * d')
is_diff {d = d} {d' = d'} f g = is_sub (is_scale d' g.over f) (is_as g (mul-pos f.over g.over) (omega arith))

-- a/b is n/(P b) past S/P
pub is_past : {x y : Exact} {a b S P : ℕ} → Is x a 0 b → Is y S 0 P → (n : ℕ) → P * a ≡ S * b + n → Is (x ⊖ y) n 0 (P * b)
is_past {b = b} {P = P} f g n e = is_as (is_diff f g) (mul-pos g.over f.over) (omega (arith, ap (λ (k : ℕ). k * (P * b)) e))

-- ---- the order: (a − b)/d is at most (a' − b')/d' where a d' + b' d is at most a' d + b d'
-- the two comparisons, each multiplied by the denominators of the other
scaled :
    (a b d P N D a' b' d' P' N' D' : ℕ) → P * d + b * D ≡ a * D + N * d → P' * d' + b' * D' ≡ a' * D' + N' * d' →
    (P * D' + N' * D) * (d * d') + (a' * d + b * d') * (D * D') ≡ (a * d' + b' * d) * (D * D') + (P' * D + N * D') * (d * d')
scaled a b d P N D a' b' d' P' N' D' e e' =
    simp ring (omega (arith, simp ring at (ap (λ (n : ℕ). n * (d' * D')) e), simp ring at (ap (λ (n : ℕ). n * (d * D)) e')))

module _ {x y : Exact} {a b d a' b' d' : ℕ} (f : Is x a b d) (g : Is y a' b' d') where
  abbrev low : ℕ
  low = a * d' + b' * d

  abbrev high : ℕ
  high = a' * d + b * d'

  same_order : left x y * (d * d') + high * (x.den * y.den) ≡ low * (x.den * y.den) + right x y * (d * d')
  same_order = scaled a b d (above x) (below x) x.den a' b' d' (above y) (below y) y.den f.eq g.eq

  pub is_le : low ≤ high → x ≼ y
  is_le h =
      le_in (le_of_mul-le-mul_left {k = d * d'} (omega (arith, same_order, mul-le-mul_right (x.den * y.den) h)) (mul-pos f.over g.over))

  pub le_is : x ≼ y → low ≤ high
  le_is h =
      le_of_mul-le-mul_left {k = x.den * y.den} (omega (arith, same_order, mul-le-mul_right (d * d') (le_out h))) (mul-pos f.proper g.proper)

  pub is_lt : low < high → x ≺ y
  is_lt h = lt_in (lt_of_mul-lt-mul_left (d * d') (omega (arith, same_order, mul-lt-mul_of_pos_right h (mul-pos f.proper g.proper))))

  pub lt_is : x ≺ y → low < high
  lt_is h = lt_of_mul-lt-mul_left (x.den * y.den) (omega (arith, same_order, mul-lt-mul_of_pos_right (lt_out h) (mul-pos f.over g.over)))

  pub is_eq : low ≡ high → x ≈ y
  is_eq e = eq_in (go (left x y) (right x y) (omega (arith, same_order, ap (λ (n : ℕ). n * (x.den * y.den)) e)))
    where
      go : (m n : ℕ) → d * d' * m ≡ d * d' * n → m ≡ n
      go m n = eq_of_mul-eq-mul_left (d * d') (mul-pos f.over g.over) m n

  pub is_yes : low ≤ high → at_most x y ≡ true
  is_yes h = go (at_most x y) (at_most_no {x = x} {y = y})
    where
      go : (t : Bool) → (t ≡ false → y ≺ x) → t ≡ true
      go true k = refl
      go false k = absurd (clash (k refl) (is_le h))

  pub is_no : high < low → at_most x y ≡ false
  is_no h = go (at_most x y) (at_most_yes {x = x} {y = y})
    where
      no : low ≤ high → ⊥
      no k = omega arith

      go : (t : Bool) → (t ≡ true → x ≼ y) → t ≡ false
      go true k = absurd (no (le_is (k refl)))
      go false k = refl

-- ---- stations
-- what is not below nought is a natural number over another
pub station_is : {s : Exact} → 0 < s.den → whole 0 ≼ s → Is s (above s) 0 s.den
station_is {s} h from =
    let less : below s ≡ 0 = ap dn (is_pos s.num (omega (arith, le_out from))) in
    is_net (is_self s h) (omega arith)

pub whole_le : (d e : ℕ) → d ≤ e → whole d ≼ whole e
whole_le d e h = is_le (is_one d) (is_one e) (omega arith)

-- ---- the greater of a whole number n and of x
pub is_floor : {x : Exact} {a b d : ℕ} (n : ℕ) → Is x a b d → Is (greater (whole n) x) (max (n * d) (a - b)) 0 d
is_floor {x} {a} {b} {d} n f = go (dec_le (n * d + b) a)
  where
    go : Dec (n * d + b ≤ a) → Is (greater (whole n) x) (max (n * d) (a - b)) 0 d
    go (yes h) = rw (is_yes (is_one n) f (omega arith)) (is_net f (omega arith))
    go (no h) = rw (is_no (is_one n) f (omega arith)) (is_as (is_one n) f.over (omega arith))

-- ---- (a − b)/d itself, and two fractions with the same parts
pub is_ratio : (a b d : ℕ) → 0 < d → Is (ratio a b d) a b d
is_ratio a b d h = record { eq = omega (arith, ap (λ (k : ℕ). k * d) (sub_parts (pos a) (pos b))); proper = h; over = h }

pub is_same : {x y : Exact} {a b d : ℕ} → Is x a b d → Is y a b d → x ≈ y
is_same f g = is_eq f g (omega arith)
