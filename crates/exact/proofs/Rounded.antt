-- Rounding to whole units: what the division computes is the nearest count, and its laws.
-- Assumes nothing.
use mathlib.Core.Path.{◌≡◌, refl, ap}
use Prim.Native.Nat.{ℕ, ◌+◌, ◌*◌, ◌≤◌, ◌<◌}
use native.Mathlib.Nat.{mul-le-mul_left, mul-le-mul_right, mul-pos, le_of_mul-le-mul_right, lt_of_mul-lt-mul_right}
use native.Mathlib.Omega.{arith}
use lib.IntN.{ℤ, pos, negsuc, nat_abs, ◌+ℤ◌, ◌-ℤ◌, ◌*ℤ◌}
use lib.Signed.{◌≤ℤ◌}
use Rattle.exact.specs.Exact.{Exact, ratio, ◌⊕◌, ◌⊖◌, ◌≼◌, ◌≈◌}
use Rattle.exact.specs.Rounding.{Tie, lower, higher, units, Prefers, Nearest, taken, rounded, RoundingTheorem}
use Rattle.exact.specs.Parts.{up, dn}
use Rattle.exact.proofs.Integers.{ints, add_parts, sub_parts, mul_parts, parts_le, parts_eq, abs_parts, size_parts}
use Rattle.exact.proofs.Order.{above, below, le_out, le_in, eq_out, eq_in}
use Rattle.exact.proofs.Sums.{sum_parts, difference_parts}
use Rattle.exact.proofs.Floor.{floor_is}

-- worked values below nought: −3½ goes to −4 or to −3 by the rule, and −3¼ to −3
lower_minus_3½ : rounded lower 1 (record { num = negsuc 6; den = 2 }) ≡ negsuc 3
unfolding rounded
lower_minus_3½ = refl

higher_minus_3½ : rounded higher 1 (record { num = negsuc 6; den = 2 }) ≡ negsuc 2
unfolding rounded
higher_minus_3½ = refl

lower_minus_3¼ : rounded lower 1 (record { num = negsuc 12; den = 4 }) ≡ negsuc 2
unfolding rounded
lower_minus_3¼ = refl

-- ---- within half a unit
-- n units of u are within half a unit of x: −d ≤ 2 (num − n d) ≤ d with d = den u, of the integers' parts
-- of the two bounds the rule leaves out −d where halfway goes to the lower, and d where it goes to the higher
record Half (tie : Tie) (u : ℕ) (x : Exact) (n : ℤ) : Type 0 where
  unit : 0 < u
  proper : 0 < x.den
  low : 2 * (up n * (x.den * u)) + 2 * below x + taken tie ≤ 2 * above x + x.den * u + 2 * (dn n * (x.den * u))
  high : 2 * above x + 2 * (dn n * (x.den * u)) + 1 ≤ 2 * (up n * (x.den * u)) + 2 * below x + x.den * u + taken tie

rounded_half : (tie : Tie) {u : ℕ} → 0 < u → (x : Exact) → 0 < x.den → Half tie u x (rounded tie u x)
unfolding rounded
rounded_half tie {u} unit x proper =
    let d = x.den * u in
    let e₁ = add_parts (pos 2 *ℤ x.num) (pos d -ℤ pos (taken tie)) in
    let e₂ = mul_parts (pos 2) x.num in
    let e₃ = sub_parts (pos d) (pos (taken tie)) in
    let f = floor_is (pos 2 *ℤ x.num +ℤ (pos d -ℤ pos (taken tie))) (2 * d) (omega (arith, mul-pos proper unit)) in
    omega arith

-- what a rule takes off the numerator
pub taken_most : (tie : Tie) → taken tie ≤ 1
taken_most lower = omega arith
taken_most higher = omega arith

-- ---- the order
-- one of the two bounds is left out: this is all that keeping the order takes of the rule
strict : (tie : Tie) {a b : ℕ} → 0 < a → 0 < b → taken tie * a < taken tie * b + a
strict lower h₁ h₂ = omega arith
strict higher h₁ h₂ = omega arith

half_mono : {tie : Tie} {u : ℕ} {x y : Exact} {n k : ℤ} → Half tie u x n → Half tie u y k → x ≼ y → n ≤ℤ k
half_mono {tie} {u} {x} {y} {n} {k} f g c =
    let lo = mul-le-mul_right y.den f.low in
    let hi = mul-le-mul_right x.den g.high in
    let s = strict tie f.proper g.proper in
    let p : up n + dn k < up k + dn n + 1 = lt_of_mul-lt-mul_right (x.den * y.den * u) (omega (arith, le_out c)) in
    omega (arith, ints)

half_same : {tie : Tie} {u : ℕ} {x y : Exact} {n k : ℤ} → Half tie u x n → Half tie u y k → x ≈ y → n ≡ k
half_same f g e =
    let a = half_mono f g (le_in (omega (arith, eq_out e))) in
    let b = half_mono g f (le_in (omega (arith, eq_out e))) in
    omega (arith, ints)

half_shift : {tie : Tie} {u : ℕ} {x : Exact} {n : ℤ} (k : ℤ) → Half tie u x n → Half tie u (x ⊕ units u k) (n +ℤ k)
half_shift {u = u} {x = x} {n = n} k f =
    let e₁ = sum_parts x (units u k) in
    let e₂ = ap (λ (m : ℕ). m * x.den) (mul_parts k (pos u)) in
    let e₃ = ap (λ (m : ℕ). m * (x.den * u)) (add_parts n k) in
    omega arith

-- ---- the size: a fraction of at most k either way is rounded to at most k units, whatever the unit
half_size : {tie : Tie} {u k : ℕ} {x : Exact} (n : ℤ) → Half tie u x n → above x ≤ k * (x.den * u) → below x ≤ k * (x.den * u) → nat_abs n ≤ k
half_size {u = u} {k = k} {x = x} (pos a) f h g =
    let some = mul-pos f.proper f.unit in
    let less : a < k + 1 = lt_of_mul-lt-mul_right (x.den * u) (omega (arith, f.low)) in
    omega arith
half_size {tie} {u} {k} {x} (negsuc a) f h g =
    let some = mul-pos f.proper f.unit in
    let less : a + 1 < k + 1 = lt_of_mul-lt-mul_right (x.den * u) (omega (arith, taken_most tie, f.high)) in
    omega arith

pub rounded_size :
    (tie : Tie) {u : ℕ} → 0 < u → (x : Exact) → 0 < x.den → (k : ℕ) → nat_abs x.num ≤ k * x.den → nat_abs (rounded tie u x) ≤ k
rounded_size tie {u} unit x proper k h =
    let wide : k * x.den * 1 ≤ k * x.den * u = mul-le-mul_left (k * x.den) unit in
    half_size (rounded tie u x) (rounded_half tie unit x proper) (omega (arith, abs_parts x.num)) (omega (arith, abs_parts x.num))

-- nought is rounded to nought, over any denominator
pub rounded_nought : (tie : Tie) {u : ℕ} → 0 < u → (l : ℕ) → 0 < l → rounded tie u (ratio 0 0 l) ≡ pos 0
rounded_nought tie {u} unit l proper =
    let n = rounded tie u (ratio 0 0 l) in
    parts_eq n (pos 0) (omega (arith, rounded_size tie unit (ratio 0 0 l) proper 0 (omega arith), abs_parts n))

-- ---- the distance
-- x is n units of u and rest / den
abbrev rest : ℕ → Exact → ℤ → ℤ
rest u x n = (x ⊖ units u n).num

rest_parts : (u : ℕ) (x : Exact) (n : ℤ) → up (rest u x n) + below x + up n * (x.den * u) ≡ dn (rest u x n) + above x + dn n * (x.den * u)
rest_parts u x n = omega (arith, difference_parts x (units u n), ap (λ (m : ℕ). m * x.den) (mul_parts n (pos u)))

le_of_not_lt : {a b : ℕ} → ¬ (b < a) → a ≤ b
le_of_not_lt h = omega arith

module _ {tie : Tie} {u : ℕ} {x : Exact} {n : ℤ} (f : Half tie u x n) where
  half_a_unit : 2 * nat_abs (rest u x n) ≤ x.den * u
  half_a_unit = omega (arith, taken_most tie, rest_parts u x n, size_parts (rest u x n))

  -- a higher count is farther or, where halfway goes to the lower, as far; a lower count the other way round
  higher_farther : (k : ℤ) → up n + dn k < up k + dn n → nat_abs (rest u x n) + 1 ≤ nat_abs (rest u x k) + taken tie
  higher_farther k h =
      let some = mul-pos f.proper f.unit in
      omega (arith, rest_parts u x n, rest_parts u x k, size_parts (rest u x n), size_parts (rest u x k), mul-le-mul_right (x.den * u) h)

  lower_farther : (k : ℤ) → up k + dn n < up n + dn k → nat_abs (rest u x n) + taken tie ≤ nat_abs (rest u x k)
  lower_farther k h =
      let some = mul-pos f.proper f.unit in
      omega (arith, taken_most tie, rest_parts u x n, rest_parts u x k, size_parts (rest u x n), size_parts (rest u x k), mul-le-mul_right (x.den * u) h)

  none_nearer : (k : ℤ) → nat_abs (rest u x n) ≤ nat_abs (rest u x k)
  none_nearer k =
      le_of_not_lt (λ nearer.
      let not-higher : up k + dn n ≤ up n + dn k = le_of_not_lt (λ h. omega (arith, taken_most tie, higher_farther k h)) in
      let not_lower : up n + dn k ≤ up k + dn n = le_of_not_lt (λ h. omega (arith, lower_farther k h)) in
      omega (arith, ap (λ (j : ℤ). nat_abs (rest u x j)) (parts_eq n k (omega arith))))

prefers : (tie : Tie) {u : ℕ} {x : Exact} {n : ℤ} → Half tie u x n → (k : ℤ) → nat_abs (rest u x k) ≤ nat_abs (rest u x n) → Prefers tie n k
prefers lower {n = n} f k e = parts_le n k (le_of_not_lt (λ h. omega (arith, lower_farther f k h)))
prefers higher {n = n} f k e = parts_le k n (le_of_not_lt (λ h. omega (arith, higher_farther f k h)))

half_nearest : {tie : Tie} {u : ℕ} {x : Exact} {n : ℤ} → Half tie u x n → Nearest tie u x n
half_nearest {tie} {u} {x} {n} f =
    record {
      nearest = λ k. le_in (omega (arith, mul-le-mul_right x.den (none_nearer f k)));
      halfway = λ k e. prefers tie f k (le_of_mul-le-mul_right (omega (arith, eq_out e)) f.proper);
    }

-- ---- two nearest counts are equally near, so the rule takes each before the other
prefers_antisym : (tie : Tie) (n k : ℤ) → Prefers tie n k → Prefers tie k n → n ≡ k
prefers_antisym lower n k f g = omega (arith, ints)
prefers_antisym higher n k f g = omega (arith, ints)

nearest_unique : {tie : Tie} {u : ℕ} {x : Exact} {n k : ℤ} → Nearest tie u x n → Nearest tie u x k → n ≡ k
nearest_unique {tie} {u} {x} {n} {k} f g =
    let a = le_out (f.nearest k) in
    let b = le_out (g.nearest n) in
    prefers_antisym tie n k (f.halfway k (eq_in (omega arith))) (g.halfway n (eq_in (omega arith)))

pub rounding_laws : RoundingTheorem
rounding_laws tie u unit =
    let is = rounded_half tie unit in
    record {
      exists = λ x h. half_nearest (is x h);
      unique = λ x n k. nearest_unique;
      monotone = λ x y h₁ h₂. half_mono (is x h₁) (is y h₂);
      same = λ x y h₁ h₂. half_same (is x h₁) (is y h₂);
      shift = λ x k h. half_same (is (x ⊕ units u k) (omega arith)) (half_shift k (is x h)) (eq_in (omega arith));
      half = λ x h. le_in (omega (arith, half_a_unit (is x h)));
    }
