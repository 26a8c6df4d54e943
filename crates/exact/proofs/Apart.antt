-- Whole counts that are within half a unit of two numbers are at most a unit farther apart than these.
-- Assumes nothing.
use Prim.Native.Nat.{ℕ, ◌+◌, ◌*◌, ◌≤◌, ◌<◌}
use native.Mathlib.Nat.{mul-pos, mul-le-mul_right, le_of_mul-le-mul_left}
use native.Mathlib.Omega.{arith}
use lib.IntN.{ℤ}
use Rattle.exact.specs.Exact.{Exact, whole, frac, ◌⊕◌, ◌⊖◌, ◌≼◌}
use Rattle.exact.specs.Rounding.{units}
use Rattle.exact.proofs.Ring.{ring}
use Rattle.exact.proofs.Is.{is_self, is_one, is_frac, is_sub, is_sum, is_diff, is_le, le_is}

-- over whole counts n and k, numbers x and y and a distance e
farthest :
    (u nu nd ku kd xu xd xo yu yd yo eu ed eo : ℕ) → 0 < xo → 0 < yo →
    ku * (yo * 2) + (yd * 2 + 0 * yo) * 1 ≤ (yu * 2 + u * yo) * 1 + kd * (yo * 2) →
    xu * (1 * 2) + (nd * 2 + 0 * 1) * xo ≤ (nu * 2 + u * 1) * xo + xd * (1 * 2) →
    (yu * xo + xd * yo) * eo + ed * (yo * xo) ≤ eu * (yo * xo) + (yd * xo + xu * yo) * eo →
    (ku + nd) * (1 * eo) + (0 * eo + ed * 1) * 1 ≤ (u * eo + eu * 1) * 1 + (kd + nu) * (1 * eo)
farthest u nu nd ku kd xu xd xo yu yd yo eu ed eo xp yp f g h =
    le_of_mul-le-mul_left {k = 2 * (xo * yo)}
    (simp ring (omega (arith, simp ring at (mul-le-mul_right (xo * eo) f), simp ring at (mul-le-mul_right (yo * eo) g), simp ring at (mul-le-mul_right 2 h))))
    (mul-pos (omega arith) (mul-pos xp yp))

pub apart :
    (u : ℕ) (n k : ℤ) (x y e : Exact) → 0 < x.den → 0 < y.den → 0 < e.den →
    x ≼ units u n ⊕ frac u 2 → units u k ≼ y ⊕ frac u 2 → y ⊖ x ≼ e → units u k ⊖ units u n ≼ whole u ⊕ e
apart u n k x y e xp yp ep g f h =
    let N = is_self (units u n) (omega arith) in
    let K = is_self (units u k) (omega arith) in
    let X = is_self x xp in
    let Y = is_self y yp in
    let half = is_frac u 2 (omega arith) in
    is_le (is_sub K N) (is_sum (is_one u) (is_self e ep))
    (farthest u _ _ _ _ _ _ x.den _ _ y.den _ _ e.den xp yp (le_is K (is_sum Y half) f) (le_is X (is_sum N half) g) (le_is (is_diff Y X) (is_self e ep) h))
