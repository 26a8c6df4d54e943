-- A step from a row's curve gives the curve that is worked afresh in the next row, and so k steps give the count that is divided afresh.
-- Assumes nothing.
use mathlib.Core.Path.{◌≡◌, sym, ap, ap₂, ◌∙◌}
use Prim.Native.Nat.{ℕ, zero, suc, ◌+◌, ◌*◌, ◌%◌, ◌^◌, ◌≤◌, ◌<◌}
use native.Mathlib.Omega.{arith}
use lib.IntN.{ℤ, pos, nat_abs, ◌+ℤ◌, ◌-ℤ◌, ◌*ℤ◌}
use mir.Syntax.{w32}
use Rattle.std.specs.Int.{cast_signed}
use Rattle.exact.specs.Exact.{ratio}
use Rattle.exact.specs.Rounding.{Tie, taken, floor_div, rounded}
use Rattle.exact.proofs.Integers.{ints, add_parts, sub_parts, mul_parts}
use Rattle.walking.specs.declared.Mixed.{Mixed}
use Rattle.walking.specs.declared.Parts.{Parts}
use Rattle.walking.specs.declared.Curve.{Curve}
use Rattle.walking.specs.Mixed.{net, kept_count, mixed, split_of}
use Rattle.walking.specs.Curves.{curve_of, lifted, stepped, walked, number, Gains, WalkTheorem, twice, half_up, RoundedTheorem}
use Rattle.walking.proofs.Counts.{Splits, split_is, split_splits, splits_same, splits_as, sum_splits, raised, kept_sum, kept_back}

-- ---- worked afresh
-- the count of such a curve is divided afresh
pub number_of_curve :
    (m : ℕ) → 1 ≤ m → (at rise bend : Parts) (n : ℤ) → nat_abs (floor_div (net at) m +ℤ n) < 2 ^ 31 →
    number (lifted n (curve_of at rise bend m)) ≡ floor_div (net at) m +ℤ n
unfolding lifted curve_of mixed
number_of_curve m some at rise bend n near =
    ap (λ (s : Mixed). cast_signed w32 ((s.count + kept_count n) % 2 ^ 32)) (split_is at m some)
    ∙ ap (cast_signed w32) (kept_sum (floor_div (net at) m) n)
    ∙ kept_back (floor_div (net at) m +ℤ n) near

same_curve :
    {x x' y y' z : Mixed} {m : ℕ} → x ≡ x' → y ≡ y' →
    ◌≡◌ {A = Curve} (record { at = x; rise = y; bend = z; over = m }) (record { at = x'; rise = y'; bend = z; over = m })
same_curve e f = cc

module _ (m : ℕ) (some : 1 ≤ m) (room : m ≤ 9223372036854775808) (a b : ℕ → ℕ) (rise bend : Parts) (gains : Gains a b rise bend) (n : ℤ) where
  -- the curve in row k
  abbrev pub value : ℕ → Parts
  value k = record { up = a k; down = b k }

  abbrev pub risen : ℕ → Parts
  risen k = record { up = rise.up + k * bend.up; down = rise.down + k * bend.down }

  abbrev pub afresh : ℕ → Curve
  afresh k = lifted n (curve_of (value k) (risen k) bend m)

  step_afresh : (k : ℕ) → stepped (afresh k) ≡ afresh (suc k)
  unfolding stepped lifted curve_of
  step_afresh k =
      let splits : (z : Parts) → Splits m z.up z.down (split_of z m) = λ (z : Parts). split_splits z m some in
      same_curve
      (splits_same
      (splits_as (sum_splits room (raised (splits (value k)) n) (splits (risen k))) (omega (arith, gains.by k)))
      (raised (splits (value (suc k))) n))
      (splits_same (splits_as (sum_splits room (splits (risen k)) (splits bend)) (omega arith)) (splits (risen (suc k))))

  pub walk_afresh : (k : ℕ) → walked k (lifted n (curve_of (value 0) rise bend m)) ≡ afresh k
  unfolding walked
  walk_afresh zero =
      ap (λ (r : Parts). lifted n (curve_of (value 0) r bend m))
      (ap₂ (λ (x y : ℕ). record { up = x; down = y }) (omega arith) (omega arith))
  walk_afresh (suc k) = ap stepped (walk_afresh k) ∙ step_afresh k

pub walk_theorem : WalkTheorem
walk_theorem m some room a b rise bend gains n k near =
    ap number (walk_afresh m some room a b rise bend gains n k)
    ∙ number_of_curve m some (record { up = a k; down = b k }) _ bend n near

-- ---- rounded numbers
-- what is divided is what the rounding by this rule divides
half_up_is :
    (tie : Tie) (u e p q : ℕ) →
    pos (2 * p + e * u) -ℤ pos (2 * q + taken tie) ≡ pos 2 *ℤ (pos p -ℤ pos q) +ℤ (pos (e * u) -ℤ pos (taken tie))
half_up_is tie u e p q =
    let z = pos p -ℤ pos q in
    let w = pos (e * u) -ℤ pos (taken tie) in
    omega (
      arith,
      ints,
      sub_parts (pos p) (pos q),
      mul_parts (pos 2) z,
      sub_parts (pos (e * u)) (pos (taken tie)),
      add_parts (pos 2 *ℤ z) w,
      sub_parts (pos (2 * p + e * u)) (pos (2 * q + taken tie)),
    )

pub rounded_is : (tie : Tie) (u e p q : ℕ) → rounded tie u (ratio p q e) ≡ floor_div (net (half_up tie u e (record { up = p; down = q }))) (2 * (e * u))
unfolding rounded
rounded_is tie u e p q = ap (λ (z : ℤ). floor_div z (2 * (e * u))) (sym (half_up_is tie u e p q))

twice_gains :
    (tie : Tie) (u e : ℕ) (p q : ℕ → ℕ) (rise bend : Parts) → Gains p q rise bend →
    Gains (λ k. 2 * p k + e * u) (λ k. 2 * q k + taken tie) (twice rise) (twice bend)
twice_gains tie u e p q rise bend gains = record { by = λ k. omega (arith, gains.by k) }

pub rounded_theorem : RoundedTheorem
rounded_theorem tie u e some room p q rise bend gains n k =
    rw (rounded_is tie u e (p k) (q k))
    (walk_theorem (2 * (e * u)) (omega (arith, some)) (omega (arith, room)) _ _ _ _ (twice_gains tie u e p q rise bend gains) n k)
