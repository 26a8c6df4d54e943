-- A walked height has in each row what is rounded there: the axis's rest is rounded with it, and the axis's whole units are added after.
-- Assumes nothing.
use mathlib.Core.Path.{◌≡◌, refl, ap, ap₂, ◌∙◌}
use Prim.Native.Nat.{ℕ, ◌+◌, ◌*◌, ◌≤◌, ◌<◌}
use native.Mathlib.Nat.{mul-pos, mul-le-mul, mul-le-mul_right}
use native.Mathlib.Omega.{arith}
use Rattle.exact.specs.Exact.{Exact, ratio, ◌⊕◌, ◌≈◌}
use Rattle.exact.specs.Parts.{Is}
use Rattle.exact.specs.Rounding.{units}
use Rattle.exact.proofs.Is.{is_self, is_whole, is_ratio, is_net, is_sub, is_sum, is_eq, is_same}
use Rattle.exact.proofs.Ring.{ring}
use Rattle.exact.proofs.Shifts.{is_via, ≈-trans, ≈-refl, sum_same}
use Rattle.rounding.specs.Nearest.{most_over}
use Rattle.card.specs.declared.Datum.{Datum}
use Rattle.card.specs.Rows.{tie, in_units}
use Rattle.card.proofs.Moving.{moved_some, as_moved}
use Rattle.section.specs.Lines.{Section, axis, axis_height}
use Rattle.section.specs.Datum.{axis_on, moved}
use Rattle.walking.specs.declared.Parts.{Parts}
use Rattle.walking.specs.Curves.{walked, number, rounded_curve}
use Rattle.walking.specs.Curves.{Gains as Gain}
use Rattle.walk.specs.declared.afresh.Footing.{Footing}
use Rattle.walk.specs.Gains.{parts, height_curve}
use Rattle.walk.proofs.WalkedNumbers.{number_walked}

-- (a k − b k)/e micrometres above the axis, k rows on: how it is walked from a row, and its bounds
pub record Reached (e : ℕ) (a b : ℕ → ℕ) (at rise bend : Parts) (k : ℕ) : Type 0 where
  pub some : 1 ≤ e
  pub few : e ≤ most_over
  pub up : at.up ≡ a 0
  pub down : at.down ≡ b 0
  pub gains : Gain a b rise bend
  pub high : a k ≤ 5000000 * e
  pub low : b k ≤ 5000000 * e

-- the axis stands at A, k rows on
pub record Stands (f : Footing) (k : ℕ) (A : Exact) : Type 0 where
  pub rows : k ≤ 300
  pub fraction : 0 < A.den
  pub is : A ≈ units (1000 * f.axis.unit) f.axis.count ⊕ ratio (f.axis.rest + k * f.climb.up) (k * f.climb.down) 1

module _ (f : Footing) {e : ℕ} {a b : ℕ → ℕ} {at rise bend : Parts} {k : ℕ} (h : Reached e a b at rise bend k) {A : Exact} (stands : Stands f k A) where
  abbrev unit : ℕ
  unit = f.axis.unit

  -- with the axis's rest and what it climbs
  abbrev p : ℕ → ℕ
  p j = f.axis.rest * e + j * (f.climb.up * e) + a j

  abbrev q : ℕ → ℕ
  q j = j * (f.climb.down * e) + b j

  total : Gain p q (parts (f.climb.up * e + rise.up) (f.climb.down * e + rise.down)) bend
  total = record { by = λ j. omega (arith, h.gains.by j) }

  from : parts (f.axis.rest * e + at.up) at.down ≡ parts (p 0) (q 0)
  from = ap₂ parts (omega (arith, h.up)) (omega (arith, h.down))

  climbed : {n : ℕ} → n ≤ 1600000 → k * (n * e) ≤ 480000000 * e
  climbed few = omega (arith, mul-le-mul stands.rows (mul-le-mul_right e few))

  same_sum : ratio (p k) (q k) e ⊕ units (1000 * unit) f.axis.count ≈ A ⊕ ratio (a k) (b k) e
  same_sum =
      let n = is_self (units (1000 * unit) f.axis.count) (omega arith) in
      let axis = is_via stands.is stands.fraction (is_sum n (is_ratio (f.axis.rest + k * f.climb.up) (k * f.climb.down) 1 (omega arith))) in
      is_eq (is_sum (is_ratio (p k) (q k) e h.some) n) (is_sum axis (is_ratio (a k) (b k) e h.some)) (simp ring (omega arith))

  pub height_walked :
      (z : Exact) → 0 < z.den → A ⊕ ratio (a k) (b k) e ≈ z →
      number (walked k (height_curve f at rise bend e)) ≡ in_units unit z
  unfolding height_curve
  height_walked z proper is =
      ap (λ (v : Parts). number (walked k (rounded_curve (tie unit) (1000 * unit) e v (parts (f.climb.up * e + rise.up) (f.climb.down * e + rise.down)) bend f.axis.count))) from
      ∙ number_walked unit e f.axis.unit_least f.axis.unit_most h.some h.few p q _ bend total f.axis.count f.axis.count_most k
      (omega (arith, mul-le-mul_right e f.axis.rest_most, climbed f.up_most, h.high))
      (omega (arith, climbed f.down_most, h.low))
      z proper
      (≈-trans (mul-pos stands.fraction h.some) same_sum is)

-- the axis itself
pub axis_walked :
    (f : Footing) {k : ℕ} {A : Exact} → Stands f k A →
    number (walked k (height_curve f (parts 0 0) (parts 0 0) (parts 0 0) 1)) ≡ in_units f.axis.unit A
axis_walked f {k} {A} stands =
    let none : Reached 1 (λ j. 0) (λ j. 0) (parts 0 0) (parts 0 0) (parts 0 0) k =
    record {
      some = omega arith;
      few = omega arith;
      up = refl;
      down = refl;
      gains = record { by = λ j. refl };
      high = omega arith;
      low = omega arith;
    } in
    let n = is_self A stands.fraction in
    height_walked f none stands A stands.fraction (is_eq (is_sum n (is_ratio 0 0 1 (omega arith))) n (omega arith))

-- ---- a line y of the road, which keeps its distance from the axis
pub record Line (x : Section) (y : Exact) (e : ℕ) (at rise bend : Parts) (k : ℕ) : Type 0 where
  pub a : ℕ → ℕ
  pub b : ℕ → ℕ
  pub reached : Reached e a b at rise bend k
  pub is : Is y (axis_height x * e + a k) (b k) e

pub line_walked :
    (f : Footing) {x : Section} {y : Exact} {e : ℕ} {at rise bend : Parts} {k : ℕ} → Line x y e at rise bend k →
    (datum : Datum) (s : Exact) → 0 < s.den → Stands f k (axis_on datum x s) →
    number (walked k (height_curve f at rise bend e)) ≡ in_units f.axis.unit (moved datum x s y)
line_walked f {x} {y} {e} {k = k} l datum s proper stands =
    let A = axis_on datum x s in
    let still : Exact = axis x in
    let some = l.reached.some in
    let off = is_net {a' = l.a k} {b' = l.b k} (is_sub l.is (is_whole (axis_height x) e some)) (omega arith) in
    height_walked f l.reached stands (moved datum x s y) (moved_some datum still s y (omega arith) proper l.is.proper)
    (≈-trans (mul-pos stands.fraction off.proper)
    (sum_same stands.fraction stands.fraction some off.proper (≈-refl A stands.fraction) (is_same (is_ratio (l.a k) (l.b k) e some) off))
    (as_moved datum still s y (omega arith) proper l.is.proper))
