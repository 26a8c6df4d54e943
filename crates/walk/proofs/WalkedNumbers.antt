-- A walked number has in each row what is rounded there; and so has the widening.
-- Assumes nothing.
use mathlib.Core.Path.{◌≡◌, sym, ap, ◌∙◌}
use Prim.Native.Nat.{ℕ, ◌+◌, ◌*◌, ◌^◌, ◌≤◌, ◌<◌}
use native.Mathlib.Nat.{mul-pos, mul-le-mul}
use native.Mathlib.Omega.{arith}
use lib.IntN.{ℤ, pos, nat_abs, ◌+ℤ◌}
use Rattle.exact.specs.Exact.{Exact, whole, ratio, ◌⊕◌, ◌⊗◌, ◌≈◌}
use Rattle.exact.specs.Rounding.{units}
use Rattle.exact.proofs.Integers.{add_parts, sub_parts, abs_parts, size_parts}
use Rattle.exact.proofs.Is.{is_self, is_one, is_times, is_ratio, is_sum, is_eq}
use Rattle.exact.proofs.Rounded.{rounding_laws, rounded_size}
use Rattle.rounding.specs.Nearest.{most_over}
use Rattle.card.specs.Rows.{tie, in_units}
use Rattle.section.specs.Lines.{widening}
use Rattle.section.proofs.Heights.{widening_is}
use Rattle.runoff.specs.declared.Runoff.{Runoff}
use Rattle.runoff.specs.Reckoning.{section_in, Limits}
use Rattle.walking.specs.declared.Parts.{Parts}
use Rattle.walking.specs.Curves.{walked, number, rounded_curve}
use Rattle.walking.specs.Curves.{Gains as Gain}
use Rattle.walking.proofs.Walks.{rounded_theorem}
use Rattle.walk.specs.declared.afresh.Gains.{Gains}
use Rattle.walk.specs.Gains.{parts, widening_curve}
use Rattle.walk.proofs.Lengths.{widened_few}

module _ (u e : ℕ) (least : 1 ≤ u) (most : u ≤ 10) (some : 1 ≤ e) (few : e ≤ most_over) where
  -- n counts and (p k − q k)/e micrometres, walked from a row: k rows on it is z, rounded
  pub number_walked :
      (p q : ℕ → ℕ) (rise bend : Parts) → Gain p q rise bend → (n : ℤ) → nat_abs n ≤ 10000000 → (k : ℕ) →
      p k ≤ 1000000000 * e → q k ≤ 1000000000 * e → (z : Exact) → 0 < z.den → ratio (p k) (q k) e ⊕ units (1000 * u) n ≈ z →
      number (walked k (rounded_curve (tie u) (1000 * u) e (parts (p 0) (q 0)) rise bend n)) ≡ in_units u z
  number_walked p q rise bend gains n counts k high low z proper is =
      let x = ratio (p k) (q k) e in
      let laws = rounding_laws (tie u) (1000 * u) (omega arith) in
      let r = in_units u x in
      let size : nat_abs r ≤ 1000000000 =
      rounded_size (tie u) (omega arith) x some 1000000000 (omega (arith, size_parts x.num, sub_parts (pos (p k)) (pos (q k)))) in
      let near : nat_abs (r +ℤ n) < 2 ^ 31 = omega (arith, size, abs_parts r, abs_parts n, size_parts (r +ℤ n), add_parts r n) in
      let wide : 1000 * u ≤ 10000 = omega arith in
      rounded_theorem (tie u) (1000 * u) e (mul-pos some (omega arith)) (omega (arith, mul-le-mul few wide)) p q rise bend gains n k near
      ∙ sym (laws.shift x n some)
      ∙ laws.same (x ⊕ units (1000 * u) n) z (omega arith) proper is

-- the widening, which is no height
pub widening_walked :
    (u : ℕ) → 1 ≤ u → u ≤ 10 → {r : Runoff} → Limits r → (step d k : ℕ) → d + k * step ≤ r.clothoid → (g : Gains) → g.widening ≡ r.full_widening * step →
    number (walked k (widening_curve u (section_in r) g d)) ≡ in_units u (whole 1000 ⊗ widening (section_in r) (whole (d + k * step)))
unfolding widening_curve
widening_walked u least most {r} z step d k on g wider =
    let there = d + k * step in
    let value : ℕ → ℕ = λ j. 1000 * (r.full_widening * d) + j * (1000 * g.widening) in
    let rise = parts (1000 * g.widening) 0 in
    let grown : value k ≡ 1000 * (r.full_widening * there) = omega (arith, ap (λ (n : ℕ). k * n) wider) in
    let once : r.clothoid * 1 ≡ r.clothoid = omega arith in
    let is = is_times 1000 (rw once at (widening_is (section_in r) (is_one there) z.long)) in
    ap (λ (n : ℕ). number (walked k (rounded_curve (tie u) (1000 * u) r.clothoid (parts n 0) rise (parts 0 0) (pos 0)))) (omega arith)
    ∙ number_walked u r.clothoid least most z.long (omega (arith, z.clothoid_most)) value (λ j. 0) rise (parts 0 0) (record { by = λ j. omega arith }) (pos 0) (omega arith) k
    (omega (arith, grown, widened_few z there on))
    (omega arith)
    (whole 1000 ⊗ widening (section_in r) (whole there))
    is.proper
    (is_eq (is_sum (is_ratio (value k) 0 r.clothoid z.long) (is_self (units (1000 * u) (pos 0)) (omega arith))) is (omega (arith, ap (λ (n : ℕ). n * r.clothoid) grown)))
