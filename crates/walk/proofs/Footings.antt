-- Where the axis of a card stands at a station and at those after it, and what it climbs from row to row.
-- Assumes nothing.
use mathlib.Core.Path.{◌≡◌, refl}
use mathlib.Core.Bool.{true, false}
use Prim.Native.Nat.{ℕ, ◌+◌, ◌*◌, ◌≤◌}
use native.Mathlib.Nat.{mul-le-mul}
use native.Mathlib.Omega.{arith}
use Rattle.std.proofs.Common.{rules}
use lib.IntN.{ℤ, pos, negsuc, nat_abs, ◌*ℤ◌}
use lib.Signed.{lt_z}
use Rattle.exact.specs.Exact.{Exact, whole, ratio, ◌⊕◌, ◌≈◌}
use Rattle.exact.specs.Parts.{up, dn, Is}
use Rattle.exact.specs.Rounding.{units}
use Rattle.exact.proofs.Integers.{abs_parts}
use Rattle.exact.proofs.Order.{above, below, ≈→≼, ≈-sym}
use Rattle.exact.proofs.Is.{is_self, is_one, is_sum, is_product, is_net, is_ratio, is_eq, le_is}
use Rattle.card.specs.declared.Card.{Card}
use Rattle.card.specs.declared.Datum.TheVariants.{Relative, Absolute}
use Rattle.card.specs.Datum.{signed, surveyed_axis, axis_from}
use Rattle.section.specs.Lines.{section_of, axis, axis_height}
use Rattle.heights.specs.Heights.{AxisIs}
use Rattle.walk.specs.declared.afresh.Footing.{Footing}
use Rattle.walk.specs.Gains.{parts, climb_of, Foots}

-- ---- what is climbed, by the sign of the grade
pub climb_below : (g : ℤ) (s : ℕ) → lt_z g (pos 0) ≡ true → parts 0 (nat_abs g * s) ≡ climb_of g s
unfolding climb_of
climb_below (pos n) s e = search rules
climb_below (negsuc n) s e = refl

pub climb_above : (g : ℤ) (s : ℕ) → lt_z g (pos 0) ≡ false → parts (nat_abs g * s) 0 ≡ climb_of g s
unfolding climb_of
climb_above (pos n) s e = refl
climb_above (negsuc n) s e = search rules

-- the grade's parts, times the step
climb_up : (g : ℤ) (s : ℕ) → (climb_of g s).up ≡ up g * s
unfolding climb_of
climb_up (pos n) s = refl
climb_up (negsuc n) s = omega arith

climb_down : (g : ℤ) (s : ℕ) → (climb_of g s).down ≡ dn g * s
unfolding climb_of
climb_down (pos n) s = omega arith
climb_down (negsuc n) s = refl

-- a grade of no more than 80‰ climbs no more than this
module _ (g : ℤ) (s : ℕ) (steep : nat_abs g ≤ 80) (near : s ≤ 20000) where
  pub climb_up_most : (climb_of g s).up ≤ 1600000
  climb_up_most = rw (climb_up g s) (mul-le-mul {n₁ = up g} {n₂ = 80} (omega (arith, abs_parts g)) near)

  pub climb_down_most : (climb_of g s).down ≤ 1600000
  climb_down_most = rw (climb_down g s) (mul-le-mul {n₁ = dn g} {n₂ = 80} (omega (arith, abs_parts g)) near)

-- ---- where the axis stands
surveyed : (h g : ℤ) (d : ℕ) → Is (surveyed_axis h g (whole d)) (up (pos 1000 *ℤ h) + up g * d) (dn (pos 1000 *ℤ h) + dn g * d) 1
surveyed h g d =
    is_net (is_sum (is_self (signed (pos 1000 *ℤ h)) (omega arith)) (is_product (is_self (signed g) (omega arith)) (is_one d))) (omega arith)

module _ (card : Card) (d : ℕ) (f : Footing) where
  -- the axis's whole units
  abbrev n : Exact
  n = units (1000 * card.unit) f.axis.count

  held : {y : Exact} → AxisIs y card.unit f.axis → n ⊕ whole f.axis.rest ≈ y
  held stands = rw stands.unit at stands.is

  -- in natural parts, where the axis stands at y = (a − b)/1
  module _ {y : Exact} {a b : ℕ} (is : Is y a b 1) (stands : AxisIs y card.unit f.axis) where
    there : Is (n ⊕ whole f.axis.rest) (above n * 1 + f.axis.rest * 1) (below n * 1 + 0 * 1) (1 * 1)
    there = is_sum (is_self n (omega arith)) (is_one f.axis.rest)

    balance : above n + f.axis.rest + b ≡ a + below n
    balance = omega (arith, le_is there is (≈→≼ (held stands)), le_is is there (≈→≼ (≈-sym (held stands))))

    -- and so at z, which is p − q higher
    farther :
        {z : Exact} {a' b' : ℕ} (p q : ℕ) → Is z a' b' 1 → a' + b + q ≡ a + p + b' → z ≈ n ⊕ ratio (f.axis.rest + p) q 1
    farther p q g e =
        let less : Is (ratio (f.axis.rest + p) q 1) (f.axis.rest + p) q 1 = is_ratio (f.axis.rest + p) q 1 (omega arith) in
        is_eq g (is_sum (is_self n (omega arith)) less) (omega (arith, balance, e))

  pub foots_level : card.datum ≡ Relative → AxisIs (axis (section_of card)) card.unit f.axis → f.climb ≡ parts 0 0 → Foots card d f
  unfolding axis_from
  foots_level is stands level =
      let still = is_one (axis_height (section_of card)) in
      record { unit = stands.unit; stands = λ k. rw (is, level) (farther still stands (k * 0) (k * 0) still (omega arith)) }

  pub foots_climbing :
      {h g : ℤ} → card.datum ≡ Absolute h g → AxisIs (surveyed_axis h g (whole d)) card.unit f.axis → f.climb ≡ climb_of g card.step → Foots card d f
  unfolding axis_from
  foots_climbing {h} {g} is stands climbs =
      record {
        unit = stands.unit;
        stands = λ k.
            rw (is, climbs, climb_up g card.step, climb_down g card.step)
            (farther (surveyed h g d) stands (k * (up g * card.step)) (k * (dn g * card.step)) (surveyed h g (d + k * card.step)) (omega arith));
      }
