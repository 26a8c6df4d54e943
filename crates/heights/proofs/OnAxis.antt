-- What stands above the axis: the axis's rest is rounded with it, the axis's whole units are added after.
-- Assumes nothing.
use mathlib.Core.Path.{◌≡◌, sym, ap, ◌∙◌}
use Prim.Native.Nat.{ℕ, ◌+◌, ◌*◌, ◌^◌, ◌≤◌, ◌<◌}
use native.Mathlib.Nat.{mul-pos, mod-eq_of_lt}
use native.Mathlib.Omega.{arith}
use lib.IntN.{ℤ, nat_abs, ◌+ℤ◌}
use mir.Syntax.{w32}
use mir.Val.{SFits}
use Rattle.exact.specs.Exact.{Exact, whole, ratio, ◌⊕◌, ◌⊖◌, ◌≈◌}
use Rattle.exact.specs.Parts.{Is}
use Rattle.exact.specs.Rounding.{units}
use Rattle.exact.proofs.Integers.{add_parts, abs_parts}
use Rattle.exact.proofs.Machine.{within_sfits}
use Rattle.exact.proofs.Ring.{ring}
use Rattle.exact.proofs.Is.{is_self, is_one, is_net, is_whole, is_sub, is_sum, is_ratio, is_eq, is_same}
use Rattle.exact.proofs.Rounded.{rounding_laws}
use Rattle.exact.proofs.Shifts.{≈-trans, ≈-refl, sum_same}
use Rattle.rounding.specs.Nearest.{Sized}
use Rattle.rounding.proofs.Sizes.{nearest_few}
use Rattle.card.specs.declared.Datum.{Datum}
use Rattle.card.specs.declared.Datum.TheVariants.{Relative, Absolute}
use Rattle.card.specs.Datum.{surveyed_axis, axis_from, moved_from}
use Rattle.card.specs.Rows.{tie, in_units}
use Rattle.card.proofs.Moving.{moved_some, as_moved}
use Rattle.heights.specs.declared.axis.Axis.{Axis}
use Rattle.heights.specs.Counts.{net, count_of}
use Rattle.heights.specs.Heights.{height_of, AxisIs, lifted, count_above, AboveTheorem, count_on}
use Rattle.heights.proofs.Counts.{count_is}

-- ---- one height, as the code reckons it
module _ (a : Axis) (up down over : ℕ) where
  abbrev pub near : ℤ
  near = count_of (lifted a up over) down over a.unit

  near_few : nat_abs near ≤ 4194304
  unfolding count_of
  near_few = nearest_few (tie a.unit) a.unit (net (lifted a up over) down) over

  pub total_fits : SFits w32 (near +ℤ a.count)
  total_fits = within_sfits w32 _ (omega (arith, near_few, a.count_most, abs_parts near, abs_parts a.count, add_parts near a.count))

-- ---- within the sizes
module _ (a : Axis) (up down over : ℕ) (z : Sized (a.rest * over + up) down over a.unit) where
  abbrev sum : ℕ
  sum = a.rest * over + up

  abbrev rounded_near : ℤ
  rounded_near = in_units a.unit (ratio sum down over)

  near_is : near a up down over ≡ rounded_near
  near_is = ap (λ (n : ℕ). count_of n down over a.unit) (mod-eq_of_lt {n = sum} {m = 2 ^ 64} (omega (arith, z))) ∙ count_is z

  same_height : height_of a ⊕ ratio up down over ≈ ratio sum down over ⊕ units (1000 * a.unit) a.count
  same_height =
      let n = is_self (units (1000 * a.unit) a.count) (omega arith) in
      is_eq
      (is_sum (is_sum n (is_one a.rest)) (is_ratio up down over z.some))
      (is_sum (is_ratio sum down over z.some) n)
      (simp ring (omega arith))

  on_axis : rounded_near +ℤ a.count ≡ in_units a.unit (height_of a ⊕ ratio up down over)
  on_axis =
      let laws = rounding_laws (tie a.unit) (1000 * a.unit) (omega (arith, z.unit)) in
      sym
      (laws.same (height_of a ⊕ ratio up down over) (ratio sum down over ⊕ units (1000 * a.unit) a.count) (omega (arith, z.some)) (omega (arith, z.some)) same_height
      ∙ laws.shift (ratio sum down over) a.count z.some)

  pub above_is : count_above a up down over ≡ in_units a.unit (height_of a ⊕ ratio up down over)
  unfolding count_above
  above_is = ap (λ (n : ℤ). n +ℤ a.count) near_is ∙ on_axis

pub above_lem : AboveTheorem
above_lem a up down over z = above_is a up down over z

-- ---- equal heights have the same count
same_count : (u : ℕ) (x y : Exact) → 1 ≤ u → 0 < x.den → 0 < y.den → x ≈ y → in_units u x ≡ in_units u y
same_count u x y some = (rounding_laws (tie u) (1000 * u) (omega arith)).same x y

-- a line whose parts have the axis in them, without it
without_axis : (n : ℕ) {y : Exact} {p q e : ℕ} → Is y (n * e + p) q e → Is (y ⊖ whole n) p q e
without_axis n {e = e} f = is_net (is_sub f (is_whole n e f.over)) (omega arith)

-- y is n micrometres, where the axis stays, and (p − q)/e more: it is counted so wherever the axis is
pub counted_above :
    (a : Axis) (n : ℕ) (y : Exact) (p q e : ℕ) → Is y (n * e + p) q e → Sized (a.rest * e + p) q e a.unit →
    count_above a p q e ≡ count_on a (whole n) y
unfolding count_on
counted_above a n y p q e f z =
    let g = without_axis n f in
    above_is a p q e z
    ∙ same_count a.unit _ _ a.unit_least (omega (arith, f.over)) (omega (arith, g.proper))
    (sum_same (omega arith) (omega arith) f.over g.proper (≈-refl (height_of a) (omega arith)) (is_same (is_ratio p q e f.over) g))

-- ---- the axis by the datum
pub relative_axis :
    {t : Datum} {still : Exact} (s : Exact) {u : ℕ} {a : Axis} → t ≡ Relative → AxisIs still u a → AxisIs (axis_from t still s) u a
unfolding axis_from
relative_axis s is f = rw is f

pub absolute_axis :
    {t : Datum} (still : Exact) {h g : ℤ} (s : Exact) {u : ℕ} {a : Axis} → t ≡ Absolute h g → AxisIs (surveyed_axis h g s) u a →
    AxisIs (axis_from t still s) u a
unfolding axis_from
absolute_axis still s is f = rw is f

-- ---- the axis that the code holds is the card's
module _ {u : ℕ} (datum : Datum) (still s : Exact) (a : Axis) (f : AxisIs (axis_from datum still s) u a) (stays : 0 < still.den) (station : 0 < s.den) where
  pub counted_moved : (y : Exact) → 0 < y.den → count_on a still y ≡ in_units a.unit (moved_from datum still s y)
  unfolding count_on
  counted_moved y k =
      let off : 0 < (y ⊖ still).den = mul-pos k stays in
      same_count a.unit _ _ a.unit_least (omega (arith, off)) (moved_some datum still s y stays station k)
      (≈-trans (mul-pos f.fraction off)
      (sum_same (omega arith) f.fraction off off f.is (≈-refl (y ⊖ still) off))
      (as_moved datum still s y stays station k))

  pub counted_axis : in_units a.unit (height_of a ⊕ ratio 0 0 1) ≡ in_units a.unit (axis_from datum still s)
  counted_axis =
      let n = is_self (height_of a) (omega arith) in
      same_count a.unit _ _ a.unit_least (omega arith) f.fraction
      (≈-trans (omega arith) (is_eq (is_sum n (is_ratio 0 0 1 (omega arith))) n (omega arith)) f.is)
