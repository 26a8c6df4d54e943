-- A line that is moved with the axis keeps its distance from it; at height 0 and grade 0 every line is lower by the relative axis alone.
-- Assumes nothing.
use Prim.Native.Nat.{◌<◌}
use native.Mathlib.Nat.{mul-pos}
use native.Mathlib.Omega.{arith}
use lib.IntN.{ℤ, pos}
use Rattle.exact.specs.Exact.{Exact, ◌⊕◌, ◌⊖◌, ◌≈◌}
use Rattle.exact.proofs.Ring.{ring}
use Rattle.exact.specs.Parts.{Is}
use Rattle.exact.proofs.Is.{is_self, is_one, is_as, is_sum, is_diff, is_product, is_eq}
use Rattle.exact.proofs.Shifts.{≈-refl, add_back, take_back}
use Rattle.card.specs.declared.Datum.{Datum}
use Rattle.card.specs.declared.Datum.TheVariants.{Relative, Absolute}
use Rattle.card.specs.Datum.{surveyed_axis, axis_from, moved_from, KeptTheorem, AtNoughtTheorem}

pub axis_some : (datum : Datum) (still s : Exact) → 0 < still.den → 0 < s.den → 0 < (axis_from datum still s).den
unfolding axis_from
axis_some Relative still s p q = p
axis_some (Absolute height grade) still s p q = omega arith

surveyed_some : (height grade : ℤ) (still s y : Exact) → 0 < still.den → 0 < s.den → 0 < y.den → 0 < (surveyed_axis height grade s ⊕ (y ⊖ still)).den
surveyed_some height grade still s y p q r =
    let a : 0 < (surveyed_axis height grade s).den = omega arith in
    mul-pos a (mul-pos r p)

pub moved_some : (datum : Datum) (still s y : Exact) → 0 < still.den → 0 < s.den → 0 < y.den → 0 < (moved_from datum still s y).den
unfolding moved_from
moved_some Relative still s y p q r = r
moved_some (Absolute height grade) still s y p q r = surveyed_some height grade still s y p q r

distance_kept :
    (datum : Datum) (still s y : Exact) → 0 < still.den → 0 < s.den → 0 < y.den →
    moved_from datum still s y ⊖ axis_from datum still s ≈ y ⊖ still
unfolding moved_from axis_from
distance_kept Relative still s y p q r = ≈-refl (y ⊖ still) (mul-pos r p)
distance_kept (Absolute height grade) still s y p q r = take_back (surveyed_axis height grade s) (y ⊖ still) (omega arith) (mul-pos r p)

axis_kept : (datum : Datum) (still s : Exact) → 0 < still.den → 0 < s.den → moved_from datum still s still ≈ axis_from datum still s
unfolding moved_from axis_from
axis_kept Relative still s p q = ≈-refl still p
axis_kept (Absolute height grade) still s p q =
    let A = is_self (surveyed_axis height grade s) (omega arith) in
    let a = is_self still p in
    is_eq (is_sum A (is_diff a a)) A (simp ring (omega arith))

pub kept : KeptTheorem
kept datum still s y p q r =
    record {
      fractions = (axis_some datum still s p q, moved_some datum still s y p q r);
      distance = distance_kept datum still s y p q r;
      axis = axis_kept datum still s p q;
    }

-- the axis and a line's distance from it make the moved line
pub as_moved :
    (datum : Datum) (still s y : Exact) → 0 < still.den → 0 < s.den → 0 < y.den →
    axis_from datum still s ⊕ (y ⊖ still) ≈ moved_from datum still s y
unfolding moved_from axis_from
as_moved Relative still s y p q r = add_back still y p r
as_moved (Absolute height grade) still s y p q r = ≈-refl (surveyed_axis height grade s ⊕ (y ⊖ still)) (surveyed_some height grade still s y p q r)

-- ---- height 0, grade 0
nought : (s : Exact) → 0 < s.den → Is (surveyed_axis (pos 0) (pos 0) s) 0 0 1
nought s q = is_as (is_sum (is_one 0) (is_product (is_one 0) (is_self s q))) (omega arith) (omega arith)

pub at_nought_lem : AtNoughtTheorem
unfolding moved_from axis_from
at_nought_lem still s y p q r =
    let a = is_self still p in
    let Y = is_self y r in
    record {
      line = is_eq (is_diff Y (is_sum (nought s q) (is_diff Y a))) a (simp ring (omega arith));
      axis = is_eq (is_diff a (nought s q)) a (simp ring (omega arith));
    }
