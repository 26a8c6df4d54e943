-- Exact heights that are moved alike: their order, and how far they are apart, are kept.
-- Assumes nothing.
use mathlib.Core.Path.{◌≡◌}
use Prim.Native.Nat.{ℕ, ◌+◌, ◌*◌, ◌<◌}
use native.Mathlib.Nat.{mul-pos, mul-le-mul_right, mul-lt-mul_of_pos_right, le_of_mul-le-mul_right}
use native.Mathlib.Omega.{arith}
use Rattle.exact.specs.Exact.{Exact, ◌⊕◌, ◌⊖◌, ◌≼◌, ◌≺◌, ◌≈◌}
use Rattle.exact.specs.Parts.{Is}
use Rattle.exact.proofs.Ring.{ring}
use Rattle.exact.proofs.Order.{above, below, le_out, le_in, lt_out, eq_out, ≼_trans, ≼-antisym, ≈→≼, ≈-sym}
use Rattle.exact.proofs.Is.{is_self, is_as, is_sum, is_diff, is_le, le_is, is_lt, is_eq, is_same}

-- ---- equal fractions have the same parts
pub is_via : {x y : Exact} {a b d : ℕ} → x ≈ y → 0 < x.den → Is y a b d → Is x a b d
is_via e p f = is_as (record { eq = eq_out e; proper = p; over = f.proper }) f.over f.eq

pub ≈-trans : {x y z : Exact} → 0 < y.den → x ≈ y → y ≈ z → x ≈ z
≈-trans p e f = ≼-antisym (≼_trans p (≈→≼ e) (≈→≼ f)) (≼_trans p (≈→≼ (≈-sym f)) (≈→≼ (≈-sym e)))

pub ≈-refl : (x : Exact) → 0 < x.den → x ≈ x
≈-refl x p = is_same (is_self x p) (is_self x p)

-- ---- the sum of equal fractions
pub sum_same :
    {x x' y y' : Exact} → 0 < x.den → 0 < x'.den → 0 < y.den → 0 < y'.den → x ≈ x' → y ≈ y' → x ⊕ y ≈ x' ⊕ y'
sum_same {x' = x'} {y' = y'} p p' q q' e f =
    is_same (is_sum (is_via e p (is_self x' p')) (is_via f q (is_self y' q'))) (is_sum (is_self x' p') (is_self y' q'))

-- ---- a is added and taken off again
module _ (a y : Exact) (p : 0 < a.den) (q : 0 < y.den) where
  pub add_back : a ⊕ (y ⊖ a) ≈ y
  add_back = is_eq (is_sum (is_self a p) (is_diff (is_self y q) (is_self a p))) (is_self y q) (simp ring (omega arith))

  pub take_back : (a ⊕ y) ⊖ a ≈ y
  take_back = is_eq (is_diff (is_sum (is_self a p) (is_self y q)) (is_self a p)) (is_self y q) (simp ring (omega arith))

-- ---- X' is X less a
pub record Less (a X X' : Exact) : Type 0 where
  pub off : 0 < a.den
  pub old : 0 < X.den
  pub new : 0 < X'.den
  pub is : X' ≈ X ⊖ a

less_is : {a X X' : Exact} → Less a X X' → Is X' (above X * a.den + below a * X.den) (below X * a.den + above a * X.den) (X.den * a.den)
less_is {a} {X} f = is_via f.is f.new (is_diff (is_self X f.old) (is_self a f.off))

same_way :
    (xu xd xo yu yd yo au ad ao : ℕ) →
    (xu * ao + ad * xo) * (yo * ao) + (yd * ao + au * yo) * (xo * ao) + (yu * xo + xd * yo) * (ao * ao)
    ≡ (yu * ao + ad * yo) * (xo * ao) + (xd * ao + au * xo) * (yo * ao) + (xu * yo + yd * xo) * (ao * ao)
same_way xu xd xo yu yd yo au ad ao = simp ring (omega arith)

module _ {a X Y X' Y' : Exact} (f : Less a X X') (g : Less a Y Y') where
  some : 0 < a.den * a.den
  some = mul-pos f.off f.off

  identity :
      (above X * a.den + below a * X.den) * (Y.den * a.den) + (below Y * a.den + above a * Y.den) * (X.den * a.den) + (above Y * X.den + below X * Y.den) * (a.den * a.den)
      ≡ (above Y * a.den + below a * Y.den) * (X.den * a.den) + (below X * a.den + above a * X.den) * (Y.den * a.den) + (above X * Y.den + below Y * X.den) * (a.den * a.den)
  identity = same_way (above X) (below X) X.den (above Y) (below Y) Y.den (above a) (below a) a.den

  pub less_le : X ≼ Y → X' ≼ Y'
  less_le h = is_le (less_is f) (less_is g) (omega (arith, identity, mul-le-mul_right (a.den * a.den) (le_out h)))

  pub le_less : X' ≼ Y' → X ≼ Y
  le_less h = le_in (le_of_mul-le-mul_right {k = a.den * a.den} (omega (arith, identity, le_is (less_is f) (less_is g) h)) some)

  pub less_lt : X ≺ Y → X' ≺ Y'
  less_lt h = is_lt (less_is f) (less_is g) (omega (arith, identity, mul-lt-mul_of_pos_right (lt_out h) some))

  -- as far apart as before
  pub same_apart : Y' ⊖ X' ≈ Y ⊖ X
  same_apart =
      is_same
      (is_as (is_diff (less_is g) (less_is f)) (mul-pos g.old f.old) (simp ring (omega arith)))
      (is_diff (is_self Y g.old) (is_self X f.old))
