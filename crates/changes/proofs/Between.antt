-- Between two different numbers lies another.
-- Assumes nothing.
use mathlib.Core.Logic.{◌⊎◌, inl, inr}
use Prim.Native.Nat.{◌+◌, ◌<◌}
use native.Mathlib.Omega.{arith}
use Rattle.exact.specs.Exact.{Exact, ratio, ◌≼◌, ◌≺◌}
use Rattle.exact.specs.Parts.{Is}
use Rattle.exact.proofs.Order.{above, below, lt_out, ≼_trans, clash, ask}
use Rattle.exact.proofs.Is.{is_self, is_ratio, is_lt}

-- numerators and denominators added
abbrev pub mediant : Exact → Exact → Exact
mediant x y = ratio (above x + above y) (below x + below y) (x.den + y.den)

-- m lies between x and y
pub record Between (x m y : Exact) : Type 0 where
  pub fraction : 0 < m.den
  pub past : x ≺ m
  pub ahead : m ≺ y

pub between : {x y : Exact} → 0 < x.den → 0 < y.den → x ≺ y → Between x (mediant x y) y
between {x} {y} p q h =
    let m : Is (mediant x y) (above x + above y) (below x + below y) (x.den + y.den) = is_ratio _ _ _ (omega (arith, p)) in
    record {
      fraction = omega (arith, p);
      past = is_lt (is_self x p) m (omega (arith, lt_out h));
      ahead = is_lt m (is_self y q) (omega (arith, lt_out h));
    }

-- what is at most y is below all that y is below
pub ≼-≺-trans : {x y z : Exact} → 0 < x.den → x ≼ y → y ≺ z → x ≺ z
≼-≺-trans {x} {y} {z} d a b = go (ask z x)
  where
    go : (z ≼ x) ⊎ (x ≺ z) → x ≺ z
    go (inl i) = absurd (clash b (≼_trans d i a))
    go (inr i) = i
