-- A signed 64-bit number by its sign, as a test against 0 leaves it.
-- Assumes nothing.
use mathlib.Core.Path.{◌≡◌, ap, ◌∙◌}
use mathlib.Core.Bool.{true, false}
use native.Mathlib.Omega.{arith}
use lib.IntN.{ℤ, pos, negsuc, ◌-ℤ◌}
use lib.Signed.{mag, lt_z}
use mir.Syntax.{w64}
use mir.Val.{SFits, to_z, of_z}
use mir.Facts.{to_z-of_z, sfits_lit}
use Rattle.exact.specs.Parts.{up}
use Rattle.exact.proofs.Integers.{ints, sub_parts, is_pos}
use Rattle.exact.proofs.Machine.{test_lt, test_not_lt, is_neg}

-- below nought z is negsuc k, and -1 - z is k, which fits too
pub record Below (z : ℤ) : Type 0 where
  pub is : z ≡ negsuc (mag z)
  pub turned : negsuc 0 -ℤ to_z w64 (of_z w64 z) ≡ pos (mag z)
  pub fits : SFits w64 (pos (mag z))

pub below_nought : (z : ℤ) → SFits w64 z → lt_z (to_z w64 (of_z w64 z)) (to_z w64 (of_z w64 (pos 0))) ≡ true → Below z
below_nought z f t =
    let is = is_neg z (omega (arith, ints, test_lt {b = pos 0} f (sfits_lit tt) t)) in
    record {
      is = is;
      turned = ap (λ (n : ℤ). negsuc 0 -ℤ n) (to_z-of_z f ∙ is) ∙ omega (arith, ints, sub_parts (negsuc 0) (negsuc (mag z)));
      fits = record { sfits = f.sfits };
    }

-- else it is a natural number
pub from_nought : (z : ℤ) → SFits w64 z → lt_z (to_z w64 (of_z w64 z)) (to_z w64 (of_z w64 (pos 0))) ≡ false → z ≡ pos (up z)
from_nought z f t = is_pos z (omega (arith, ints, test_not_lt {b = pos 0} f (sfits_lit tt) t))
