-- A number that is rounded to units is accurate, and goes from halfway as its unit has it.
-- Assumes nothing.
use mathlib.Core.Path.{refl}
use Prim.Native.Nat.{◌*◌}
use native.Mathlib.Omega.{arith}
use Rattle.exact.specs.Rounding.{lower, higher, rounded}
use Rattle.exact.proofs.Rounded.{rounding_laws}
use Rattle.card.specs.Rows.{tie, AccurateTheorem, HalfwayByUnit}

pub accurate : AccurateTheorem
accurate unit some x proper =
    record {
      fraction = proper;
      millimetres = λ e. rw e ((rounding_laws higher 1000 (omega arith)).exists x proper);
      centimetres = λ e. rw e ((rounding_laws lower 10000 (omega arith)).exists x proper);
      half = (rounding_laws (tie unit) (1000 * unit) (omega arith)).half x proper;
    }

pub halfway_by_unit : HalfwayByUnit
unfolding rounded
halfway_by_unit =
    record {
      mm = refl;
      mm_less = refl;
      mm_below = refl;
      mm_below_less = refl;
      cm = refl;
      cm_more = refl;
      cm_below = refl;
      cm_below_more = refl;
    }
