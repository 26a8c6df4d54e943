-- Numbers at halfway, and at the end of the reach, computed from the definitions.
-- Assumes nothing.
use mathlib.Core.Path.{refl}
use Rattle.exact.specs.Rounding.{rounded}
use Rattle.rounding.specs.Nearest.{nearest_of, HalfwayReadings}

pub halfway_readings : HalfwayReadings
unfolding nearest_of rounded
halfway_readings =
    record {
      lower_mm = refl;
      lower_mm_below = refl;
      lower_cm = refl;
      lower_cm_below = refl;
      higher_mm = refl;
      higher_mm_below = refl;
      higher_cm = refl;
      higher_cm_below = refl;
      no_denominator = refl;
      farthest = refl;
      too_far = refl;
    }
