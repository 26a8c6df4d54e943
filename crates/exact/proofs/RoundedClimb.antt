-- What climbs by at most A times the way is rounded to what climbs by at most a unit more, whatever the tie rule.
-- Assumes nothing.
use Prim.Native.Nat.{ℕ, ◌<◌}
use native.Mathlib.Omega.{arith}
use Rattle.exact.specs.Exact.{Exact, whole, ◌⊖◌, ◌⊗◌}
use Rattle.exact.specs.Rounding.{Tie, units, rounded}
use Rattle.exact.specs.Tabled.{TabledClimb}
use Rattle.exact.proofs.Near.{near_first, near_second}
use Rattle.exact.proofs.Apart.{apart}
use Rattle.exact.proofs.Rounded.{rounding_laws}
use Rattle.exact.proofs.Climb.{Climb, gently}

pub rounded_climb :
    (tie : Tie) {A : ℕ} (u : ℕ) (d e : ℕ) {X Y : Exact} → 0 < u → 0 < X.den → 0 < Y.den → Climb A (whole d) X (whole e) Y →
    TabledClimb A u X Y d e (rounded tie u X) (rounded tie u Y)
rounded_climb tie {A} u d e {X} {Y} some xp yp c =
    let laws = rounding_laws tie u some in
    record {
      fractions = (xp, yp);
      earlier = laws.half X xp;
      later = laws.half Y yp;
      order = laws.monotone X Y xp yp c.rises;
      gentle =
          apart u (rounded tie u X) (rounded tie u Y) X Y (whole A ⊗ (whole e ⊖ whole d)) xp yp (omega arith)
          (near_first X (units u (rounded tie u X)) (laws.half X xp))
          (near_second Y (units u (rounded tie u Y)) (laws.half Y yp))
          (gently (omega arith) xp (omega arith) yp c);
    }
