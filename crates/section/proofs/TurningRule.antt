-- The outer slope turns as the paper words it, the outer edge climbs at 3‰ up to the joint, the inner shoulder keeps its least width, and
-- heights count from the inner brow at 0.
-- Assumes nothing.
use mathlib.Core.Path.{◌≡◌, refl, ap}
use mathlib.Core.Bool.{false}
use Prim.Native.Nat.{ℕ, ◌+◌, ◌*◌, ◌-◌, ◌≤◌, ◌<◌}
use native.Mathlib.Nat.{mul-le-mul_right}
use native.Mathlib.Omega.{arith}
use borrow.Author.Tests.{leb-false}
use Rattle.exact.specs.Exact.{Exact, whole, minus, ◌≼◌, ◌≈◌}
use Rattle.exact.proofs.Ring.{ring}
use Rattle.exact.specs.Parts.{Is}
use Rattle.exact.proofs.Is.{is_one, is_minus, is_net, is_le, is_eq, station_is}
use Rattle.exact.proofs.Pieces.{piece_exactly}
use Rattle.section.specs.Lines.{Section, On, is_even, joint_num, outer_slope, inner_shoulder, inner_brow}
use Rattle.section.specs.Climbing.{ClimbPremises}
use Rattle.section.specs.Turning.{Turning, TurnsTheorem}
use Rattle.section.proofs.Slopes.{even?, joint_is, even_is, first-is, second_is}
use Rattle.section.proofs.Heights.{inner_slope_lem, shoulder_slope_lem, kept, inner_shoulder_lem, inner_brow_lem}
use Rattle.section.proofs.EdgePieces.{joint_before, joint_on, first_piece, on_first}
use Rattle.section.proofs.Proper.{proper}

module _ {added : ℕ} {x : Section} (ok : ClimbPremises added x) where
  two : is_even x ≡ false → x.h * (x.p + x.v) < 3 * x.L
  two e = leb-false (3 * x.L) (x.h * (x.p + x.v)) e

  starts : Dec (3 * x.L ≤ x.h * (x.p + x.v)) → outer_slope x (whole 0) ≈ minus x.p
  starts (yes e) = is_eq (even_is x (is_one 0) ok.long e) (is_minus x.p 1 (omega arith)) (omega arith)
  starts (no e) = is_eq (first-is x (is_one 0) (omega arith) ok.wide (omega arith)) (is_minus x.p 1 (omega arith)) (omega arith)

  ends : Dec (3 * x.L ≤ x.h * (x.p + x.v)) → outer_slope x (whole x.L) ≈ whole x.v
  ends (yes e) = is_eq (even_is x (is_one x.L) ok.long e) (is_one x.v) (omega arith)
  ends (no e) =
      let run : joint_num x < 3 * x.L = joint_before x (omega arith) ok.turned in
      is_eq (second_is x (is_one x.L) (omega arith) ok.turned run (omega arith)) (is_one x.v) (whole_turn x.p x.v (3 * x.L - joint_num x) _ ok.turned (omega arith))
    where
      -- p, and v − p more over the whole of what is left
      whole_turn : (p v E F : ℕ) → p ≤ v → F ≡ E → (p * (E * 1) + (v - p) * F) * 1 + 0 * (E * 1) ≡ v * (E * 1) + 0 * 1
      whole_turn p v E F h e =
          let d : v - p + p ≡ v = omega arith in
          rw e (omega (arith, ap (λ (n : ℕ). n * E) d))

  -- the shoulder at a station, beside m and c
  shoulder_least : (s : Exact) → On x s → whole x.m ≼ inner_shoulder x s
  shoulder_least s on = is_le (is_one x.m) (inner_shoulder_lem x (station_is on.fraction on.from) ok.long) (omega arith)

  module _ (wide : x.m ≤ x.c) where
    shoulder_most : (s : Exact) → On x s → inner_shoulder x s ≼ whole x.c
    shoulder_most s on =
        is_le (inner_shoulder_lem x (station_is on.fraction on.from) ok.long) (is_one x.c) (omega (arith, mul-le-mul_right (x.L * s.den) wide))

    -- at 0 nothing is widened
    all_kept : kept x (is_one 0) ok.long ≡ x.c * (x.L * 1)
    all_kept = omega (arith, mul-le-mul_right (x.L * 1) wide)

    shoulder_starts : inner_shoulder x (whole 0) ≈ whole x.c
    shoulder_starts = is_eq (rw all_kept at (inner_shoulder_lem x (is_one 0) ok.long)) (is_one x.c) (omega arith)

  -- at 0 the inner slope is p, the shoulder slope q, and nothing is widened
  level : {m n e : ℕ} → Is (outer_slope x (whole 0)) m n e → m ≤ n → x.m ≤ x.c → x.p ≤ x.q → inner_brow x (whole 0) ≈ whole 0
  level {m} {n} {e} f none wide steeper =
      let inner = is_net {a' = x.p * e} {b' = 0} (inner_slope_lem x (whole 0) f) (omega arith) in
      let more : x.p * e ≤ x.q * e = mul-le-mul_right e steeper in
      let shoulder = is_net {a' = x.q * e} {b' = 0} (shoulder_slope_lem x (whole 0) inner) (omega arith) in
      is_eq (rw (all_kept wide) at (inner_brow_lem x (is_one 0) ok.long inner shoulder)) (is_one 0) (simp ring (omega arith))

  datum : x.m ≤ x.c → x.p ≤ x.q → Dec (3 * x.L ≤ x.h * (x.p + x.v)) → inner_brow x (whole 0) ≈ whole 0
  datum wide steeper (yes e) = level (even_is x (is_one 0) ok.long e) (omega arith) wide steeper
  datum wide steeper (no e) = level (first-is x (is_one 0) (omega arith) ok.wide (omega arith)) (omega arith) wide steeper

  turning : x.m ≤ x.c → x.p ≤ x.q → Turning x
  turning wide steeper =
      record {
        fractions = λ s on. proper ok on;
        starts = starts (even? x);
        ends = ends (even? x);
        joint_on = λ e. joint_on (two e) ok.turned;
        at_joint = λ e. is_eq (first-is x (joint_is x) (two e) ok.wide (omega arith)) (is_one x.p) (omega arith);
        first_stage = λ e s t a b i j. piece_exactly 3 {p = first_piece x} refl (on_first (two e) a ok.wide i) (on_first (two e) b ok.wide j);
        shoulder_starts = shoulder_starts wide;
        shoulder_least = shoulder_least;
        shoulder_most = shoulder_most wide;
        datum = datum wide steeper (even? x);
      }

pub turns : TurnsTheorem
turns added x ok wide steeper = turning ok wide steeper
