-- The two sides of each rule at the station a/b, in natural numbers: they compare as the station does with the rule's closed form.
-- Assumes nothing.
use mathlib.Core.Path.{◌≡◌, ap}
use mathlib.Core.Bool.{true, false}
use Prim.Native.Nat.{ℕ, ◌+◌, ◌*◌, ◌-◌, ◌≤◌, ◌<◌}
use native.Mathlib.Nat.{mul-pos, mul-le-mul, mul-le-mul_left, mul-le-mul_right, mul-lt-mul_of_pos_right}
use native.Mathlib.Omega.{arith}
use borrow.Author.Tests.{ltb-true, ltb-false, leb-true, leb-false}
use Rattle.section.specs.Lines.{Section, joint_num}
use Rattle.section.specs.Climbing.{ClimbPremises}
use Rattle.section.proofs.Slopes.{is_even_lem, not_even}
use Rattle.section.proofs.EdgePieces.{joint_before}
use Rattle.changes.specs.Rules.{Rule, inner_slope_rule, shoulder_slope_rule, inner_shoulder_rule}
use Rattle.changes.specs.Closed.{run, turned, changes, change_num, change_den, ChangePremises}

-- what a test of two numbers says of them
pub ruleset tests = (ltb-true, ltb-false, leb-true, leb-false)

-- ---- u is to w as i is to j
pub record Alike (u w i j : ℕ) : Type 0 where
  pub less : i < j → u < w
  pub most : i ≤ j → u ≤ w
  pub more : j < i → w < u
  pub least : j ≤ i → w ≤ u

-- k times as far apart
scaled : {u w i j k : ℕ} → 0 < k → u + k * j ≡ w + k * i → Alike u w i j
scaled {k = k} some e =
    record {
      less = λ h. omega (arith, e, mul-lt-mul_of_pos_right h some);
      most = λ h. omega (arith, e, mul-le-mul_left k h);
      more = λ h. omega (arith, e, mul-lt-mul_of_pos_right h some);
      least = λ h. omega (arith, e, mul-le-mul_left k h);
    }

equal : {u w i j : ℕ} → u + j ≡ w + i → Alike u w i j
equal e = scaled {k = 1} (omega arith) (omega arith)

both_less : {u w i j : ℕ} → u < w → i < j → Alike u w i j
both_less h k = record { less = λ _. h; most = λ _. omega arith; more = λ l. absurd (omega arith); least = λ l. absurd (omega arith) }

-- ---- a rule's sides at a/b: w is greater before the change and u after it; where there is none, u is nowhere greater
pub record Sided (rule : Rule) (x : Section) (a b u w : ℕ) : Type 0 where
  pub never : changes rule x ≡ false → u ≤ w
  pub alike : changes rule x ≡ true → Alike u w (change_den rule x * a) (change_num rule x * b)

-- ---- the outer slope at a/b is (up − down)/over: even, two-stage up to the joint, and past it
pub data OuterAt (x : Section) (a b up down over : ℕ) : Type 0 where
  evenly : 3 * x.L ≤ x.h * (x.p + x.v) → over ≡ x.L * b → up ≡ (x.p + x.v) * a → down ≡ x.p * (x.L * b) → OuterAt x a b up down over
  firstly :
      x.h * (x.p + x.v) < 3 * x.L → 3 * a ≤ joint_num x * b → over ≡ x.h * b → up ≡ 3 * a → down ≡ x.p * (x.h * b) → OuterAt x a b up down over
  secondly :
      x.h * (x.p + x.v) < 3 * x.L → joint_num x * b ≤ 3 * a → over ≡ run x * b → up ≡ x.p * (run x * b) + turned x * (3 * a - joint_num x * b) → down ≡ 0 →
      OuterAt x a b up down over

-- with plain numbers: past the joint, where the slope has gained at most d of e over the run
gained : (n p d e J E L a b : ℕ) → e ≡ n - p → p ≤ n → d ≤ e → E + J ≡ 3 * L → a ≤ L * b → p * (E * b) + d * (3 * a - J * b) ≤ n * (E * b)
gained n p d e J E L a b i h k r to =
    let far : 3 * a - J * b ≤ E * b = omega (arith, ap (λ (k : ℕ). k * b) r) in
    let most = mul-le-mul k far in
    let all : e + p ≡ n = omega arith in
    omega (arith, most, ap (λ (k : ℕ). k * (E * b)) all)

-- past the joint the slope is off q as the station is off the closed form
past_joint :
    (p q d e J E a b : ℕ) → e + p ≡ q → J * b ≤ 3 * a →
    p * (E * b) + d * (3 * a - J * b) + (J * d + e * E) * b ≡ q * (E * b) + 0 + 3 * d * a
past_joint p q d e J E a b all past =
    let way : 3 * a - J * b + J * b ≡ 3 * a = omega (arith, past) in
    omega (arith, ap (λ (k : ℕ). d * k) way, ap (λ (k : ℕ). k * (E * b)) all)

module _ {added : ℕ} {x : Section} (ok : ChangePremises added x) {a b : ℕ} (some : 0 < b) (to : a ≤ x.L * b) where
  z : ClimbPremises added x
  z = ok.climb

  run_some : x.h * (x.p + x.v) < 3 * x.L → joint_num x < 3 * x.L
  run_some two = joint_before x two z.turned

  module _ {up down over : ℕ} where
    -- a slope that is at least v is nowhere less than the outer one
    at_most : (n : ℕ) → x.p ≤ n → x.v ≤ n → OuterAt x a b up down over → up ≤ n * over + down
    at_most n h k (evenly t o u d) = rw (u, d, o) (omega (arith, mul-le-mul_left (x.p + x.v) to, mul-le-mul_right (x.L * b) k))
    at_most n h k (firstly t j o u d) = rw (u, d, o) (omega (arith, j, mul-le-mul_right (x.h * b) h))
    at_most n h k (secondly t j o u d) =
        rw (u, d, o)
        (omega (arith, gained n x.p (turned x) (n - x.p) (joint_num x) (run x) x.L a b (omega arith) h (omega arith) (omega (arith, run_some t)) to))

    -- the greater of p and the outer slope
    inner_alike : x.p < x.v → OuterAt x a b up down over → Alike up (x.p * over + down) (change_den inner_slope_rule x * a) (change_num inner_slope_rule x * b)
    unfolding change_num change_den
    inner_alike h (evenly t o u d) = rw (u, d, o, is_even_lem x t) (equal (omega arith))
    inner_alike h (firstly t j o u d) = rw (u, d, o, not_even x t) (equal (omega arith))
    inner_alike h (secondly t j o u d) =
        let way : 3 * a - joint_num x * b + joint_num x * b ≡ 3 * a = omega (arith, j) in
        rw (u, d, o, not_even x t) (scaled {k = turned x} (omega arith) (omega (arith, ap (λ (k : ℕ). turned x * k) way)))

    pub inner_sided : OuterAt x a b up down over → Sided inner_slope_rule x a b up (x.p * over + down)
    unfolding changes
    inner_sided f =
        record {
          never = λ e. at_most x.p (omega arith) (omega (arith, tests, e)) f;
          alike = λ e. inner_alike (omega (arith, tests, e)) f;
        }

    -- the greater of q and the inner slope
    shoulder_alike : x.q < x.v → OuterAt x a b up down over → Alike up (x.q * over + down) (change_den shoulder_slope_rule x * a) (change_num shoulder_slope_rule x * b)
    unfolding change_num change_den
    shoulder_alike h (evenly t o u d) = rw (u, d, o, is_even_lem x t) (equal (omega arith))
    shoulder_alike h (firstly t j o u d) =
        let steeper : 0 < x.q - x.p = omega (arith, ok.steeper) in
        let wider : 0 < (x.q - x.p) * (x.h * b) = mul-pos steeper (mul-pos z.wide some) in
        let later : 0 < (x.q - x.p) * (run x * b) = mul-pos steeper (mul-pos (omega (arith, run_some t)) some) in
        let all : x.q - x.p + x.p ≡ x.q = omega (arith, ok.steeper) in
        rw (u, d, o, not_even x t)
        (both_less
        (omega (arith, j, wider, ap (λ (k : ℕ). k * (x.h * b)) all))
        (omega (arith, mul-le-mul_left (turned x) j, later)))
    shoulder_alike h (secondly t j o u d) =
        rw (u, d, o, not_even x t)
        (equal (past_joint x.p x.q (turned x) (x.q - x.p) (joint_num x) (run x) a b (omega (arith, ok.steeper)) j))

    pub shoulder_sided : OuterAt x a b up down over → Sided shoulder_slope_rule x a b up (x.q * over + down)
    unfolding changes
    shoulder_sided f =
        record {
          never = λ e. at_most x.q (omega (arith, ok.steeper)) (omega (arith, tests, e)) f;
          alike = λ e. shoulder_alike (omega (arith, tests, e)) f;
        }

  -- the greater of m and c less the widening: c is greater before the change, and m with the widening after it
  pub width_sided : Sided inner_shoulder_rule x a b (x.m * (x.L * b) + x.W * a) (x.c * (x.L * b))
  unfolding changes change_num change_den
  width_sided =
      record {
        never = λ e.
            let room : x.m + x.W ≤ x.c = omega (arith, tests, e) in
            omega (arith, mul-le-mul_left x.W to, mul-le-mul_right (x.L * b) room);
        alike = λ e.
            let kept : x.c - x.m + x.m ≡ x.c = omega (arith, ok.wider) in
            equal (omega (arith, ap (λ (k : ℕ). k * (x.L * b)) kept));
      }
