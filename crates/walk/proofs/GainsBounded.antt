-- The gains of a row that is worked afresh are no greater than its numbers can hold.
-- Assumes nothing.
use mathlib.Core.Path.{◌≡◌, sym, ap, subst}
use mathlib.Core.Bool.{Bool, true, false, cond}
use Prim.Native.Nat.{ℕ, ◌+◌, ◌*◌, ◌-◌, ◌≤◌, ◌<◌}
use native.Mathlib.Nat.{mul-le-mul, mul-le-mul_left, le_trans}
use native.Mathlib.Decide.{dec_le}
use native.Mathlib.Omega.{arith}
use lib.Dec.{ltb}
use borrow.Author.Tests.{le-leb, lt-leb}
use Rattle.card.specs.declared.Card.{Card}
use Rattle.card.specs.Accepted.{PassedBefore, PassedAfter, Sizes}
use Rattle.card.specs.Profile.{profile_at, added_of}
use Rattle.section.specs.Lines.{Section, section_of, joint_num}
use Rattle.section.proofs.Slopes.{even?, is_even_lem, not_even}
use Rattle.runoff.specs.declared.turning.Station.{Station}
use Rattle.runoff.specs.Reckoning.{section_in, slope_parts, slopes_parts}
use Rattle.runoff.specs.Refusal.{refusal}
use Rattle.runoff.proofs.Accepts.{accepted, accepted_rule}
use Rattle.walk.specs.declared.turns.Turns.{Turns}
use Rattle.walk.specs.Bounds.{Bounded}
use Rattle.walk.specs.Gains.{outer_gain, gains_in}

some_or_none : (b : Bool) (n : ℕ) → cond b 0 n ≤ n
some_or_none true n = omega arith
some_or_none false n = omega arith

all_or_none : (b : Bool) (n : ℕ) → cond b n 0 ≤ n
all_or_none true n = omega arith
all_or_none false n = omega arith

-- with plain numbers: past the joint
past_joint : (h p v L s : ℕ) → h * (p + v) < 3 * L → p ≤ v → 2250 ≤ h → s ≤ 20000 → 3 * (v - p) * s ≤ 90 * (3 * L - 2 * h * p)
past_joint h p v L s two turned wide near =
    let all : v - p + p ≡ v = omega arith in
    omega (arith, two, ap (λ (n : ℕ). h * n) all, mul-le-mul_left (v - p) near, mul-le-mul_left (v - p) wide)

module _ (card : Card) (passes : refusal card ≡ 0) where
  abbrev x : Section
  x = section_of card

  before : PassedBefore (profile_at card.profile) card
  before = (accepted card passes).before

  after : PassedAfter card
  after = (accepted card passes).after

  sizes : Sizes (profile_at card.profile) (added_of card)
  sizes = (accepted_rule card).sizes passes

  short : card.step ≤ card.clothoid
  short = omega (arith, after.step_most, (accepted_rule card).long passes)

  outer_most : (d : ℕ) → outer_gain x card.step d ≤ 90 * (slope_parts x d).over
  unfolding outer_gain slope_parts
  outer_most d = go (even? x) (dec_le (3 * d) (joint_num x))
    where
      go : Dec (3 * x.L ≤ x.h * (x.p + x.v)) → Dec (3 * d ≤ joint_num x) → outer_gain x card.step d ≤ 90 * (slope_parts x d).over
      go (yes even) _ = rw (is_even_lem x even) (mul-le-mul {n₁ = x.p + x.v} {n₂ = 90} (omega (arith, sizes.crown_most, before.slope_most)) short)
      go (no two) (yes first) =
          rw (not_even x (omega arith), le-leb (3 * d) (joint_num x) first) (omega (arith, after.step_most, sizes.half_least))
      go (no two) (no second) =
          rw (not_even x (omega arith), lt-leb (3 * d) (joint_num x) (omega arith))
          (past_joint x.h x.p x.v x.L card.step (omega arith) before.slope_least sizes.half_least after.step_most)

  pub bounded : (t : Station) → section_in t.runoff ≡ x → (turns : Turns) (i : ℕ) → Bounded t (gains_in turns x card.step i t.d)
  unfolding gains_in slopes_parts
  bounded t is turns i =
      let gain = outer_gain x card.step t.d in
      let inner = some_or_none (ltb i turns.inner) gain in
      let wide : x.W * card.step ≤ 3500 * card.clothoid = mul-le-mul before.widening_most short in
      record {
        outer = rw is (outer_most t.d);
        inner = inner;
        shoulder = le_trans (some_or_none (ltb i turns.shoulder) _) inner;
        widening = subst (λ (y : Section). x.W * card.step ≤ 3500 * y.L) (sym is) wide;
        lost = all_or_none (ltb i turns.kept) (x.W * card.step);
      }
