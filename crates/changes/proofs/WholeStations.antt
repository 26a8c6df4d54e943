-- The two sides of each rule at a whole station: which is the greater is seen from the rule's closed form.
-- Assumes nothing.
use mathlib.Core.Path.{◌≡◌, refl}
use mathlib.Core.Bool.{Bool, true, false}
use Prim.Native.Nat.{ℕ, ◌+◌, ◌*◌, ◌-◌, ◌≤◌, ◌<◌}
use native.Mathlib.Omega.{arith}
use Rattle.section.specs.Lines.{Section, joint_num}
use Rattle.changes.specs.Rules.{Rule, inner_slope_rule, shoulder_slope_rule, inner_shoulder_rule}
use Rattle.changes.specs.Closed.{run, turned, changes, change_num, change_den, ChangePremises}
use Rattle.changes.proofs.Stations.{Sided, OuterAt, evenly, firstly, secondly, inner_sided, shoulder_sided, width_sided}

-- ---- the outer slope at d is (up − down)/over, as code reckons it in each stage
abbrev pub OuterParts : Section → ℕ → ℕ → ℕ → ℕ → Type 0
OuterParts x d up down over = OuterAt x d 1 up down over

module _ (x : Section) (d : ℕ) where
  pub even_parts : 3 * x.L ≤ x.h * (x.p + x.v) → OuterParts x d ((x.p + x.v) * d) (x.p * x.L) x.L
  even_parts t = evenly t (omega arith) refl (omega arith)

  module _ (two : x.h * (x.p + x.v) < 3 * x.L) where
    pub first_parts : 3 * d ≤ joint_num x → OuterParts x d (3 * d) (x.p * x.h) x.h
    first_parts j = firstly two (omega arith) (omega arith) refl (omega arith)

    pub second_parts : joint_num x ≤ 3 * d → OuterParts x d (x.p * run x + turned x * (3 * d - joint_num x)) 0 (run x)
    second_parts j =
        let one : joint_num x * 1 ≡ joint_num x = omega arith in
        secondly two (omega arith) (omega arith) (rw one (omega arith)) refl

-- ---- u and w are the sides at d, w the one that is greater before the change: so it is up to the closed form, and everywhere where there is no change
pub record WholeSided (rule : Rule) (x : Section) (d u w : ℕ) : Type 0 where
  pub never : changes rule x ≡ false → u ≤ w
  pub before : change_den rule x * d ≤ change_num rule x → u ≤ w
  pub after : changes rule x ≡ true → change_num rule x ≤ change_den rule x * d → w ≤ u

whole_sided : {rule : Rule} {x : Section} {d u w : ℕ} → Sided rule x d 1 u w → WholeSided rule x d u w
whole_sided {rule} {x} {d} {u} {w} f =
    record {
      never = f.never;
      before = λ h. go h (changes rule x) f.never (λ e. (f.alike e).most);
      after = λ e h. (f.alike e).least (omega arith);
    }
  where
    go :
        change_den rule x * d ≤ change_num rule x → (t : Bool) → (t ≡ false → u ≤ w) →
        (t ≡ true → change_den rule x * d ≤ change_num rule x * 1 → u ≤ w) → u ≤ w
    go h true k l = l refl (omega arith)
    go h false k l = k refl

module _ {added : ℕ} {x : Section} (ok : ChangePremises added x) {d : ℕ} (to : d ≤ x.L) where
  module _ {up down over : ℕ} (f : OuterParts x d up down over) where
    -- p, and the outer slope
    pub inner_whole : WholeSided inner_slope_rule x d up (x.p * over + down)
    inner_whole = whole_sided (inner_sided ok (omega arith) (omega arith) f)

    -- q, and the outer slope, which is the inner one where that is above p
    pub shoulder_whole : WholeSided shoulder_slope_rule x d up (x.q * over + down)
    shoulder_whole = whole_sided (shoulder_sided ok (omega arith) (omega arith) f)

  -- c less the widening, and m
  pub width_whole : WholeSided inner_shoulder_rule x d (x.m * x.L + x.W * d) (x.c * x.L)
  width_whole =
      let one : x.L * 1 ≡ x.L = omega arith in
      whole_sided (rw one at (width_sided ok {a = d} {b = 1} (omega arith) (omega arith)))
