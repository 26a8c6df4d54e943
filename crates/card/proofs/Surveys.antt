-- The height and the grade of an absolute card: the conditions 34 and 35, and what holds where they are not met.
-- Assumes nothing.
use mathlib.Core.Path.{◌≡◌, refl, ap}
use mathlib.Core.Bool.{false, not}
use mathlib.Core.Logic.Iff
use mathlib.Core.Logic.{◌↔◌}
use mathlib.Mathlib.Data.Bool.Basic.{or-eq-false-eq-eq-false-and-eq-false}
use Prim.Native.Nat.{ℕ, ◌%◌, ◌≤◌}
use native.Mathlib.Omega.{arith}
use lib.Dec.{leb→le}
use lib.IntN.{ℤ, pos, negsuc, neg_ℤ, nat_abs}
use lib.Signed.{lt_z, ◌≤ℤ◌}
use borrow.Author.Tests.{eqb-true, eq-eqb, le-ltb, not-false}
use Rattle.exact.proofs.Integers.{ints, lt_no, le_parts, size_parts}
use Rattle.card.specs.Words.{beyond}
use Rattle.card.specs.declared.Datum.{Datum}
use Rattle.card.specs.declared.Datum.TheVariants.{Relative, Absolute}
use Rattle.card.specs.Reasons.{not_whole, wrong_height, height_met, grade_met}
use Rattle.card.specs.Accepted.{Surveyed, InSurvey}

-- ---- the conditions turned round
le_not_lt : (a b : ℤ) → b ≤ℤ a → lt_z a b ≡ false
le_not_lt (pos a) (pos b) h = le-ltb a b (leb→le b a h.le)
le_not_lt (pos a) (negsuc b) h = refl
le_not_lt (negsuc a) (pos b) h = absurd h.le
le_not_lt (negsuc a) (negsuc b) h = le-ltb b a (leb→le a b h.le)

not-below : (a b : ℤ) → (lt_z a b ≡ false) ↔ (b ≤ℤ a)
not-below a b = (λ e. omega (arith, ints, lt_no a b e), le_not_lt a b)

pub not_beyond : (z a b : ℤ) → (beyond z a b ≡ false) ↔ ((a ≤ℤ z) × (z ≤ℤ b))
not_beyond z a b =
    Iff.trans (or-eq-false-eq-eq-false-and-eq-false (lt_z z a) (lt_z b z)) (Iff.and (not-below z a) (not-below b z))

is_whole : (u : ℕ) (h : ℤ) → (not_whole u h ≡ false) ↔ (nat_abs h % u ≡ 0)
is_whole u h = (λ e. eqb-true _ _ (not-false _ e), λ e. ap not (eq-eqb _ _ e))

pub right_height : (u : ℕ) (h : ℤ) → (wrong_height u h ≡ false) ↔ (((neg_ℤ (pos 100000) ≤ℤ h) × (h ≤ℤ pos 9000000)) × (nat_abs h % u ≡ 0))
right_height u h =
    Iff.trans
    (or-eq-false-eq-eq-false-and-eq-false (beyond h (neg_ℤ (pos 100000)) (pos 9000000)) (not_whole u h))
    (Iff.and (not_beyond h (neg_ℤ (pos 100000)) (pos 9000000)) (is_whole u h))

-- 34 and 35 are not met exactly where the height and the grade, if there are any, keep to their bounds
pub in_survey : (datum : Datum) (u : ℕ) → ((height_met u datum ≡ false) × (grade_met datum ≡ false)) ↔ InSurvey datum u
in_survey Relative u = (λ e. tt, λ h. (refl, refl))
in_survey (Absolute h g) u = (
  λ e.
      let height = (right_height u h).0 e.0 in
      let grade = (not_beyond g (neg_ℤ (pos 80)) (pos 80)).0 e.1 in
      record {
        height_least = height.0.0;
        height_most = height.0.1;
        whole_units = height.1;
        grade_least = grade.0;
        grade_most = grade.1;
      },
  λ s.
      ((right_height u h).1 ((s.height_least, s.height_most), s.whole_units), (not_beyond g (neg_ℤ (pos 80)) (pos 80)).1 (s.grade_least, s.grade_most)),
)

-- ---- the sizes of height and grade
pub record SurveySizes (height grade : ℤ) : Type 0 where
  pub high : nat_abs height ≤ 9000000
  pub steep : nat_abs grade ≤ 80

pub survey_sizes : {h g : ℤ} {u : ℕ} → Surveyed h g u → SurveySizes h g
survey_sizes {h} {g} s =
    record {
      high = omega (arith, size_parts h, le_parts _ _ s.height_least, le_parts _ _ s.height_most);
      steep = omega (arith, size_parts g, le_parts _ _ s.grade_least, le_parts _ _ s.grade_most);
    }
