-- The sizes of every profile in the table, each by a test that is computed over the table.
-- Assumes nothing.
use mathlib.Core.Path.{◌≡◌, refl}
use mathlib.Core.Bool.{Bool, true}
use mathlib.Core.List.{List, [], ◌∷◌}
use mathlib.Core.Logic.{⊎_elim}
use Prim.Native.Nat.{ℕ, zero, suc, ◌-◌, ◌≤◌, ◌<◌}
use native.Mathlib.Nat.{le_of_suc-le-suc, not-suc-le-zero}
use native.Mathlib.Omega.{arith}
use lib.Dec.{leb, ltb, eqb}
use lib.ListN.{length, get_or}
use borrow.Author.Tests.{leb-true, ltb-true}
use Rattle.card.specs.declared.Profile.{Profile}
use Rattle.card.specs.Profile.{profiles, profile_at, no_profile, NoOtherProfile, added_slope}
use Rattle.card.specs.Accepted.{Sizes}
use Rattle.card.proofs.Every.{every, at_place, of_two}
use Rattle.card.proofs.Unmet.{one_of}

-- the profiles are numbered from 1, the places of the table from 0
pub from_one : (n : ℕ) → 0 < n → profile_at n ≡ get_or profiles (n - 1) no_profile
unfolding profile_at
from_one zero h = absurd (omega arith)
from_one (suc n) h =
    let e : suc n - 1 ≡ n = omega arith in
    rw e

-- a number past the table's end has no profile
past_end : {A : Type 0} (xs : List A) (n : ℕ) (d : A) → length xs ≤ n → get_or xs n d ≡ d
past_end [] n d h = refl
past_end (x ∷ xs) zero d h = absurd (not-suc-le-zero h)
past_end (x ∷ xs) (suc n) d h = past_end xs n d (le_of_suc-le-suc h)

none_past : (n : ℕ) → 5 < n → profile_at n ≡ no_profile
unfolding profile_at profiles
none_past zero h = absurd (omega arith)
none_past (suc n) h = past_end profiles n no_profile (omega arith)

none_at_nought : (n : ℕ) → n < 1 → profile_at n ≡ no_profile
unfolding profile_at
none_at_nought zero h = refl
none_at_nought (suc n) h = absurd (omega arith)

pub none_outside : NoOtherProfile
none_outside n e = ⊎_elim (λ t. none_at_nought n (ltb-true n 1 t)) (λ t. none_past n (ltb-true 5 n t)) (one_of (ltb n 1) (ltb 5 n) e)

module _ (n : ℕ) (least : 1 ≤ n) (most : n ≤ 5) where
  passes : (f : Profile → Bool) → every f profiles ≡ true → f (profile_at n) ≡ true
  unfolding profiles
  passes f t = rw (from_one n least) (at_place f profiles no_profile t (n - 1) (omega arith))

  pub least_radius_lem : 30 ≤ (profile_at n).least_radius
  unfolding profiles
  least_radius_lem = leb-true 30 _ (passes (λ r. leb 30 r.least_radius) refl)

  -- whichever of the two is taken
  added_passes :
      (f : ℕ → Bool) (terrain : ℕ) → every (λ r. f r.added_level) profiles ≡ true → every (λ r. f r.added_mountain) profiles ≡ true →
      f (added_slope (profile_at n) terrain) ≡ true
  added_passes f terrain s t =
      let level = passes (λ r. f r.added_level) s in
      let mountain = passes (λ r. f r.added_mountain) t in
      of_two f (eqb terrain 1) _ _ (search (level, mountain)) (search (level, mountain))

  pub sizes : (terrain : ℕ) → Sizes (profile_at n) (added_slope (profile_at n) terrain)
  unfolding profiles
  sizes terrain =
      record {
        half_least = leb-true 2250 _ (passes (λ r. leb 2250 r.half_width) refl);
        half_most = leb-true _ 3750 (passes (λ r. leb r.half_width 3750) refl);
        shoulder_most = leb-true _ 3750 (passes (λ r. leb r.shoulder_width 3750) refl);
        kept_most = leb-true _ _ (passes (λ r. leb r.least_shoulder r.shoulder_width) refl);
        crown_least = leb-true 20 _ (passes (λ r. leb 20 r.crown_slope) refl);
        crown_most = leb-true _ 30 (passes (λ r. leb r.crown_slope 30) refl);
        side_least = leb-true _ _ (passes (λ r. leb r.crown_slope r.shoulder_slope) refl);
        side_most = leb-true _ 60 (passes (λ r. leb r.shoulder_slope 60) refl);
        added_least = leb-true 5 _ (added_passes (λ a. leb 5 a) terrain refl refl);
        added_most = leb-true _ 20 (added_passes (λ a. leb a 20) terrain refl refl);
      }
