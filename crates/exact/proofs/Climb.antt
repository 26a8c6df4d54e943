-- Climbing: heights X and Y at the stations s and t, the second at most A times the way above the first.
-- Assumes nothing.
use Prim.Native.Nat.{ℕ, ◌<◌}
use native.Mathlib.Nat.{mul-pos}
use native.Mathlib.Omega.{arith}
use Rattle.exact.specs.Exact.{Exact, whole, ◌⊖◌, ◌⊗◌, ◌≼◌}
use Rattle.exact.proofs.Ring.{ring}
use Rattle.exact.proofs.Order.{≼_trans}
use Rattle.exact.proofs.Is.{is_self, is_times, is_diff, is_le, le_is}

-- X − A s, which may not grow along the way: so two stretches are glued by transitivity
abbrev pub lag : ℕ → Exact → Exact → Exact
lag A s X = X ⊖ whole A ⊗ s

pub record Climb (A : ℕ) (s X t Y : Exact) : Type 0 where
  pub rises : X ≼ Y
  pub lags : lag A t Y ≼ lag A s X

pub climb_trans : {A : ℕ} {s X t Y u Z : Exact} → 0 < t.den → 0 < Y.den → Climb A s X t Y → Climb A t Y u Z → Climb A s X u Z
climb_trans d e f g =
    record { rises = ≼_trans e f.rises g.rises; lags = ≼_trans (mul-pos e (mul-pos (omega arith) d)) g.lags f.lags }

-- what lags climbs by at most A times the way
pub gently : {A : ℕ} {s X t Y : Exact} → 0 < s.den → 0 < X.den → 0 < t.den → 0 < Y.den → Climb A s X t Y → Y ⊖ X ≼ whole A ⊗ (t ⊖ s)
gently {A} {s} {X} {t} {Y} sp xp tp yp c =
    is_le (is_diff (is_self Y yp) (is_self X xp)) (is_times A (is_diff (is_self t tp) (is_self s sp)))
    (simp ring
    (omega (arith, simp ring at (le_is (is_diff (is_self Y yp) (is_times A (is_self t tp))) (is_diff (is_self X xp) (is_times A (is_self s sp))) c.lags))))
