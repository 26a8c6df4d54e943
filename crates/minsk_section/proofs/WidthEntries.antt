-- The widths of the three categories, and that there are no others.
-- Assumes nothing.
use mathlib.Core.Path.{◌≡◌, refl}
use mathlib.Core.Logic.{⊎_elim}
use Prim.Native.Nat.{ℕ, zero, suc, ◌≤◌, ◌<◌}
use native.Mathlib.Omega.{arith}
use lib.Dec.{ltb}
use borrow.Author.Tests.{ltb-true}
use Rattle.card.proofs.Unmet.{one_of}
use Rattle.minsk_section.specs.Widths.{Widths, widths_table, widths_at, no_widths, NoOtherWidths}

none_past : (n : ℕ) → 3 < n → widths_at n ≡ no_widths
unfolding widths_at widths_table
none_past zero h = refl
none_past (suc zero) h = absurd (omega arith)
none_past (suc (suc zero)) h = absurd (omega arith)
none_past (suc (suc (suc zero))) h = absurd (omega arith)
none_past (suc (suc (suc (suc n)))) h = refl

none_at_nought : (n : ℕ) → n < 1 → widths_at n ≡ no_widths
unfolding widths_at
none_at_nought zero h = refl
none_at_nought (suc n) h = absurd (omega arith)

pub none_outside : NoOtherWidths
none_outside n e = ⊎_elim (λ t. none_at_nought n (ltb-true n 1 t)) (λ t. none_past n (ltb-true 3 n t)) (one_of (ltb n 1) (ltb 3 n) e)

-- the sizes of a category's widths
pub record WidthSizes (w : Widths) : Type 0 where
  pub half_least : 3000 ≤ w.half
  pub half_most : w.half ≤ 3500
  pub shoulder_most : w.shoulder ≤ 3000
  pub strip_most : w.strip ≤ 750
  pub least_most : w.least ≤ 1500
  pub strips : w.strip ≤ w.least
  pub kept : w.least ≤ w.shoulder

pub width_sizes : (n : ℕ) → 1 ≤ n → n ≤ 3 → WidthSizes (widths_at n)
unfolding widths_at widths_table
width_sizes zero h k = absurd (omega arith)
width_sizes (suc zero) h k =
    record {
      half_least = omega arith;
      half_most = omega arith;
      shoulder_most = omega arith;
      strip_most = omega arith;
      least_most = omega arith;
      strips = omega arith;
      kept = omega arith;
    }
width_sizes (suc (suc zero)) h k =
    record {
      half_least = omega arith;
      half_most = omega arith;
      shoulder_most = omega arith;
      strip_most = omega arith;
      least_most = omega arith;
      strips = omega arith;
      kept = omega arith;
    }
width_sizes (suc (suc (suc zero))) h k =
    record {
      half_least = omega arith;
      half_most = omega arith;
      shoulder_most = omega arith;
      strip_most = omega arith;
      least_most = omega arith;
      strips = omega arith;
      kept = omega arith;
    }
width_sizes (suc (suc (suc (suc n)))) h k = absurd (omega arith)
