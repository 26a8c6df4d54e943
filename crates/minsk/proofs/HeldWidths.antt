-- The table of widths as the code holds it.
-- Assumes nothing.
use mathlib.Core.Path.{◌≡◌, refl}
use mathlib.Core.List.{[], ◌∷◌}
use Prim.Native.Nat.{ℕ, zero, suc, ◌-◌, ◌≤◌}
use native.Mathlib.Omega.{arith}
use lib.ListN.{get_or}
use Rattle.minsk.specs.declared.widths.Widths.{Widths as Held}
use Rattle.minsk.specs.Reckoning.{widths_in}
use Rattle.minsk_section.specs.Widths.{widths_table, widths_at}

abbrev held : ℕ → ℕ → ℕ → ℕ → Held
held half shoulder strip least = record { half = half; shoulder = shoulder; strip = strip; least = least }

-- the profiles are numbered from 1, the places of the table from 0
pub read_widths :
    (n : ℕ) → 1 ≤ n → n ≤ 3 →
    widths_in (get_or (held 3500 3000 750 1500 ∷ held 3500 2500 500 1500 ∷ held 3000 2000 500 1000 ∷ []) (n - 1) (held 0 0 0 0))
    ≡ widths_at n
unfolding widths_table widths_at
read_widths zero h k = absurd (omega arith)
read_widths (suc zero) h k = refl
read_widths (suc (suc zero)) h k = refl
read_widths (suc (suc (suc zero))) h k = refl
read_widths (suc (suc (suc (suc n)))) h k = absurd (omega arith)
