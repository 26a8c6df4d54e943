-- A row, and the two heights of a side, are equal where their numbers are.
-- Assumes nothing.
use mathlib.Core.Path.{◌≡◌}
use lib.IntN.{ℤ}
use Rattle.runoff.specs.declared.rows.Sides.{Sides}
use Rattle.runoff.specs.declared.rows.Row.{Row}

pub same_sides : {a a' b b' : ℤ} → a ≡ a' → b ≡ b' → ◌≡◌ {A = Sides} (record { brow = a; edge = b }) (record { brow = a'; edge = b' })
same_sides p q = λ i. record { brow = p i; edge = q i }

abbrev row_by : ℤ → ℤ → ℤ → ℤ → ℤ → ℤ → ℤ → Row
row_by a b c d e f g = record { station = a; widening = b; inner_brow = c; inner_edge = d; axis = e; outer_edge = f; outer_brow = g }

pub same_row :
    {a a' b b' c c' d d' e e' f f' g g' : ℤ} → a ≡ a' → b ≡ b' → c ≡ c' → d ≡ d' → e ≡ e' → f ≡ f' → g ≡ g' →
    row_by a b c d e f g ≡ row_by a' b' c' d' e' f' g'
same_row p q r s t u v = λ i. row_by (p i) (q i) (r i) (s i) (t i) (u i) (v i)
