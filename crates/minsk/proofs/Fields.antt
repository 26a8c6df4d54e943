-- A row, and the three heights of a side, are equal where their numbers are.
-- Assumes nothing.
use mathlib.Core.Path.{◌≡◌}
use lib.IntN.{ℤ}
use Rattle.minsk.specs.declared.rows.Sides.{Sides}
use Rattle.minsk.specs.declared.rows.Row.{Row}

pub same_sides :
    {a a' b b' c c' : ℤ} → a ≡ a' → b ≡ b' → c ≡ c' →
    ◌≡◌ {A = Sides} (record { edge = a; strip = b; brow = c }) (record { edge = a'; strip = b'; brow = c' })
same_sides p q r = λ i. record { edge = p i; strip = q i; brow = r i }

abbrev row_by : ℤ → ℤ → ℤ → ℤ → ℤ → ℤ → ℤ → ℤ → ℤ → Row
row_by a b c d e f g h k =
    record {
      station = a;
      widening = b;
      axis = c;
      outer_edge = d;
      outer_strip = e;
      outer_brow = f;
      inner_edge = g;
      inner_strip = h;
      inner_brow = k;
    }

pub same_row :
    {a a' b b' c c' d d' e e' f f' g g' h h' k k' : ℤ} →
    a ≡ a' → b ≡ b' → c ≡ c' → d ≡ d' → e ≡ e' → f ≡ f' → g ≡ g' → h ≡ h' → k ≡ k' →
    row_by a b c d e f g h k ≡ row_by a' b' c' d' e' f' g' h' k'
same_row p q r s t u v w x = λ i. row_by (p i) (q i) (r i) (s i) (t i) (u i) (v i) (w i) (x i)
