-- Document 02, Slip 7: the widths of the handbook's method, by category.
-- Assumes nothing.
use Rattle.std.specs.Prelude.{◌≡◌, true, List, [], ◌∷◌, ℕ, zero, suc, get_or}
use Rattle.card.specs.Words.{outside}

-- half carriageway, shoulder with its strip, and the strip alone, in mm; and the least that widening leaves of the inner shoulder with its strip
pub record Widths : Type 0 where
  pub half : ℕ
  pub shoulder : ℕ
  pub strip : ℕ
  pub least : ℕ

abbrev pub widths : ℕ → ℕ → ℕ → ℕ → Widths
widths half shoulder strip least = record { half = half; shoulder = shoulder; strip = strip; least = least }

-- "3500, 3000, 750 (II), 3500, 2500, 500 (III) and 3000, 2000, 500 (IV)"; "no less than 1500 (II, III) or 1000 (IV)"
unfoldable pub widths_table : List Widths
widths_table =
    widths 3500 3000 750 1500 ∷
    widths 3500 2500 500 1500 ∷
    widths 3000 2000 500 1000 ∷ []

-- the widths of the profiles 1 to 3, which are II, III and IV; the method has no others, and a card with another profile is refused before its
-- widths are looked at
abbrev pub no_widths : Widths
no_widths = widths 0 0 0 0

unfoldable pub widths_at : ℕ → Widths
widths_at zero = no_widths
widths_at (suc n) = get_or widths_table n no_widths

-- THEOREM (proofs/WidthEntries.antt): a number that is not 1 to 3 has widths of nought
abbrev pub NoOtherWidths : Type 0
NoOtherWidths = (n : ℕ) → outside n 1 3 ≡ true → widths_at n ≡ no_widths
