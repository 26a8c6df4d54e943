-- The paper's words for comparing whole numbers, as tests.
-- Assumes nothing.
use Rattle.std.specs.Prelude.{Bool, false, not, ◌||◌, List, [], ◌∷◌, ℕ, ltb, eqb, ℤ}
use Rattle.std.specs.Int.Signed.{lt_z}

infix 40 ◌below◌ ◌above◌
abbrev pub ◌below◌ : ℕ → ℕ → Bool
a below b = ltb a b

abbrev pub ◌above◌ : ℕ → ℕ → Bool
a above b = ltb b a

-- n is not from a to b
abbrev pub outside : ℕ → ℕ → ℕ → Bool
outside n a b = n below a || n above b

-- the same of numbers of either sign
abbrev pub beyond : ℤ → ℤ → ℤ → Bool
beyond z a b = lt_z z a || lt_z b z

-- n is neither a nor b
abbrev pub neither : ℕ → ℕ → ℕ → Bool
neither n a b = not (eqb n a || eqb n b)

-- n is one of ns
abbrev pub among : List ℕ → ℕ → Bool
among [] n = false
among (k ∷ ks) n = eqb n k || among ks n
