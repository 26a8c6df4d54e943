-- Rounding to whole units: what it means, the division that computes it, and its laws as one statement.
-- Assumes nothing.
use Rattle.std.specs.Prelude.{◌≡◌, ℕ, ◌*◌, ◌/◌, ◌<◌, ℤ, pos, negsuc, ◌+ℤ◌, ◌-ℤ◌, ◌*ℤ◌, ◌≤ℤ◌}
use Rattle.exact.specs.Exact.{Exact, frac, ◌⊕◌, ◌≼◌, ◌≈◌, distance}

-- where a number halfway between two whole counts goes
pub data Tie : Type 0 where
  lower : Tie
  higher : Tie

-- n units of u each
abbrev pub units : ℕ → ℤ → Exact
units u n = record { num = n *ℤ pos u; den = 1 }

-- of two counts that are equally near, the rule takes n and not k
abbrev pub Prefers : Tie → ℤ → ℤ → Type 0
Prefers lower n k = n ≤ℤ k
Prefers higher n k = k ≤ℤ n

-- n units of u are nearest to x: no other count is nearer, and of two that are equally near the rule takes n
pub record Nearest (tie : Tie) (u : ℕ) (x : Exact) (n : ℤ) : Type 0 where
  pub nearest : (k : ℤ) → distance x (units u n) ≼ distance x (units u k)
  pub halfway : (k : ℤ) → distance x (units u n) ≈ distance x (units u k) → Prefers tie n k

-- ---- the division that computes it
-- a / m rounded down, for m above 0; below nought too: −1 − a is divided there
abbrev pub floor_div : ℤ → ℕ → ℤ
floor_div (pos a) m = pos (a / m)
floor_div (negsuc a) m = negsuc (a / m)

-- what the rule takes off the numerator: 1 where halfway goes to the lower
abbrev pub taken : Tie → ℕ
taken lower = 1
taken higher = 0

-- x in units of u, rounded: (2 num + (den u − taken)) / (2 den u), downwards
unfoldable pub rounded : Tie → ℕ → Exact → ℤ
rounded tie u x = floor_div (pos 2 *ℤ x.num +ℤ (pos (x.den * u) -ℤ pos (taken tie))) (2 * (x.den * u))

-- ---- the laws
-- of fractions over a number above 0: the nearest count exists and is unique, keeps the order, does not depend on how the fraction is written,
-- shifts by whole units, and is within half a unit
pub record RoundingLaws (tie : Tie) (u : ℕ) : Type 0 where
  pub exists : (x : Exact) → 0 < x.den → Nearest tie u x (rounded tie u x)
  pub unique : (x : Exact) (n k : ℤ) → Nearest tie u x n → Nearest tie u x k → n ≡ k
  pub monotone : (x y : Exact) → 0 < x.den → 0 < y.den → x ≼ y → rounded tie u x ≤ℤ rounded tie u y
  pub same : (x y : Exact) → 0 < x.den → 0 < y.den → x ≈ y → rounded tie u x ≡ rounded tie u y
  pub shift : (x : Exact) (k : ℤ) → 0 < x.den → rounded tie u (x ⊕ units u k) ≡ rounded tie u x +ℤ k
  pub half : (x : Exact) → 0 < x.den → distance x (units u (rounded tie u x)) ≼ frac u 2

-- THEOREM (proofs/Rounded.antt): so it is with either tie rule and every unit above 0
abbrev pub RoundingTheorem : Type 0
RoundingTheorem = (tie : Tie) (u : ℕ) → 0 < u → RoundingLaws tie u
