-- Whole numbers and fractions by natural parts, as code that reckons without signs has them.
-- Assumes nothing.
use Rattle.std.specs.Prelude.{◌≡◌, ℕ, suc, ◌+◌, ◌*◌, ◌<◌, ℤ, pos, negsuc}
use Rattle.exact.specs.Exact.{Exact}

-- z is up z − dn z, and one of the two is 0
abbrev pub up : ℤ → ℕ
up (pos n) = n
up (negsuc n) = 0

abbrev pub dn : ℤ → ℕ
dn (pos n) = 0
dn (negsuc n) = suc n

-- x is (a − b)/d, by cross-multiplying, and both denominators are above 0
pub record Is (x : Exact) (a b d : ℕ) : Type 0 where
  pub eq : up x.num * d + b * x.den ≡ a * x.den + dn x.num * d
  pub proper : 0 < x.den
  pub over : 0 < d
