-- One height: within the sizes the difference does not wrap, and what is rounded fits with the axis's count.
-- Assumes nothing.
use mathlib.Core.Path.{◌≡◌, ap, ◌∙◌}
use Prim.Native.Nat.{ℕ}
use native.Mathlib.Omega.{arith}
use lib.IntN.{ℤ, pos, ◌-ℤ◌}
use mir.Syntax.{w64}
use Rattle.std.specs.Int.{int_wrap}
use Rattle.std.proofs.lemmas.Int.{wrapping_sub-bits, int_wrap_fits}
use Rattle.exact.specs.Exact.{ratio}
use Rattle.rounding.specs.Nearest.{Sized, nearest_of}
use Rattle.rounding.proofs.Parts.{parts_back, difference_fits, given_rounded}
use Rattle.card.specs.Rows.{tie, in_units}
use Rattle.heights.specs.Counts.{net, count_of, CountTheorem}

module _ {up down over unit : ℕ} (z : Sized up down over unit) where
  pub net_is : net up down ≡ pos up -ℤ pos down
  unfolding net
  net_is =
      wrapping_sub-bits w64 up down (omega (arith, z)) (omega (arith, z))
      ∙ ap (int_wrap w64) (parts_back z)
      ∙ int_wrap_fits w64 (pos up -ℤ pos down) (difference_fits z)

  pub count_is : count_of up down over unit ≡ in_units unit (ratio up down over)
  unfolding count_of
  count_is = ap (λ (n : ℤ). nearest_of (tie unit) unit n over) net_is ∙ given_rounded z (tie unit)

pub count_lem : CountTheorem
count_lem up down over unit z = count_is z
