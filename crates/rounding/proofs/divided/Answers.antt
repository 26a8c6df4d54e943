-- `rounding::divided` meets its contract. Each number on the way fits, so it is read back as it is.
-- Assumes nothing.
use mathlib.Core.Path.{◌≡◌, ap, ap₂, ◌∙◌}
use Prim.Native.Nat.{ℕ, ◌*◌, ◌-◌, ◌≤◌, ◌<◌}
use native.Mathlib.Nat.{mul-le-mul, mul-pos}
use native.Mathlib.Omega.{arith}
use borrow.Author.Rules.{rules}
use lib.IntN.{ℤ, pos, ◌+ℤ◌, ◌-ℤ◌}
use mir.Syntax.{w32, w64}
use mir.Val.{SFits, to_z, of_z}
use mir.Facts.{to_z-of_z}
use Rattle.exact.specs.Exact.{Exact}
use Rattle.exact.specs.Rounding.{Tie, floor_div, taken, rounded}
use Rattle.exact.proofs.Integers.{ints, add_parts, sub_parts, abs_parts}
use Rattle.exact.proofs.Machine.{within_sfits, back, fits_as, nat_back}
use Rattle.exact.proofs.Rounded.{rounded_size, taken_most}
use Rattle.rounding.specs.Nearest.{most_over, reach, tie_of}
use Rattle.rounding.proofs.Halves.{rounded_halved}
use Rattle.rounding.proofs.Sizes.{mag_parts}
use Rattle.rounding.proofs.divided.Goals as goal

module _ (s : goal.Start) where
  abbrev n : ℤ
  n = s.args.num

  abbrev size : ℕ
  size = 1000 * s.args.unit

  abbrev part : ℕ
  part = 500 * s.args.unit

  abbrev half : ℕ
  half = s.args.den * part

  abbrev rule : Tie
  rule = tie_of s.args.tie

  size-some : 0 < size
  size-some = omega (arith, s.requires.unit_least)

  part_some : 0 < part
  part_some = omega (arith, s.requires.unit_least)

  part_most : part ≤ 5000
  part_most = omega (arith, s.requires.unit_most)

  over_some : 0 < s.args.den
  over_some = omega (arith, s.requires.near)

  few : half ≤ most_over * 5000
  few = mul-le-mul s.requires.few part_most

  some : 0 < half
  some = mul-pos over_some part_some

  abbrev plain : ℤ
  plain = n +ℤ (pos half -ℤ pos (taken rule))

  lifted_fits : SFits w64 plain
  lifted_fits =
      within_sfits w64 _
      (omega (
        arith,
        ints,
        few,
        some,
        taken_most rule,
        mag_parts n,
        s.requires,
        sub_parts (pos half) (pos (taken rule)),
        add_parts n (pos half -ℤ pos (taken rule)),
      ))

  abbrev x : Exact
  x = record { num = n; den = s.args.den }

  fits : SFits w32 (rounded rule size x)
  fits =
      within_sfits w32 _
      (omega (
        arith,
        abs_parts (rounded rule size x),
        rounded_size rule size-some x over_some reach (omega (arith, s.requires.near, mag_parts n, abs_parts n)),
      ))

-- what the rule takes off
module _ (c : goal.After-taken_off-off) where
  abbrev off : ℕ
  off = c.taken_off-off.result

  off_is : off ≡ taken (rule c.before)
  off_is = c.taken_off-off.ensures

  rest-is : to_z w64 (half c.before - off) ≡ pos (half c.before) -ℤ pos (taken (rule c.before))
  rest-is =
      nat_back w64 (half c.before - off) (omega (arith, few c.before))
      ∙ omega (arith, ints, off_is, some c.before, taken_most (rule c.before), sub_parts (pos (half c.before)) (pos (taken (rule c.before))))

  lifted_is : to_z w64 (of_z w64 (n c.before)) +ℤ to_z w64 (half c.before - off) ≡ plain c.before
  lifted_is = ap₂ ◌+ℤ◌ (to_z-of_z c.ranges.num) rest-is

result-is : (c : goal.After-divided_down-count) → to_z w64 (of_z w64 c.divided_down-count.result) ≡ rounded (rule c.before.before) (size c.before.before) (x c.before.before)
result-is c =
    let s = c.before.before in
    to_z-of_z {w = w64} (record { sfits = c.divided_down-count.type_inv })
    ∙ c.divided_down-count.ensures
    ∙ ap (λ (z : ℤ). floor_div z (2 * half s)) (back (lifted_is c.before) (lifted_fits s))
    ∙ rounded_halved (rule s) (n s) s.args.den s.args.unit (some s)

pub overflow_mul-part : goal.overflow_mul-part
overflow_mul-part c = search rules

pub overflow_mul-half : goal.overflow_mul-half
overflow_mul-half c = record { fits = omega (arith, few c) }

pub taken_off-off-requires : goal.taken_off-off-requires
taken_off-off-requires c = search rules

pub overflow_sub-rest : goal.overflow_sub-rest
overflow_sub-rest c = omega (arith, off_is c, some c.before, taken_most (rule c.before))

pub overflow_cast-rest : goal.overflow_cast-rest
overflow_cast-rest c = record { sfits = omega (arith, few c.before) }

pub overflow_add-lifted : goal.overflow_add-lifted
overflow_add-lifted c = fits_as (lifted_is c) (lifted_fits c.before)

pub overflow_mul-whole : goal.overflow_mul-whole
overflow_mul-whole c = record { fits = omega (arith, few c.before) }

pub divided_down-count-requires : goal.divided_down-count-requires
divided_down-count-requires c = (omega (arith, some c.before), omega (arith, few c.before))

pub overflow_cast-result : goal.overflow_cast-result
overflow_cast-result c = fits_as (result-is c) (fits c.before.before)

pub returns : goal.returns
returns c = back (result-is c) (fits c.before.before)
