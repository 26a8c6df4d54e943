-- A number as counts and a rest: it is one pair only, and the sum of two pairs is the pair of the sum, with counts that are kept in 32 bits.
-- Assumes nothing.
use mathlib.Core.Path.{◌≡◌, refl, sym, ap, ap₂, ◌∙◌}
use mathlib.Core.Bool.{Bool, true, false, cond}
use Prim.Native.Nat.{ℕ, ◌+◌, ◌*◌, ◌-◌, ◌/◌, ◌%◌, ◌^◌, ◌≤◌, ◌<◌}
use native.Mathlib.Nat.{div-add-mod', div-eq_of_lt, mod-eq_of_lt, mod-lt, lt_of_mul-lt-mul_right}
use native.Mathlib.Omega.{arith}
use lib.Dec.{ltb}
use lib.IntN.{ℤ, pos, negsuc, nat_abs, ◌+ℤ◌}
use mir.Syntax.{w32}
use borrow.Author.Tests.{ltb-true, ltb-false, ne_eqb}
use Rattle.std.specs.Int.{cast_signed, int_wrap}
use Rattle.std.proofs.lemmas.Int.{int_wrap_fits}
use Rattle.exact.specs.Parts.{up, dn}
use Rattle.exact.proofs.Integers.{add_parts, sub_parts, parts_eq}
use Rattle.walking.specs.declared.Mixed.{Mixed}
use Rattle.walking.specs.declared.Parts.{Parts}
use Rattle.walking.specs.Mixed.{net, kept_count, mixed, split_of, both, sum}

-- ---- counts in 32 bits
-- what is kept is the count but for whole turns
kept_of : (z : ℤ) → (j k : ℕ) × (kept_count z + j * 2 ^ 32 + dn z ≡ up z + k * 2 ^ 32)
kept_of (pos n) = (n / 2 ^ 32, 0, omega arith)
kept_of (negsuc n) = (0, n / 2 ^ 32 + 1, omega arith)

kept_few : (z : ℤ) → kept_count z < 2 ^ 32
kept_few (pos n) = omega arith
kept_few (negsuc n) = omega arith

pub kept_sum : (x y : ℤ) → (kept_count x + kept_count y) % 2 ^ 32 ≡ kept_count (x +ℤ y)
kept_sum x y = omega (arith, kept_few (x +ℤ y), kept_of x, kept_of y, kept_of (x +ℤ y), add_parts x y)

-- a count that is not too far from nought is read back
pub kept_back : (z : ℤ) → nat_abs z < 2 ^ 31 → cast_signed w32 (kept_count z) ≡ z
unfolding int_wrap
kept_back (pos n) h = int_wrap_fits w32 (pos n) (record { sfits = h })
kept_back (negsuc n) h = int_wrap_fits w32 (negsuc n) (record { sfits = omega arith })

-- ---- one pair only
-- s is (p − q) / m as whole counts and a rest
pub record Splits (m p q : ℕ) (s : Mixed) : Type 0 where
  pub whole : ℤ
  pub eq : up whole * m + s.rest + q ≡ p + dn whole * m
  pub less : s.rest < m
  pub kept : s.count ≡ kept_count whole

pub mixed_splits : (m : ℕ) (z : ℤ) → 1 ≤ m → Splits m (up z) (dn z) (mixed m z)
unfolding mixed
mixed_splits m (pos a) h = record { whole = pos (a / m); eq = omega (arith, div-add-mod' a m); less = mod-lt a h; kept = refl }
mixed_splits m (negsuc a) h =
    record { whole = negsuc (a / m); eq = omega (arith, div-add-mod' a m, mod-lt a h); less = omega arith; kept = refl }

-- what is below the divisor is not divided
pub undivided : (m n : ℕ) → n < m → mixed m (pos n) ≡ record { count = 0; rest = n }
unfolding mixed
undivided m n h = rw (div-eq_of_lt h, mod-eq_of_lt h)

same_mixed : {a b : Mixed} → a.count ≡ b.count → a.rest ≡ b.rest → a ≡ b
same_mixed e f = ap₂ (λ (c r : ℕ). record { count = c; rest = r }) e f

module _ {m p q : ℕ} {a b : Mixed} (f : Splits m p q a) (g : Splits m p q b) where
  not_above : up f.whole + dn g.whole < up g.whole + dn f.whole + 1
  not_above = lt_of_mul-lt-mul_right m (omega (arith, f.eq, g.eq, f.less, g.less))

pub splits_same : {m p q : ℕ} {a b : Mixed} → Splits m p q a → Splits m p q b → a ≡ b
splits_same {m} f g =
    let h₁ = not_above f g in
    let h₂ = not_above g f in
    let whole : f.whole ≡ g.whole = parts_eq f.whole g.whole (omega arith) in
    same_mixed
    (f.kept ∙ ap kept_count whole ∙ sym g.kept)
    (omega (arith, f.eq, g.eq, ap (λ (c : ℤ). up c * m) whole, ap (λ (c : ℤ). dn c * m) whole))

-- the same number by other parts
pub splits_as : {m p q p' q' : ℕ} {s : Mixed} → Splits m p q s → p + q' ≡ p' + q → Splits m p' q' s
splits_as f e = record { whole = f.whole; eq = omega (arith, e, f.eq); less = f.less; kept = f.kept }

-- what code makes of the parts
pub split_is : (z : Parts) (m : ℕ) → 1 ≤ m → split_of z m ≡ mixed m (net z)
unfolding split_of
split_is z m h = ap (λ (t : Bool). cond t (record { count = 0; rest = 0 }) (mixed m (net z))) (ne_eqb m 0 (omega arith))

pub split_splits : (z : Parts) (m : ℕ) → 1 ≤ m → Splits m z.up z.down (split_of z m)
split_splits z m h = rw (split_is z m h) (splits_as (mixed_splits m (net z) h) (omega (arith, sub_parts (pos z.up) (pos z.down))))

-- ---- the sum
module _ {m p q p' q' : ℕ} {a b : Mixed} (room : m ≤ 9223372036854775808) (f : Splits m p q a) (g : Splits m p' q' b) where
  abbrev count : ℕ
  count = (a.count + b.count) % 2 ^ 32

  counts : count ≡ kept_count (f.whole +ℤ g.whole)
  counts = rw (f.kept, g.kept) (kept_sum f.whole g.whole)

  rests : both a b ≡ a.rest + b.rest
  rests = mod-eq_of_lt (omega (arith, room, f.less, g.less))

  none_carried : both a b < m → Splits m (p + p') (q + q') (record { count = count; rest = both a b })
  none_carried h =
      record {
        whole = f.whole +ℤ g.whole;
        eq = omega (arith, rests, f.eq, g.eq, ap (λ (k : ℕ). k * m) (add_parts f.whole g.whole));
        less = h;
        kept = counts;
      }

  one_carried : m ≤ both a b → Splits m (p + p') (q + q') (record { count = (count + 1) % 2 ^ 32; rest = both a b - m })
  one_carried h =
      let two = f.whole +ℤ g.whole in
      record {
        whole = two +ℤ pos 1;
        eq = omega (
          arith,
          rests,
          f.eq,
          g.eq,
          ap (λ (k : ℕ). k * m) (add_parts f.whole g.whole),
          ap (λ (k : ℕ). k * m) (add_parts two (pos 1)),
        );
        less = omega (arith, rests, f.less, g.less);
        kept = ap (λ (k : ℕ). (k + 1) % 2 ^ 32) counts ∙ kept_sum two (pos 1);
      }

  by_test :
      (t : Bool) → ltb (both a b) m ≡ t →
      Splits m (p + p') (q + q') (cond t (record { count = count; rest = both a b }) (record { count = (count + 1) % 2 ^ 32; rest = both a b - m }))
  by_test true e = none_carried (ltb-true _ _ e)
  by_test false e = one_carried (ltb-false _ _ e)

pub sum_splits :
    {m p q p' q' : ℕ} {a b : Mixed} → m ≤ 9223372036854775808 → Splits m p q a → Splits m p' q' b → Splits m (p + p') (q + q') (sum m a b)
unfolding sum
sum_splits room f g = by_test room f g _ refl

-- ---- whole counts
-- n more are added to the count alone
pub raised :
    {m p q : ℕ} {s : Mixed} → Splits m p q s → (n : ℤ) →
    Splits m (p + up n * m) (q + dn n * m) (record { count = (s.count + kept_count n) % 2 ^ 32; rest = s.rest })
raised {m} f n =
    record {
      whole = f.whole +ℤ n;
      eq = omega (arith, f.eq, ap (λ (k : ℕ). k * m) (add_parts f.whole n));
      less = f.less;
      kept = rw f.kept (kept_sum f.whole n);
    }
