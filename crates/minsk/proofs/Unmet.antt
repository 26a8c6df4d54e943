-- This method's conditions in whole numbers: what the tests of 36, 37, 38 and 8 come to, and what holds where they are not met.
-- Assumes nothing.
use mathlib.Core.Path.{◌≡◌, refl, sym, ◌∙◌}
use mathlib.Core.Bool.{Bool, false, not, ◌||◌}
use mathlib.Core.Logic.{◌↔◌}
use mathlib.Mathlib.Data.Bool.Basic.{or-eq-false-eq-eq-false-and-eq-false}
use Prim.Native.Nat.{ℕ, ◌*◌, ◌-◌, ◌/◌, ◌%◌, ◌≤◌, ◌<◌}
use native.Mathlib.Nat.{mul-le-mul_left, div-add-mod'}
use native.Mathlib.Decide.{dec_le}
use native.Mathlib.Omega.{arith}
use lib.Dec.{ltb, eqb}
use borrow.Author.Tests.{ltb-false, lt-ltb, le-ltb, eqb-true, eqb-false, eq-eqb, ne_eqb, not-false}
use Rattle.exact.specs.Exact.{whole, ◌⊖◌, ◌⊗◌}
use Rattle.exact.specs.Parts.{Is}
use Rattle.exact.proofs.Is.{is_frac, is_one, is_as, is_net, is_times, is_less, is_yes, is_no}
use Rattle.card.specs.declared.Card.{Card}
use Rattle.minsk_section.specs.Lines.{Section, stage_end}
use Rattle.minsk.specs.Refusal.{not_for, too_long, not_placed, too_steep}

either : (a b : Bool) → (a || b) ≡ false → (a ≡ false) × (b ≡ false)
either a b e = (or-eq-false-eq-eq-false-and-eq-false a b).0 e

-- ---- 36
pub record For (card : Card) : Type 0 where
  pub slope : card.full_slope ≡ 20 → ⊥
  pub radius : card.radius ≡ 2000 → ⊥
  pub four : card.profile ≡ 4 → ⊥
  pub five : card.profile ≡ 5 → ⊥

pub not_for_lem : (card : Card) → (not_for card ≡ false) ↔ For card
not_for_lem card = (forth, back) where
  forth : not_for card ≡ false → For card
  forth e =
      let a = either (eqb card.full_slope 20) _ e in
      let b = either (eqb card.radius 2000) _ a.1 in
      let c = either (eqb card.profile 4) _ b.1 in
      record { slope = eqb-false _ 20 a.0; radius = eqb-false _ 2000 b.0; four = eqb-false _ 4 c.0; five = eqb-false _ 5 c.1 }

  back : For card → not_for card ≡ false
  back f = rw (ne_eqb _ 20 f.slope, ne_eqb _ 2000 f.radius, ne_eqb _ 4 f.four, ne_eqb _ 5 f.five) refl

-- ---- 37
pub too_long_lem : (x : Section) → too_long x ≡ ltb (x.L * x.R) (16000 * x.h)
unfolding too_long
too_long_lem x = go (dec_le (16000 * x.h) (x.L * x.R))
  where
    go : Dec (16000 * x.h ≤ x.L * x.R) → too_long x ≡ ltb (x.L * x.R) (16000 * x.h)
    go (yes h) = rw (is_yes (is_frac (2 * x.h * 20) 5 (omega arith)) (is_frac (x.L * x.R) 2000 (omega arith)) (omega arith), le-ltb (x.L * x.R) (16000 * x.h) h)
    go (no h) =
        let k : x.L * x.R < 16000 * x.h = omega arith in
        rw (is_no (is_frac (2 * x.h * 20) 5 (omega arith)) (is_frac (x.L * x.R) 2000 (omega arith)) (omega arith), lt-ltb (x.L * x.R) (16000 * x.h) k)

pub not_long : (x : Section) → (too_long x ≡ false) ↔ (16000 * x.h ≤ x.L * x.R)
not_long x = (λ e. ltb-false _ _ (sym (too_long_lem x) ∙ e), λ h. too_long_lem x ∙ le-ltb _ _ h)

-- ---- 38
-- L × R / 500 is whole where nothing is left over
no_rest : (n : ℕ) → n % 500 ≡ 0 → 500 * (n / 500) ≡ n
no_rest n e = omega (arith, div-add-mod' n 500)

rest_none : (n : ℕ) → 500 * (n / 500) ≡ n → n % 500 ≡ 0
rest_none n e = omega (arith, div-add-mod' n 500)

pub record Placed (x : Section) : Type 0 where
  pub near : 0 < x.W → x.R ≤ 500
  pub exactly : 0 < x.W → 500 * (x.L * x.R / 500) ≡ x.L * x.R

pub placed_lem : (x : Section) → (not_placed x ≡ false) ↔ Placed x
placed_lem x = (λ e. record { near = λ some. (forth e some).0; exactly = λ some. (forth e some).1 }, back) where
  forth : not_placed x ≡ false → 0 < x.W → (x.R ≤ 500) × (500 * (x.L * x.R / 500) ≡ x.L * x.R)
  forth e some =
      let both = either (ltb 500 x.R) (not (eqb (x.L * x.R % 500) 0)) (rw (lt-ltb 0 x.W some) at e) in
      (ltb-false 500 x.R both.0, no_rest (x.L * x.R) (eqb-true _ 0 (not-false _ both.1)))

  back : Placed x → not_placed x ≡ false
  back p = go (dec_le x.W 0)
    where
      go : Dec (x.W ≤ 0) → not_placed x ≡ false
      go (yes h) = rw (le-ltb 0 x.W h)
      go (no h) =
          let some : 0 < x.W = omega arith in
          rw (lt-ltb 0 x.W some, le-ltb 500 x.R (p.near some), eq-eqb (x.L * x.R % 500) 0 (rest_none (x.L * x.R) (p.exactly some)))

-- ---- 8
module _ (added : ℕ) (x : Section) (near : x.R ≤ 2000) where
  abbrev climb : ℕ
  climb = x.h * (x.v - 20)

  abbrev allowed : ℕ
  allowed = added * (2000 * x.L - x.L * x.R)

  allowed_is : Is (whole added ⊗ (whole x.L ⊖ stage_end x)) allowed 0 2000
  allowed_is =
      let long : Is (whole x.L) (2000 * x.L) 0 2000 = is_as (is_one x.L) (omega arith) (omega arith) in
      let end : x.L * x.R ≤ 2000 * x.L = omega (arith, mul-le-mul_left x.L near) in
      let run : Is (whole x.L ⊖ stage_end x) (2000 * x.L - x.L * x.R) 0 2000 = is_less end long (is_frac (x.L * x.R) 2000 (omega arith)) in
      is_net (is_times added run) (omega arith)

  pub too_steep_lem : too_steep added x ≡ ltb allowed (2000 * climb)
  unfolding too_steep
  too_steep_lem = go (dec_le (2000 * climb) allowed)
    where
      go : Dec (2000 * climb ≤ allowed) → too_steep added x ≡ ltb allowed (2000 * climb)
      go (yes h) = rw (is_yes (is_one climb) allowed_is (omega arith), le-ltb allowed (2000 * climb) h)
      go (no h) =
          let k : allowed < 2000 * climb = omega arith in
          rw (is_no (is_one climb) allowed_is (omega arith), lt-ltb allowed (2000 * climb) k)

  pub not_steep : (too_steep added x ≡ false) ↔ (2000 * climb ≤ allowed)
  not_steep = (λ e. ltb-false _ _ (sym too_steep_lem ∙ e), λ h. too_steep_lem ∙ le-ltb _ _ h)
