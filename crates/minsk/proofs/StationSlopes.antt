-- The slopes and the widening at a whole station as the code reckons them, with the bounds of the products that they go into.
-- Assumes nothing.
use mathlib.Core.Path.{◌≡◌, refl, ap, ◌∙◌}
use Prim.Native.Nat.{ℕ, suc, ◌+◌, ◌*◌, ◌-◌, ◌≤◌, ◌<◌, max, min}
use native.Mathlib.Nat.{mul-le-mul, mul-le-mul_left, mul-le-mul_right, mul-pos}
use native.Mathlib.Decide.{dec_le}
use native.Mathlib.Omega.{arith}
use Rattle.exact.specs.Exact.{whole}
use Rattle.exact.specs.Parts.{Is}
use Rattle.exact.proofs.Ring.{zero_times}
use Rattle.exact.proofs.Is.{is_one, is_as, is_net}
use Rattle.minsk_section.specs.Lines.{Section, widening}
use Rattle.minsk_section.proofs.Slopes.{Stage, crowned_is, first_is, second_is}
use Rattle.minsk_section.proofs.Widenings.{Growth, none_is, grows_is, full_is}
use Rattle.minsk_section.proofs.Heights.{inner_slope_lem, shoulder_slope_lem}
use Rattle.minsk_section.proofs.Proper.{G, growth}
use Rattle.minsk.specs.declared.turning.Slope.{Slope}
use Rattle.minsk.specs.declared.turning.Slopes.{Slopes}
use Rattle.minsk.specs.declared.turning.Station.{Station}
use Rattle.minsk.specs.Reckoning.{section_in, Limits, SlopeIs, SlopesAt, WideIs}

module _ (t : Station) where
  abbrev d : ℕ
  d = t.d

  abbrev z : Limits t.runoff
  z = t.limits

  abbrev x : Section
  x = section_in t.runoff

  abbrev E : ℕ
  E = t.runoff.stage.end

  abbrev P : ℕ
  P = t.runoff.stage.per

  abbrev S : ℕ
  S = E - 8 * (x.h * P)

  stage : Stage x S E P
  stage = record { end = z.stage.is; way = omega (arith, z.stage.room); wide = omega (arith, z.lines.wide) }

  pub lane_few : x.h * P ≤ 3500 * 2000
  lane_few = mul-le-mul z.sizes.half_most z.stage.few

  lane_fewer : 0 < x.W → x.h * P ≤ 3500 * 4
  lane_fewer some = mul-le-mul z.sizes.half_most (z.stage.fewer some)

  pub long_few : P * x.L ≤ 2000 * 300000
  long_few = mul-le-mul z.stage.few z.sizes.clothoid_most

  long_fewer : 0 < x.W → P * x.L ≤ 4 * 300000
  long_fewer some = mul-le-mul (z.stage.fewer some) z.sizes.clothoid_most

  pub far : P * d ≤ P * x.L
  far = mul-le-mul_left P t.within

  pub crowned_slope_lem : P * d ≤ S → SlopeIs x d (record { up = 0; down = 20; over = 1 })
  crowned_slope_lem h =
      record {
        is = crowned_is x stage (is_one d) (omega arith);
        few = omega arith;
        fewer = λ _. omega arith;
        high = omega arith;
        low = omega arith;
      }

  pub first_slope_lem : (n : ℕ) → P * d ≡ S + n → P * d ≤ E → SlopeIs x d (record { up = 5 * n; down = 20 * (x.h * P); over = x.h * P })
  first_slope_lem n h k =
      record {
        is =
            is_as (first_is x stage (is_one d) n (omega arith) (omega (arith, z.stage.room)))
            (mul-pos (omega (arith, z.lines.wide)) z.stage.is.over) (omega arith);
        few = omega (arith, lane_few);
        fewer = λ some. omega (arith, lane_fewer some);
        high = omega (arith, z.stage.room);
        low = omega arith;
      }

  module _ (n : ℕ) (h : P * d ≡ E + n) where
    most : 20 * (P * x.L - E) + (x.v - 20) * n ≤ 60 * (P * x.L - E)
    most =
        let past = mul-le-mul_left {m = n} {n = P * x.L - E} (x.v - 20) (omega (arith, far)) in
        let e : x.v - 20 + 20 ≡ x.v = omega (arith, z.lines.turned) in
        omega (arith, ap (λ (k : ℕ). k * (P * x.L - E)) e, mul-le-mul_right (P * x.L - E) z.sizes.slope_most)

    pub second_slope_lem : SlopeIs x d (record { up = 20 * (P * x.L - E) + (x.v - 20) * n; down = 0; over = P * x.L - E })
    second_slope_lem =
        record {
          is =
              is_as
              (second_is x stage (is_one d) (P * x.L - E) n (x.v - 20) (omega (arith, z.stage.before)) (omega (arith, z.stage.before)) (omega arith) (omega (arith, z.lines.turned)))
              (omega (arith, z.stage.before)) (omega arith);
          few = omega (arith, long_few);
          fewer = λ some. omega (arith, long_fewer some);
          high = most;
          low = omega arith;
        }

-- the slopes that go with the outer one
module _ (x : Section) (d : ℕ) (s : Slope) (f : SlopeIs x d s) where
  abbrev inner : ℕ
  inner = max (20 * s.over) (s.up - s.down)

  abbrev slopes : Slopes
  slopes = record { outer = s; inner = inner; shoulder = max (40 * s.over) inner }

  pub all_slopes : SlopesAt x d slopes
  all_slopes =
      let i = inner_slope_lem x (whole d) f.is in
      record {
        outer_is = f;
        inner_is = i;
        shoulder_is = shoulder_slope_lem x (whole d) i;
        inner_high = omega (arith, f.high);
        shoulder_high = omega (arith, f.high);
      }

-- ---- the widening
as_wide : {x : Section} {d num num' over over' : ℕ} → num ≡ num' → over ≡ over' → WideIs x d num' over' → WideIs x d num over
as_wide p q f = rw (p, q) f

module _ (t : Station) where
  abbrev v : Section
  v = section_in t.runoff

  abbrev start : ℕ
  start = t.runoff.growth.start

  abbrev over : ℕ
  over = t.runoff.growth.over

  abbrev grown : ℕ
  grown = min (t.d - start) 20000

  none_at_all : v.W ≡ 0 → Is (widening v (whole t.d)) 0 0 1
  none_at_all none = go (dec_le (500 * t.d) (G t.limits.lines * 1)) (dec_le (500 * t.d) (v.L * v.R * 1))
    where
      go : Dec (500 * t.d ≤ G t.limits.lines * 1) → Dec (500 * t.d ≤ v.L * v.R * 1) → Is (widening v (whole t.d)) 0 0 1
      go (yes h) _ = none_is v (growth t.limits.lines) (is_one t.d) h
      go (no h) (yes k) =
          let n = 500 * t.d - G t.limits.lines * 1 - 1 in
          is_as (grows_is v (growth t.limits.lines) (is_one t.d) n (omega arith) (omega (arith, (growth t.limits.lines).way))) (omega arith)
          (omega (arith, ap (λ (i : ℕ). i * suc n) none))
      go (no h) (no k) = is_net (full_is v (growth t.limits.lines) (is_one t.d) (omega arith)) (omega arith)

  module _ (some : 0 < v.W) where
    growing : Growth v start (start + 20000) 1
    growing = record { end = t.limits.growth.end some; way = omega arith }

    placed : Dec (t.d ≤ start) → Dec (t.d ≤ start + 20000) → Is (widening v (whole t.d)) (v.W * grown) 0 20000
    placed (yes h) _ =
        let none : grown ≡ 0 = omega arith in
        rw none (is_as (none_is v growing (is_one t.d) (omega arith)) (omega arith) (omega arith))
    placed (no h) (yes k) =
        let n = t.d - start - 1 in
        let e : suc n ≡ grown = omega arith in
        rw e at (grows_is v growing (is_one t.d) n (omega arith) (omega arith))
    placed (no h) (no k) =
        let all : grown ≡ 20000 = omega arith in
        rw all (is_as (full_is v growing (is_one t.d) (omega arith)) (omega arith) (omega arith))

  pub wide_lem : WideIs v t.d (v.W * grown) over
  wide_lem = go (dec_le v.W 0)
    where
      go : Dec (v.W ≤ 0) → WideIs v t.d (v.W * grown) over
      go (yes h) =
          let none : v.W ≡ 0 = omega arith in
          as_wide (ap (λ (n : ℕ). n * grown) none ∙ zero_times grown) (t.limits.growth.none none)
          (record { is = none_at_all none; few = omega arith; one = λ _. omega arith; most = omega arith })
      go (no h) =
          let some : 0 < v.W = omega arith in
          as_wide refl (t.limits.growth.wide some)
          (record {
            is = placed some (dec_le t.d start) (dec_le t.d (start + 20000));
            few = omega arith;
            one = λ e. absurd (omega arith);
            most = mul-le-mul {n₁ = v.W} {m₁ = grown} {n₂ = 3500} {m₂ = 20000} t.limits.sizes.widening_most (omega arith);
          })
