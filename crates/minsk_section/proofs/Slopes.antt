-- The outer slope at the station a/b in each stage, over one denominator; the first stage starts at S/P and ends at (S + 8 h P)/P.
-- Assumes nothing.
use mathlib.Core.Path.{◌≡◌, ap}
use Prim.Native.Nat.{ℕ, zero, suc, ◌+◌, ◌*◌, ◌≤◌, ◌<◌}
use native.Mathlib.Nat.{mul-pos}
use native.Mathlib.Omega.{arith}
use Rattle.exact.specs.Exact.{Exact, whole, ◌⊖◌}
use Rattle.exact.specs.Parts.{Is}
use Rattle.exact.proofs.Is.{is_frac, is_whole, is_minus, is_one, is_as, is_net, is_add, is_sub, is_mul, is_div, is_times, is_over, is_past, is_yes, is_no}
use Rattle.minsk_section.specs.Lines.{Section, crown, stage_start, stage_end, first_length, first_slope, second_slope, outer_slope}

-- the first stage's numbers: its start S/P, its end E/P
pub record Stage (x : Section) (S E P : ℕ) : Type 0 where
  pub end : Is (stage_end x) E 0 P
  pub way : E ≡ S + 8 * (x.h * P)
  pub wide : 0 < x.h

module _ (x : Section) {S E P : ℕ} (g : Stage x S E P) where
  pub start_is : Is (stage_start x) S 0 P
  start_is =
      let long : Is (first_length x) (8 * (x.h * P)) 0 P = is_as (is_frac (2 * x.h * crown) 5 (omega arith)) g.end.over (omega arith) in
      is_net (is_sub g.end long) (omega (arith, g.way))

module _ (x : Section) {S E P : ℕ} (g : Stage x S E P) {s : Exact} {a b : ℕ} (at : Is s a 0 b) where
  some : 0 < P * b
  some = mul-pos g.end.over at.over

  pub first_slope_lem : (n : ℕ) → P * a ≡ S * b + n → Is (first_slope x s) (5 * n) (20 * (x.h * (P * b))) (x.h * (P * b))
  first_slope_lem n e =
      is_net
      (is_add (is_minus crown (x.h * (P * b)) (mul-pos g.wide some)) (is_over x.h g.wide (is_times 5 (is_past at (start_is x g) n e))))
      (omega arith)

  -- the slope gains w from the stage's end to L, which is D/P farther
  pub second_slope_lem :
      (D n w : ℕ) → P * x.L ≡ E * 1 + D → 0 < D → P * a ≡ E * b + n → x.v ≡ crown + w →
      Is (second_slope x s) (20 * (D * b) + w * n) 0 (D * b)
  second_slope_lem D n w l dp e t =
      let k : 0 < D * b = mul-pos dp at.over in
      let turn : Is (whole x.v ⊖ whole crown) w 0 1 = is_net (is_sub (is_one x.v) (is_one crown)) (omega arith) in
      is_net
      (is_add (is_whole crown (D * b) k)
      (is_as {a' = w * n} {b' = 0} (is_div (is_mul turn (is_past at g.end n e)) (is_past (is_one x.L) g.end D l) dp) k (omega arith)))
      (omega arith)

  -- before the first stage, its start included
  pub crowned_is : P * a ≤ S * b → Is (outer_slope x s) 0 20 1
  unfolding outer_slope
  crowned_is h = rw (is_yes at (start_is x g) (omega arith)) (is_net (is_minus crown 1 (omega arith)) (omega arith))

  -- in it, both ends included
  pub first_is : (n : ℕ) → P * a ≡ S * b + n → n ≤ 8 * (x.h * (P * b)) → Is (outer_slope x s) (5 * n) (20 * (x.h * (P * b))) (x.h * (P * b))
  unfolding outer_slope
  first_is zero e h = is_as (crowned_is (omega arith)) (mul-pos g.wide some) (omega arith)
  first_is (suc n) e h =
      rw (is_no at (start_is x g) (omega arith), is_yes at g.end (omega (arith, ap (λ (k : ℕ). k * b) g.way))) (first_slope_lem (suc n) e)

  -- and from its end on
  pub second_is :
      (D n w : ℕ) → P * x.L ≡ E * 1 + D → 0 < D → P * a ≡ E * b + n → x.v ≡ crown + w →
      Is (outer_slope x s) (20 * (D * b) + w * n) 0 (D * b)
  unfolding outer_slope
  second_is D zero w l dp e t =
      let m : P * a ≡ S * b + 8 * (x.h * (P * b)) = omega (arith, ap (λ (k : ℕ). k * b) g.way) in
      is_as (first_is (8 * (x.h * (P * b))) m (omega arith)) (mul-pos dp at.over) (omega arith)
  second_is D (suc n) w l dp e t =
      rw (is_no at (start_is x g) (omega (arith, ap (λ (k : ℕ). k * b) g.way)), is_no at g.end (omega arith)) (second_slope_lem D (suc n) w l dp e t)
