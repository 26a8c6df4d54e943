-- Every line is a fraction, and slope, widening and shoulder go as the request words them.
-- Assumes nothing.
use mathlib.Core.Path.{◌≡◌, ap}
use Prim.Native.Nat.{ℕ, suc, ◌+◌, ◌*◌, ◌-◌, ◌≤◌, ◌<◌}
use native.Mathlib.Nat.{mul-le-mul_left, mul-le-mul_right}
use native.Mathlib.Decide.{dec_le}
use native.Mathlib.Omega.{arith}
use Rattle.exact.specs.Exact.{Exact, whole, minus, ◌≼◌, ◌≈◌}
use Rattle.exact.specs.Parts.{Is}
use Rattle.exact.proofs.Order.{above}
use Rattle.exact.proofs.Is.{is_frac, is_one, is_minus, is_sub, is_lt, is_eq, is_le, le_is, station_is}
use Rattle.exact.proofs.Pieces.{piece_exactly}
use Rattle.minsk_section.specs.Lines.{Section, On, stage_start, stage_end, outer_slope, wide_start, wide_end, widening, inner_shoulder, outer_edge, Premises}
use Rattle.minsk_section.specs.Turning.{TurnsTheorem}
use Rattle.minsk_section.proofs.Slopes.{first_slope_lem, second_slope_lem}
use Rattle.minsk_section.proofs.Widenings.{wide_start_is, growing_is, none_is, grows_is, full_is}
use Rattle.minsk_section.proofs.Heights.{outer_edge_lem, inner_shoulder_lem}
use Rattle.minsk_section.proofs.EdgePieces.{on_whole, N, D, w, stage, run, stage_start_is, stage_end_is, start_on, end_on, slope_crowned, slope_second, first_piece, on_first}
use Rattle.minsk_section.proofs.Proper.{G, growth, widening_at, proper}

module _ {x : Section} (ok : Premises x) where
  level : (s : Exact) → On x s → s ≼ stage_start x → outer_edge x s ≈ minus (x.h * 20)
  level s on h = is_eq (outer_edge_lem x s (slope_crowned ok on h)) (is_minus (x.h * 20) 1 (omega arith)) (omega arith)

  ends : outer_slope x (whole x.L) ≈ whole x.v
  ends =
      let gain : 20 + w x ≡ x.v = omega (arith, ok.turned) in
      let far : 2000 * x.L - N x * 1 ≡ D x = omega arith in
      let past : stage_end x ≼ whole x.L = is_le (stage_end_is ok) (is_one x.L) (omega (arith, run ok)) in
      is_eq (rw far at (slope_second ok (on_whole x x.L (omega arith)) past)) (is_one x.v) (omega (arith, ap (λ (k : ℕ). k * D x) gain))

  -- at L the widening is whole: it ends no later, where it is above 0
  widened_end : widening x (whole x.L) ≈ whole x.W
  widened_end = go (dec_le (500 * x.L) (G ok * 1)) (dec_le (500 * x.L) (N x * 1)) (dec_le x.W 0)
    where
      never : ⊥ → widening x (whole x.L) ≈ whole x.W
      never z = absurd z

      inside : 0 < x.W → N x ≤ 500 * x.L
      inside some = omega (arith, mul-le-mul_left x.L (ok.near some))

      go : Dec (500 * x.L ≤ G ok * 1) → Dec (500 * x.L ≤ N x * 1) → Dec (x.W ≤ 0) → widening x (whole x.L) ≈ whole x.W
      go (yes h) _ (yes z) = is_eq (none_is x (growth ok) (is_one x.L) h) (is_one x.W) (omega arith)
      go (yes h) _ (no z) = never (omega (arith, inside (omega arith), ok.room, ok.wide))
      go (no h) (yes k) (yes z) =
          let none : x.W ≡ 0 = omega arith in
          let n = 500 * x.L - G ok * 1 - 1 in
          is_eq (grows_is x (growth ok) (is_one x.L) n (omega arith) (omega (arith, (growth ok).way))) (is_one x.W)
          (omega (arith, ap (λ (i : ℕ). i * suc n) none, none))
      go (no h) (yes k) (no z) =
          let all : 500 * x.L ≡ N x = omega (arith, inside (omega arith)) in
          is_eq (grows_is x (growth ok) (is_one x.L) 9999999 (omega (arith, (growth ok).way)) (omega arith)) (is_one x.W) (omega arith)
      go (no h) (no k) _ = is_eq (full_is x (growth ok) (is_one x.L) (omega arith)) (is_one x.W) (omega arith)

  -- where there is a widening, it grows between stations
  wide_start_on : 0 < x.W → On x (wide_start x)
  wide_start_on some =
      record {
        fraction = omega arith;
        from = is_le (is_one 0) (wide_start_is x (growth ok)) (omega arith);
        to = is_le (wide_start_is x (growth ok)) (is_one x.L) (omega (arith, mul-le-mul_left x.L (ok.near some)));
      }

  wide_end_on : 0 < x.W → On x (wide_end x)
  wide_end_on some =
      record {
        fraction = omega arith;
        from = is_le (is_one 0) (growth ok).end (omega arith);
        to = is_le (growth ok).end (is_one x.L) (omega (arith, mul-le-mul_left x.L (ok.near some)));
      }

  -- there is none up to its start, and all of it from its end on
  module _ (s : Exact) (on : On x s) where
    here : Is s (above s) 0 s.den
    here = station_is on.fraction on.from

    unwidened : s ≼ wide_start x → widening x s ≈ whole 0
    unwidened h =
        is_eq (none_is x (growth ok) here (omega (arith, le_is here (wide_start_is x (growth ok)) h))) (is_one 0) (omega arith)

    stays : wide_end x ≼ s → widening x s ≈ whole x.W
    stays h = go (dec_le (500 * above s) (N x * s.den))
      where
        way : N x * s.den ≡ G ok * s.den + 10000000 * s.den
        way = omega (arith, ap (λ (k : ℕ). k * s.den) (growth ok).way)

        past : N x * s.den ≤ 500 * above s
        past = omega (arith, le_is (growth ok).end here h)

        n : ℕ
        n = 10000000 * s.den - 1

        n_is : suc n ≡ 10000000 * s.den
        n_is = omega (arith, on.fraction)

        go : Dec (500 * above s ≤ N x * s.den) → widening x s ≈ whole x.W
        go (yes k) =
            is_eq (grows_is x (growth ok) here n (omega (arith, way, past, k, n_is)) (omega (arith, n_is))) (is_one x.W)
            (omega (arith, ap (λ (i : ℕ). x.W * i) n_is))
        go (no k) = is_eq (full_is x (growth ok) here (omega arith)) (is_one x.W) (omega arith)

  -- at 0 nothing is widened
  shoulder_starts : inner_shoulder x (whole 0) ≈ whole x.c
  shoulder_starts =
      is_eq (inner_shoulder_lem x (whole 0) (none_is x (growth ok) (is_one 0) (omega arith))) (is_one x.c) (omega (arith, ok.kept))

  -- the shoulder at a station, beside m and c
  module _ (s : Exact) (on : On x s) where
    shoulder_least : whole x.m ≼ inner_shoulder x s
    shoulder_least = is_le (is_one x.m) (inner_shoulder_lem x s (widening_at ok on).is) (omega arith)

    shoulder_most : inner_shoulder x s ≼ whole x.c
    shoulder_most =
        let g = widening_at ok on in
        is_le (inner_shoulder_lem x s g.is) (is_one x.c) (omega (arith, mul-le-mul_right g.q ok.kept))

pub turns : TurnsTheorem
turns x ok =
    record {
      fractions = λ s on. proper ok on;
      start_on = start_on ok;
      end_on = end_on ok;
      in_order = is_lt (stage_start_is ok) (stage_end_is ok) (omega (arith, ok.room, ok.wide));
      stage_length = is_eq (is_sub (stage_end_is ok) (stage_start_is ok)) (is_frac (2 * x.h * 20) 5 (omega arith)) (omega (arith, ok.room));
      at_start = is_eq (first_slope_lem x (stage ok) (stage_start_is ok) 0 (omega arith)) (is_minus 20 1 (omega arith)) (omega arith);
      at_end =
          is_eq (first_slope_lem x (stage ok) (stage_end_is ok) (8 * (x.h * (2000 * 2000))) (omega (arith, ok.room))) (is_one 20) (omega arith);
      goes_on =
          is_eq (second_slope_lem x (stage ok) (stage_end_is ok) (D x) 0 (w x) (omega (arith, run ok)) (omega (arith, run ok)) (omega arith) (omega (arith, ok.turned)))
          (is_one 20) (omega arith);
      ends = ends ok;
      first_stage = λ s t a b h k i j. piece_exactly 5 {p = first_piece x} (omega arith) (on_first ok a h i) (on_first ok b k j);
      crowned = λ s on h. is_eq (slope_crowned ok on h) (is_minus 20 1 (omega arith)) (omega arith);
      level = level ok;
      widens_later = is_lt (stage_end_is ok) (wide_start_is x (growth ok)) (omega (arith, ok.room, ok.wide));
      none_yet = is_eq (growing_is x (growth ok) (wide_start_is x (growth ok)) 0 (omega arith)) (is_one 0) (omega arith);
      all_there =
          is_eq (growing_is x (growth ok) (growth ok).end (20000 * (500 * 500)) (omega (arith, (growth ok).way))) (is_one x.W) (omega arith);
      widened = widened_end ok;
      widening_length = is_eq (is_sub (growth ok).end (wide_start_is x (growth ok))) (is_one 20000) (omega (arith, (growth ok).way));
      wide_start_on = wide_start_on ok;
      wide_end_on = wide_end_on ok;
      unwidened = unwidened ok;
      stays = stays ok;
      shoulder_starts = shoulder_starts ok;
      shoulder_least = shoulder_least ok;
      shoulder_most = shoulder_most ok;
    }
