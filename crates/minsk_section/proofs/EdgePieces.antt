-- The outer edge of the handbook's runoff: level, then two straight pieces that climb.
-- Assumes nothing.
use mathlib.Core.Path.{◌≡◌, ap}
use Prim.Native.Nat.{ℕ, ◌+◌, ◌*◌, ◌-◌, ◌≤◌, ◌<◌}
use native.Mathlib.Nat.{mul-pos, mul-lt-mul_of_pos_left}
use native.Mathlib.Omega.{arith}
use Rattle.exact.specs.Exact.{Exact, whole, ◌≼◌}
use Rattle.exact.specs.Parts.{Is}
use Rattle.exact.proofs.Order.{above, ≼_refl, le_in, le_out}
use Rattle.exact.proofs.Is.{is_frac, is_one, is_as, is_net, is_le, le_is, station_is, whole_le}
use Rattle.exact.proofs.Pieces.{Piece, Gently, OnPiece, Glued}
use Rattle.minsk_section.specs.Lines.{Section, On, stage_start, stage_end, outer_slope, outer_edge, Premises, Gentle}
use Rattle.minsk_section.specs.Climbing.{Staged}
use Rattle.minsk_section.proofs.Slopes.{Stage, start_is, crowned_is, first_is, second_is}
use Rattle.minsk_section.proofs.Heights.{outer_edge_lem}

pub on_whole : (x : Section) (d : ℕ) → d ≤ x.L → On x (whole d)
on_whole x d h = record { fraction = omega arith; from = whole_le 0 d (omega arith); to = whole_le d x.L h }

-- what the climbing rule speaks of is past the first stage's start
staged_past : {x : Section} {s : Exact} → Staged x s → stage_start x ≼ s
staged_past a = le_in (omega (arith, le_out a.past))

module _ (x : Section) where
  -- L × R, the stage's start over 2000, and what is left of the clothoid past its end over 2000
  abbrev pub N : ℕ
  N = x.L * x.R

  abbrev pub S : ℕ
  S = N - 16000 * x.h

  abbrev pub D : ℕ
  D = 2000 * x.L - N

  -- what the slope gains past the stage's end
  abbrev pub w : ℕ
  w = x.v - 20

  -- −20 h
  abbrev pub level_piece : Piece
  level_piece = record { α = 0; δ = 20 * x.h; β = 0; γ = 1 }

  -- 20 h + 5 s − L R / 400
  abbrev pub first_piece : Piece
  first_piece = record { α = 8000 * x.h; δ = N; β = 2000; γ = 400 }

  -- 20 h + h w (2000 s − L R) / D
  abbrev pub second_piece : Piece
  second_piece = record { α = 20 * (x.h * D); δ = x.h * w * N; β = 2000 * (x.h * w); γ = D }

-- with plain numbers: n is how far a/b is past the stage's start, or its end
first_parts :
    (h N S a b n : ℕ) → N ≡ S + 16000 * h → 2000 * a ≡ S * b + n →
    h * (5 * n) * (400 * b) + N * b * (h * (2000 * b)) ≡ (8000 * h * b + 2000 * a) * (h * (2000 * b)) + h * (20 * (h * (2000 * b))) * (400 * b)
first_parts h N S a b n e f =
    omega (arith, ap (λ (k : ℕ). k * (h * (2000 * b)) * b) e, ap (λ (k : ℕ). k * (h * (2000 * b))) f)

second_parts :
    (h w D N a b n : ℕ) → 2000 * a ≡ N * b + n →
    h * (20 * (D * b) + w * n) + h * w * N * b ≡ 20 * (h * D) * b + 2000 * (h * w) * a + h * 0
second_parts h w D N a b n f = omega (arith, ap (λ (k : ℕ). k * (h * w)) f)

module _ {x : Section} (ok : Premises x) where
  pub stage : Stage x (S x) (N x) 2000
  stage = record { end = is_frac (N x) 2000 (omega arith); way = omega (arith, ok.room); wide = omega (arith, ok.wide) }

  pub run : N x < 2000 * x.L
  run = omega (arith, mul-lt-mul_of_pos_left ok.curved ok.long)

  pub stage_start_is : Is (stage_start x) (S x) 0 2000
  stage_start_is = start_is x stage

  pub stage_end_is : Is (stage_end x) (N x) 0 2000
  stage_end_is = stage.end

  pub start_on : On x (stage_start x)
  start_on =
      record {
        fraction = stage_start_is.proper;
        from = is_le (is_one 0) stage_start_is (omega arith);
        to = is_le stage_start_is (is_one x.L) (omega (arith, run));
      }

  pub end_on : On x (stage_end x)
  end_on =
      record {
        fraction = omega arith;
        from = is_le (is_one 0) stage_end_is (omega arith);
        to = is_le stage_end_is (is_one x.L) (omega (arith, run));
      }

  pub start_staged : Staged x (stage_start x)
  start_staged = record { on = start_on; past = ≼_refl (stage_start x) }

  pub end_staged : Staged x (stage_end x)
  end_staged = record { on = end_on; past = is_le stage_start_is stage_end_is (omega arith) }

  module _ {s : Exact} (on : On x s) where
    at : Is s (above s) 0 s.den
    at = station_is on.fraction on.from

    pub slope_crowned : s ≼ stage_start x → Is (outer_slope x s) 0 20 1
    slope_crowned h = crowned_is x stage at (omega (arith, le_is at stage_start_is h))

    abbrev pub past_start : ℕ
    past_start = 2000 * above s - S x * s.den

    abbrev pub past_end : ℕ
    past_end = 2000 * above s - N x * s.den

    pub slope_first : stage_start x ≼ s → s ≼ stage_end x → Is (outer_slope x s) (5 * past_start) (20 * (x.h * (2000 * s.den))) (x.h * (2000 * s.den))
    slope_first h k =
        let lo = le_is stage_start_is at h in
        let hi = le_is at stage_end_is k in
        first_is x stage at past_start (omega arith) (omega (arith, ap (λ (k : ℕ). k * s.den) stage.way))

    pub slope_second : stage_end x ≼ s → Is (outer_slope x s) (20 * (D x * s.den) + w x * past_end) 0 (D x * s.den)
    slope_second h =
        let lo = le_is stage_end_is at h in
        second_is x stage at (D x) past_end (w x) (omega (arith, run)) (omega (arith, run)) (omega arith) (omega (arith, ok.turned))

    pub on_level : s ≼ stage_start x → OnPiece (level_piece x) s (outer_edge x s)
    on_level h = record { a = above s; b = s.den; at = at; is = is_as (outer_edge_lem x s (slope_crowned h)) (omega (arith, on.fraction)) (omega arith) }

    pub on_first : stage_start x ≼ s → s ≼ stage_end x → OnPiece (first_piece x) s (outer_edge x s)
    on_first h k =
        let lo = le_is stage_start_is at h in
        record {
          a = above s;
          b = s.den;
          at = at;
          is =
              is_as (outer_edge_lem x s (slope_first h k)) (mul-pos (omega arith) on.fraction)
              (first_parts x.h (N x) (S x) (above s) s.den past_start (omega (arith, ok.room)) (omega arith));
        }

    pub on_second : stage_end x ≼ s → OnPiece (second_piece x) s (outer_edge x s)
    on_second h =
        let lo = le_is stage_end_is at h in
        record {
          a = above s;
          b = s.den;
          at = at;
          is = is_net (outer_edge_lem x s (slope_second h)) (second_parts x.h (w x) (D x) (N x) (above s) s.den past_end (omega arith));
        }

  pub gains : 0 < (second_piece x).β
  gains =
      let some : 0 < x.h = omega (arith, ok.wide) in
      let more : 0 < w x = omega (arith, ok.turned) in
      omega (arith, mul-pos some more)

  pub level_gentle : {added : ℕ} → Gently added (level_piece x)
  level_gentle = record { some = omega arith; gentle = omega arith }

  -- from the first stage on
  pub edge_glued : {added : ℕ} → Gentle added x → Glued added (Staged x) (outer_edge x) (stage_end x) (first_piece x) (second_piece x)
  edge_glued soft =
      record {
        fraction = λ s a. a.on.fraction;
        joint = end_staged;
        first = record { some = omega arith; gentle = omega (arith, soft.steep) };
        second = record { some = omega (arith, run); gentle = soft.gentle };
        before = λ s a h. on_first a.on (staged_past a) h;
        past = λ s a h. on_second a.on h;
      }
