-- The outer edge of a runoff is made of straight pieces.
-- Assumes nothing.
use mathlib.Core.Path.{◌≡◌, refl, ap}
use Prim.Native.Nat.{ℕ, ◌+◌, ◌*◌, ◌-◌, ◌≤◌, ◌<◌}
use native.Mathlib.Nat.{mul-pos, mul-le-mul_left}
use native.Mathlib.Decide.{dec_le}
use native.Mathlib.Omega.{arith}
use Rattle.exact.specs.Exact.{Exact, whole, ◌≼◌}
use Rattle.exact.specs.Parts.{Is}
use Rattle.exact.proofs.Ring.{ring}
use Rattle.exact.proofs.Order.{above}
use Rattle.exact.proofs.Is.{is_one, is_as, is_net, is_le, le_is, station_is, whole_le}
use Rattle.exact.proofs.Pieces.{Piece, OnPiece}
use Rattle.section.specs.Lines.{Section, On, joint, joint_num, outer_edge}
use Rattle.section.proofs.Slopes.{joint_is, even_is, first-is, second_is}
use Rattle.section.proofs.Heights.{outer_edge_lem}

pub on_whole : (x : Section) (d : ℕ) → d ≤ x.L → On x (whole d)
on_whole x d h = record { fraction = omega arith; from = whole_le 0 d (omega arith); to = whole_le d x.L h }

-- ---- the pieces
module _ (x : Section) where
  -- even: c q at 0, and h (p + v) more at L
  abbrev pub even_piece : Piece
  even_piece = record { α = x.c * x.q * x.L; δ = 0; β = x.h * (x.p + x.v); γ = x.L }

  -- two-stage, up to the joint: c q at 0, and 3 more for each mm
  abbrev pub first_piece : Piece
  first_piece = record { α = x.c * x.q; δ = 0; β = 3; γ = 1 }

  -- what is left past the joint, in thirds of a mm, and what the slope gains there
  abbrev pub rest : ℕ
  rest = 3 * x.L - joint_num x

  abbrev pub gain : ℕ
  gain = x.v - x.p

  -- two-stage, from the joint on: c q + 2 h p there, and h times the gain more at L
  abbrev pub second_piece : Piece
  second_piece = record { α = (x.c * x.q + joint_num x) * rest; δ = x.h * gain * joint_num x; β = 3 * (x.h * gain); γ = rest }

-- with plain numbers: the two stages where they meet, at 3 a = J b
meet :
    (cq hd J E a b : ℕ) → 3 * a ≡ J * b →
    (cq * b + 3 * a) * (E * b) + hd * J * b * (1 * b) ≡ ((cq + J) * E * b + 3 * hd * a) * (1 * b) + 0 * b * (E * b)
meet cq hd J E a b f =
    simp ring (omega (arith, simp ring at (ap (λ (n : ℕ). n * (E * b)) f), simp ring at (ap (λ (n : ℕ). n * (hd * b)) f)))

-- the same: the second stage, k past the joint
beyond :
    (cq h p d J E a b k : ℕ) → J ≡ 2 * h * p → k + J * b ≡ 3 * a →
    (cq + h * p) * (E * b) + h * (p * (E * b) + d * k) + h * d * J * b ≡ (cq + J) * E * b + 3 * (h * d) * a + h * 0
beyond cq h p d J E a b k j f =
    simp ring (omega (arith, simp ring at (ap (λ (n : ℕ). n * (E * b)) j), simp ring at (ap (λ (n : ℕ). h * d * n) f)))

-- ---- the outer edge is on them
module _ {x : Section} {s : Exact} (on : On x s) where
  at : Is s (above s) 0 s.den
  at = station_is on.fraction on.from

  pub on_even : 0 < x.L → 3 * x.L ≤ x.h * (x.p + x.v) → OnPiece (even_piece x) s (outer_edge x s)
  on_even l t = record { a = above s; b = s.den; at = at; is = is_net (outer_edge_lem x s (even_is x at l t)) (omega arith) }

-- in the two-stage case the joint is before L
pub joint_before : (x : Section) → x.h * (x.p + x.v) < 3 * x.L → x.p ≤ x.v → joint_num x < 3 * x.L
joint_before x two turned = omega (arith, mul-le-mul_left x.h turned)

module _ {x : Section} (two : x.h * (x.p + x.v) < 3 * x.L) where
  pub joint_on : x.p ≤ x.v → On x (joint x)
  joint_on turned =
      record {
        fraction = omega arith;
        from = is_le (is_one 0) (joint_is x) (omega arith);
        to = is_le (joint_is x) (is_one x.L) (omega (arith, joint_before x two turned));
      }

  module _ {s : Exact} (on : On x s) (wide : 0 < x.h) where
    first_piece_lem : 3 * above s ≤ joint_num x * s.den → Is (outer_edge x s) (x.c * x.q * s.den + 3 * above s) (0 * s.den) (1 * s.den)
    first_piece_lem j = is_as (outer_edge_lem x s (first-is x (at on) two wide j)) (omega (arith, on.fraction)) (simp ring (omega arith))

    pub on_first : s ≼ joint x → OnPiece (first_piece x) s (outer_edge x s)
    on_first i = record { a = above s; b = s.den; at = at on; is = first_piece_lem (omega (arith, le_is (at on) (joint_is x) i)) }

    -- at the joint itself the first stage's height is on this piece too
    pub on_second : x.p ≤ x.v → joint x ≼ s → OnPiece (second_piece x) s (outer_edge x s)
    on_second turned i = record { a = above s; b = s.den; at = at on; is = go (dec_le (3 * above s) (joint_num x * s.den)) }
      where
        left : 0 < rest x
        left = omega (arith, joint_before x two turned)

        past : joint_num x * s.den ≤ 3 * above s
        past = omega (arith, le_is (joint_is x) (at on) i)

        go :
            Dec (3 * above s ≤ joint_num x * s.den) →
            Is (outer_edge x s) ((second_piece x).α * s.den + (second_piece x).β * above s) ((second_piece x).δ * s.den) ((second_piece x).γ * s.den)
        go (yes k) =
            is_as (first_piece_lem k) (mul-pos left on.fraction) (meet (x.c * x.q) (x.h * gain x) (joint_num x) (rest x) (above s) s.den (omega (arith, past)))
        go (no k) =
            is_net (outer_edge_lem x s (second_is x (at on) two turned (joint_before x two turned) (omega arith)))
            (beyond (x.c * x.q) x.h x.p (gain x) (joint_num x) (rest x) (above s) s.den (3 * above s - joint_num x * s.den) refl (omega (arith, past)))
