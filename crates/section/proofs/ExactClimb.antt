-- The climbing rule on exact heights, for an even and for a two-stage runoff.
-- Assumes nothing.
use mathlib.Core.Path.{◌≡◌, ap, subst}
use mathlib.Core.Logic.{◌⊎◌, inl, inr}
use Prim.Native.Nat.{ℕ, ◌+◌, ◌*◌, ◌-◌, ◌≤◌, ◌<◌}
use native.Mathlib.Nat.{mul-pos, mul-le-mul}
use native.Mathlib.Decide.{ℕ_discrete}
use native.Mathlib.Omega.{arith}
use Rattle.exact.specs.Exact.{Exact, whole, ◌≼◌, ◌≺◌, ◌≈◌}
use Rattle.exact.proofs.Ring.{times_zero}
use Rattle.exact.proofs.Order.{≼_trans, ≼-antisym, ≺→≼, clash, ask}
use Rattle.exact.proofs.Climb.{Climb}
use Rattle.exact.proofs.Pieces.{Piece, Gently, only_same, Glued, glued_proper, glued_climbs, glued_higher_before, glued_higher, glued_gentle, glued_level, glued_same}
use Rattle.section.specs.Lines.{Section, On, joint, outer_edge, first_reached}
use Rattle.section.specs.Climbing.{Level, Climbs, ClimbPremises, ClimbsTheorem}
use Rattle.section.proofs.Slopes.{is_even_lem, not_even, even?}
use Rattle.section.proofs.EdgePieces.{on_whole, even_piece, first_piece, rest, gain, second_piece, on_even, joint_on, on_first, on_second}

reached_even : (x : Section) → 3 * x.L ≤ x.h * (x.p + x.v) → first_reached x ≡ whole x.L
unfolding first_reached
reached_even x e = rw (is_even_lem x e)

reached_two : (x : Section) → x.h * (x.p + x.v) < 3 * x.L → first_reached x ≡ joint x
unfolding first_reached
reached_two x e = rw (not_even x e)

-- with plain numbers: past the joint the edge climbs at less than 3‰
slower : (h p v d L : ℕ) → v ≡ p + d → h * (p + v) < 3 * L → h * d < 3 * L - 2 * h * p
slower h p v d L e two = omega (arith, ap (λ (n : ℕ). h * n) e)

-- what is to be shown of a runoff of either kind: two pieces, which meet where the full slope is first reached
record Rule (added : ℕ) (x : Section) : Type 0 where
  p : Piece
  q : Piece
  glued : Glued added (On x) (outer_edge x) (first_reached x) p q
  strict : (s t : Exact) → On x s → On x t → s ≺ t → ¬ Level x s t → outer_edge x s ≺ outer_edge x t
  level : (s t : Exact) → On x s → On x t → Level x s t → outer_edge x s ≼ outer_edge x t

module _ {added : ℕ} {x : Section} (ok : ClimbPremises added x) where
  -- even: one piece, which stands for both
  even_rule : 3 * x.L ≤ x.h * (x.p + x.v) → Rule added x
  even_rule e =
      record {
        p = even_piece x;
        q = even_piece x;
        glued = glued;
        strict = λ s t a b h _. glued_higher glued s t a b climbs climbs h;
        level = λ s t a b l. (glued_climbs glued s t a b (≼_trans (omega arith) a.to (subst (λ (r : Exact). r ≼ t) (reached_even x e) l.second))).rises;
      }
    where
      gentle : Gently added (even_piece x)
      gentle = record { some = ok.long; gentle = ok.gentle }

      glued : Glued added (On x) (outer_edge x) (first_reached x) (even_piece x) (even_piece x)
      glued =
          rw (reached_even x e)
          (record {
            fraction = λ s a. a.fraction;
            joint = on_whole x x.L (omega arith);
            first = gentle;
            second = gentle;
            before = λ s a _. on_even a ok.long e;
            past = λ s a _. on_even a ok.long e;
          })

      climbs : 0 < x.h * (x.p + x.v)
      climbs = omega (arith, mul-pos ok.wide ok.crowned)

  -- two-stage: a piece up to the joint, and one from there, which is level where the full slope is the crown slope
  two_rule : x.h * (x.p + x.v) < 3 * x.L → Rule added x
  two_rule two =
      record {
        p = first_piece x;
        q = second_piece x;
        glued = glued;
        strict = λ s t a b h n. strict s t a b h n (ℕ_discrete x.v x.p) (ask (first_reached x) s);
        level = λ s t a b l. glued_level glued s t a b (flat l.same) l.first l.second;
      }
    where
      less : x.h * gain x < rest x
      less = slower x.h x.p x.v (gain x) x.L (omega (arith, ok.turned)) two

      glued : Glued added (On x) (outer_edge x) (first_reached x) (first_piece x) (second_piece x)
      glued =
          rw (reached_two x two)
          (record {
            fraction = λ s a. a.fraction;
            joint = joint_on two ok.turned;
            first = record { some = omega arith; gentle = omega (arith, ok.steep) };
            second = record { some = omega (arith, less); gentle = mul-le-mul ok.steep (omega (arith, less)) };
            before = λ s a i. on_first two a ok.wide i;
            past = λ s a i. on_second two a ok.wide ok.turned i;
          })

      flat : x.v ≡ x.p → 3 * (x.h * gain x) ≡ 0
      flat z =
          let none : gain x ≡ 0 = omega arith in
          rw (none, times_zero)

      strict : (s t : Exact) → On x s → On x t → s ≺ t → ¬ Level x s t → Dec (x.v ≡ x.p) → (first_reached x ≼ s) ⊎ (s ≺ first_reached x) → outer_edge x s ≺ outer_edge x t
      strict s t a b h n (no z) _ =
          let gained : 0 < gain x = omega (arith, ok.turned) in
          glued_higher glued s t a b (omega arith) (mul-pos (omega arith) (mul-pos ok.wide gained)) h
      strict s t a b h n (yes z) (inl i) = absurd (n (record { same = omega arith; first = i; second = ≼_trans a.fraction i (≺→≼ h) }))
      strict s t a b h n (yes z) (inr k) = glued_higher_before glued s t a b (omega arith) k h

  rule : Rule added x
  rule = go (even? x)
    where
      go : Dec (3 * x.L ≤ x.h * (x.p + x.v)) → Rule added x
      go (yes e) = even_rule e
      go (no e) = two_rule (omega arith)

level? : (x : Section) (s t : Exact) → Dec (Level x s t)
level? x s t = go (ℕ_discrete x.v x.p) (ask (first_reached x) s) (ask (first_reached x) t)
  where
    go : Dec (x.v ≡ x.p) → (first_reached x ≼ s) ⊎ (s ≺ first_reached x) → (first_reached x ≼ t) ⊎ (t ≺ first_reached x) → Dec (Level x s t)
    go (no n) _ _ = no (λ l. n l.same)
    go (yes e) (inr j) _ = no (λ l. clash j l.first)
    go (yes e) (inl i) (inr j) = no (λ l. clash j l.second)
    go (yes e) (inl i) (inl j) = yes (record { same = e; first = i; second = j })

turn : {x : Section} {s t : Exact} → Level x s t → Level x t s
turn l = record { same = l.same; first = l.second; second = l.first }

-- the climbing rule
module _ {added : ℕ} {x : Section} {s t : Exact} (ok : ClimbPremises added x) (a : On x s) (b : On x t) where
  -- the farther station is not the lower, nor higher by more than the added slope times the way
  pub edge_climb : s ≼ t → Climb added s (outer_edge x s) t (outer_edge x t)
  edge_climb = glued_climbs (rule ok).glued s t a b

  only : outer_edge x s ≈ outer_edge x t → Dec (Level x s t) → (s ≈ t) ⊎ Level x s t
  only e (yes l) = inr l
  only e (no n) = inl (only_same (λ h. (rule ok).strict s t a b h n) (λ h. (rule ok).strict t s b a h (λ l. n (turn l))) e)

  if_so : (s ≈ t) ⊎ Level x s t → outer_edge x s ≈ outer_edge x t
  if_so (inl e) = glued_same (rule ok).glued s t a b e
  if_so (inr l) = ≼-antisym ((rule ok).level s t a b l) ((rule ok).level t s b a (turn l))

  climbs_so : Climbs added x s t (outer_edge x s) (outer_edge x t)
  climbs_so =
      record {
        fractions = (glued_proper (rule ok).glued s a, glued_proper (rule ok).glued t b);
        equal = (λ e. only e (level? x s t), if_so);
        higher = (rule ok).strict s t a b;
        gentle = glued_gentle (rule ok).glued s t a b;
      }

pub climbs : ClimbsTheorem
climbs added x ok s t a b = climbs_so ok a b
