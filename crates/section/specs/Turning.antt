-- Document 01, "Lines of the cross-section": that every line is a fraction, that the outer slope turns as the paper words it, that the inner
-- shoulder keeps its least width, and where heights count from.
-- Assumes nothing.
use Rattle.std.specs.Prelude.{◌≡◌, false, ℕ, ◌≤◌}
use Rattle.exact.specs.Exact.{Exact, whole, minus, ◌⊖◌, ◌⊗◌, ◌≼◌, ◌≈◌}
use Rattle.section.specs.Lines.{Section, On, is_even, joint, outer_slope, outer_edge, inner_shoulder, inner_brow, Fractions}
use Rattle.section.specs.Climbing.{ClimbPremises}

-- from −p at 0 to v at L; in the two-stage case the outer edge climbs at 3‰ until the outer slope is p, at station 2 × h × p / 3
pub record Turning (x : Section) : Type 0 where
  pub fractions : (s : Exact) → On x s → Fractions x s
  pub starts : outer_slope x (whole 0) ≈ minus x.p
  pub ends : outer_slope x (whole x.L) ≈ whole x.v
  -- the joint is one of the stations
  pub joint_on : is_even x ≡ false → On x (joint x)
  pub at_joint : is_even x ≡ false → outer_slope x (joint x) ≈ whole x.p
  pub first_stage :
      is_even x ≡ false → (s t : Exact) → On x s → On x t → s ≼ joint x → t ≼ joint x →
      outer_edge x t ⊖ outer_edge x s ≈ whole 3 ⊗ (t ⊖ s)
  -- the widening takes from the inner shoulder, which has c at 0, no more than leaves it m
  pub shoulder_starts : inner_shoulder x (whole 0) ≈ whole x.c
  pub shoulder_least : (s : Exact) → On x s → whole x.m ≼ inner_shoulder x s
  pub shoulder_most : (s : Exact) → On x s → inner_shoulder x s ≼ whole x.c
  -- heights count from the inner brow at station 0
  pub datum : inner_brow x (whole 0) ≈ whole 0

-- THEOREM (proofs/TurningRule.antt): so it is with every section that keeps to the premises, and whose shoulder is no narrower than its least
-- and no flatter than its crown
abbrev pub TurnsTheorem : Type 0
TurnsTheorem = (added : ℕ) (x : Section) → ClimbPremises added x → x.m ≤ x.c → x.p ≤ x.q → Turning x
