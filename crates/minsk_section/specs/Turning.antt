-- Document 02, Slip 7: that every line is a fraction, and that slope, widening and shoulder go as the request words them.
-- Assumes nothing.
use Rattle.std.specs.Prelude.{ℕ, ◌*◌, ◌<◌}
use Rattle.exact.specs.Exact.{Exact, whole, minus, ◌⊖◌, ◌⊗◌, ◌≼◌, ◌≺◌, ◌≈◌}
use Rattle.minsk_section.specs.Lines.{Section, On, crown, stage_start, stage_end, first_length, first_slope, second_slope, outer_slope, wide_start, wide_end, growing, widening, inner_shoulder, outer_edge, Fractions, Premises}

pub record Turning (x : Section) : Type 0 where
  pub fractions : (s : Exact) → On x s → Fractions x s
  -- both ends of the first stage are stations; it has its length
  pub start_on : On x (stage_start x)
  pub end_on : On x (stage_end x)
  pub in_order : stage_start x ≺ stage_end x
  pub stage_length : stage_end x ⊖ stage_start x ≈ first_length x
  -- the stages join: −20‰ at the first one's start, 20‰ at its end by both, full slope at L
  pub at_start : first_slope x (stage_start x) ≈ minus crown
  pub at_end : first_slope x (stage_end x) ≈ whole crown
  pub goes_on : second_slope x (stage_end x) ≈ whole crown
  pub ends : outer_slope x (whole x.L) ≈ whole x.v
  -- in the first stage the outer edge climbs at 5‰
  pub first_stage :
      (s t : Exact) → On x s → On x t → stage_start x ≼ s → stage_start x ≼ t → s ≼ stage_end x → t ≼ stage_end x →
      outer_edge x t ⊖ outer_edge x s ≈ whole 5 ⊗ (t ⊖ s)
  -- before it the road is crowned, and the edge level
  pub crowned : (s : Exact) → On x s → s ≼ stage_start x → outer_slope x s ≈ minus crown
  pub level : (s : Exact) → On x s → s ≼ stage_start x → outer_edge x s ≈ minus (x.h * crown)
  -- the widening joins: 0 at its start, which lies past the first stage, and W from its end on
  pub widens_later : stage_end x ≺ wide_start x
  pub none_yet : growing x (wide_start x) ≈ whole 0
  pub all_there : growing x (wide_end x) ≈ whole x.W
  pub widened : widening x (whole x.L) ≈ whole x.W
  -- it grows over 20 m, and between stations, where there is a widening; up to its start there is none, from its end on all of it
  pub widening_length : wide_end x ⊖ wide_start x ≈ whole 20000
  pub wide_start_on : 0 < x.W → On x (wide_start x)
  pub wide_end_on : 0 < x.W → On x (wide_end x)
  pub unwidened : (s : Exact) → On x s → s ≼ wide_start x → widening x s ≈ whole 0
  pub stays : (s : Exact) → On x s → wide_end x ≼ s → widening x s ≈ whole x.W
  -- the inner shoulder with its strip has c where nothing is widened, and keeps its least, which is no narrower than the strip
  pub shoulder_starts : inner_shoulder x (whole 0) ≈ whole x.c
  pub shoulder_least : (s : Exact) → On x s → whole x.m ≼ inner_shoulder x s
  pub shoulder_most : (s : Exact) → On x s → inner_shoulder x s ≼ whole x.c

-- THEOREM (proofs/TurningRule.antt): so it is with every section that keeps to the premises
abbrev pub TurnsTheorem : Type 0
TurnsTheorem = (x : Section) → Premises x → Turning x
