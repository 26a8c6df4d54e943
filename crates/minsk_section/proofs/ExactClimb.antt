-- The climbing rule on exact heights: from the first stage on the edge climbs, and before it the edge is level.
-- Assumes nothing.
use mathlib.Core.Logic.{◌⊎◌, inl, inr}
use Prim.Native.Nat.{ℕ, ◌<◌}
use native.Mathlib.Omega.{arith}
use Rattle.exact.specs.Exact.{Exact, ◌≼◌, ◌≺◌}
use Rattle.exact.proofs.Order.{≼_refl, ≼_trans, ≺→≼, ask}
use Rattle.exact.proofs.Is.{is_same}
use Rattle.exact.proofs.Climb.{Climb, climb_trans}
use Rattle.exact.proofs.Pieces.{piece_climbs, glued_proper, glued_climbs}
use Rattle.exact.proofs.Strict.{glued_strict}
use Rattle.minsk_section.specs.Lines.{Section, On, stage_start, outer_edge, Premises, Gentle}
use Rattle.minsk_section.specs.Climbing.{ClimbsBy, LevelBy, ClimbsTheorem}
use Rattle.minsk_section.proofs.Heights.{outer_edge_lem}
use Rattle.minsk_section.proofs.Proper.{slope_at}
use Rattle.minsk_section.proofs.EdgePieces.{start_on, start_staged, slope_crowned, on_level, level_gentle, gains, edge_glued}

module _ {x : Section} (ok : Premises x) where
  pub level : LevelBy outer_edge x
  level s t a b = is_same (outer_edge_lem x s (slope_crowned ok a.on a.before)) (outer_edge_lem x t (slope_crowned ok b.on b.before))

  -- the height is a fraction at every station
  pub edge_proper : {s : Exact} → On x s → 0 < (outer_edge x s).den
  edge_proper {s} on = (outer_edge_lem x s (slope_at ok on).is).proper

module _ {added : ℕ} {x : Section} (ok : Premises x) (soft : Gentle added x) where
  pub climbs_so : ClimbsBy outer_edge added x
  climbs_so s t a b = glued_strict (edge_glued ok soft) (omega arith) (gains ok) s t a b

  -- over the whole runoff: the farther station is not the lower, nor higher by more than the added slope times the way
  module _ {s t : Exact} (a : On x s) (b : On x t) (h : s ≼ t) where
    level_climbs : t ≼ stage_start x → Climb added s (outer_edge x s) t (outer_edge x t)
    level_climbs k = piece_climbs (level_gentle ok) (on_level ok a (≼_trans b.fraction h k)) (on_level ok b k) h

    pub edge_climb : Climb added s (outer_edge x s) t (outer_edge x t)
    edge_climb = go (ask t (stage_start x)) (ask s (stage_start x))
      where
        go : (t ≼ stage_start x) ⊎ (stage_start x ≺ t) → (s ≼ stage_start x) ⊎ (stage_start x ≺ s) → Climb added s (outer_edge x s) t (outer_edge x t)
        go (inl k) _ = level_climbs k
        go (inr k) (inr i) =
            glued_climbs (edge_glued ok soft) s t (record { on = a; past = ≺→≼ i }) (record { on = b; past = ≺→≼ k }) h
        go (inr k) (inl i) =
            let j = start_on ok in
            let g = edge_glued ok soft in
            climb_trans j.fraction (glued_proper g (stage_start x) (start_staged ok))
            (piece_climbs (level_gentle ok) (on_level ok a i) (on_level ok j (≼_refl (stage_start x))) i)
            (glued_climbs g (stage_start x) t (start_staged ok) (record { on = b; past = ≺→≼ k }) (≺→≼ k))

pub climbs : ClimbsTheorem
climbs added x ok soft = record { climbs = climbs_so ok soft; level = level ok }
