-- The first stage of a section with the half carriageway of category II.
-- Assumes nothing.
use mathlib.Core.Path.{◌≡◌}
use Prim.Native.Nat.{◌+◌, ◌*◌}
use native.Mathlib.Omega.{arith}
use Rattle.exact.specs.Exact.{whole, minus, ◌⊕◌, ◌≈◌}
use Rattle.exact.specs.Parts.{Is}
use Rattle.exact.proofs.Is.{is_frac, is_one, is_minus, is_whole, is_add, is_net, is_eq}
use Rattle.minsk_section.specs.Lines.{Section, Premises, stage_start, outer_edge}
use Rattle.minsk_section.specs.Figures.{FirstStageFigures}
use Rattle.minsk_section.proofs.Slopes.{first_is}
use Rattle.minsk_section.proofs.Heights.{outer_edge_lem}
use Rattle.minsk_section.proofs.EdgePieces.{S, stage, stage_start_is}

into_it : (x : Section) → Premises x → x.h ≡ 3500 → outer_edge x (stage_start x ⊕ whole 3500) ≈ minus 52500
into_it x ok e =
    let at : Is (stage_start x ⊕ whole 3500) (S x + 3500 * 2000) 0 2000 =
    is_net (is_add (stage_start_is ok) (is_whole 3500 2000 (omega arith))) (omega arith) in
    let slope = first_is x (stage ok) at (3500 * 2000 * 2000) (omega arith) (omega (arith, e)) in
    is_eq (outer_edge_lem x (stage_start x ⊕ whole 3500) slope) (is_minus 52500 1 (omega arith)) (rw e (omega arith))

pub first_stage_figures : FirstStageFigures
first_stage_figures =
    record { length = λ x e. is_eq (is_frac (2 * x.h * 20) 5 (omega arith)) (is_one 28000) (omega (arith, e)); into_it = into_it }
