-- The climbing rule of a section with its datum: above the axis the outer edge is lower by the relative axis at every station, so it climbs alike.
-- Assumes nothing.
use Prim.Native.Nat.{ℕ, ◌<◌}
use native.Mathlib.Nat.{mul-pos}
use native.Mathlib.Omega.{arith}
use Rattle.exact.specs.Exact.{Exact, ◌⊖◌}
use Rattle.exact.proofs.Order.{≼_trans, ≈→≼}
use Rattle.exact.proofs.Shifts.{Less, less_lt, same_apart}
use Rattle.exact.proofs.Strict.{less_same, same_less}
use Rattle.card.specs.declared.Datum.{Datum}
use Rattle.card.specs.declared.Datum.TheVariants.{Relative, Absolute}
use Rattle.card.proofs.Moving.{kept}
use Rattle.section.specs.Lines.{Section, axis, outer_edge}
use Rattle.section.specs.Datum.{above_axis, read_height}
use Rattle.section.specs.Climbing.{Climbs, AboveTheorem, ReadTheorem}
use Rattle.section.proofs.ExactClimb.{climbs}

-- heights that are moved alike climb alike
climbs_less :
    {added : ℕ} {x : Section} {s t a X Y X' Y' : Exact} → Less a X X' → Less a Y Y' → Climbs added x s t X Y → Climbs added x s t X' Y'
climbs_less {X = X} {Y = Y} f g c =
    record {
      fractions = (f.new, g.new);
      equal = (
        λ e. c.equal.0 (same_less f g e),
        λ w. less_same f g (c.equal.1 w),
      );
      higher = λ h n. less_lt f g (c.higher h n);
      gentle = λ h. ≼_trans {y = Y ⊖ X} (mul-pos g.old f.old) (≈→≼ (same_apart f g)) (c.gentle h);
    }

above_less : (datum : Datum) (x : Section) (s : Exact) → 0 < s.den → 0 < (outer_edge x s).den → Less (axis x) (outer_edge x s) (above_axis datum x s)
above_less datum x s h k =
    let z = kept datum (axis x) s (outer_edge x s) (omega arith) h k in
    record { off = omega arith; old = k; new = mul-pos z.fractions.1 z.fractions.0; is = z.distance }

pub climbs_above : AboveTheorem
climbs_above datum added x ok s t a b =
    let c = climbs added x ok s t a b in
    climbs_less (above_less datum x s a.fraction c.fractions.0) (above_less datum x t b.fraction c.fractions.1) c

pub climbs_read : ReadTheorem
unfolding read_height
climbs_read Relative added x ok = climbs added x ok
climbs_read (Absolute height grade) added x ok = climbs_above (Absolute height grade) added x ok
