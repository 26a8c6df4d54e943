-- The climbing rule of a section with its datum: above the axis the outer edge is lower by the relative axis at every station, so it climbs alike.
-- Assumes nothing.
use native.Mathlib.Nat.{mul-pos}
use native.Mathlib.Omega.{arith}
use Rattle.exact.specs.Exact.{Exact}
use Rattle.exact.proofs.Shifts.{Less}
use Rattle.exact.proofs.Strict.{less_same, strict_less}
use Rattle.card.specs.declared.Datum.{Datum}
use Rattle.card.specs.declared.Datum.TheVariants.{Relative, Absolute}
use Rattle.card.proofs.Moving.{kept}
use Rattle.minsk_section.specs.Lines.{Section, On, axis, outer_edge, Premises}
use Rattle.minsk_section.specs.Datum.{above_axis, read_height}
use Rattle.minsk_section.specs.Climbing.{AboveTheorem, ReadTheorem}
use Rattle.minsk_section.proofs.ExactClimb.{climbs, edge_proper}

above_less : (datum : Datum) {x : Section} {s : Exact} → Premises x → On x s → Less axis (outer_edge x s) (above_axis datum x s)
above_less datum {x} {s} ok on =
    let k = edge_proper ok on in
    let z = kept datum axis s (outer_edge x s) (omega arith) on.fraction k in
    record { off = omega arith; old = k; new = mul-pos z.fractions.1 z.fractions.0; is = z.distance }

pub climbs_above : AboveTheorem
climbs_above datum added x ok soft =
    let c = climbs added x ok soft in
    record {
      climbs = λ s t a b. strict_less (above_less datum ok a.on) (above_less datum ok b.on) (c.climbs s t a b);
      level = λ s t a b. less_same (above_less datum ok a.on) (above_less datum ok b.on) (c.level s t a b);
    }

pub climbs_read : ReadTheorem
unfolding read_height
climbs_read Relative added x ok soft = climbs added x ok soft
climbs_read (Absolute height grade) added x ok soft = climbs_above (Absolute height grade) added x ok soft
