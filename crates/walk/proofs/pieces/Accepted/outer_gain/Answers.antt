-- `walk::pieces::Accepted::outer_gain` meets its contract.
-- Assumes nothing.
use mathlib.Core.Path.{refl, ap, ◌∙◌}
use Prim.Native.Nat.{◌+◌, ◌*◌, ◌-◌, ◌≤◌}
use native.Mathlib.Nat.{mul-le-mul}
use native.Mathlib.Omega.{arith}
use borrow.Author.Tests.{le-leb, lt-leb}
use Rattle.section.specs.Lines.{Section}
use Rattle.walk.specs.declared.pieces.Accepted.{Accepted}
use Rattle.walk.specs.Gains.{outer_gain}
use Rattle.walk.proofs.AcceptedCards.{limits, section, step_most}
use Rattle.walk.proofs.Stages.{even_stages, two_stages}
use Rattle.walk.proofs.pieces.Accepted.outer_gain.Goals as goal

-- two slopes, times the step
turned_most : (a : Accepted) → (a.runoff.crown_slope + a.runoff.full_slope) * a.card.step ≤ 90 * 20000
turned_most a = mul-le-mul {n₁ = a.runoff.crown_slope + a.runoff.full_slope} {n₂ = 90} (omega (arith, (limits a).crown_most, (limits a).slope_most)) (step_most a)

gained_most : (a : Accepted) → (a.runoff.full_slope - a.runoff.crown_slope) * a.card.step ≤ 60 * 20000
gained_most a = mul-le-mul {n₁ = a.runoff.full_slope - a.runoff.crown_slope} {n₂ = 60} (omega (arith, (limits a).slope_most)) (step_most a)

pub overflow_add-result : goal.overflow_add-result
overflow_add-result c = record { fits = omega (arith, (limits c.args.self).crown_most, (limits c.args.self).slope_most) }

pub overflow_mul-result : goal.overflow_mul-result
overflow_mul-result c = record { fits = rw c.from-step.ensures (omega (arith, turned_most c.args.self)) }

pub overflow_mul-den : goal.overflow_mul-den
overflow_mul-den c = record { fits = rw (two_stages (limits c.args.self) c.in-TwoStage.is).den (omega (arith, c.requires)) }

pub overflow_sub-result : goal.overflow_sub-result
overflow_sub-result c = (limits c.args.self).turned

pub overflow_mul-result-in-TwoStage-2 : goal.overflow_mul-result-in-TwoStage-2
overflow_mul-result-in-TwoStage-2 c =
    let z = limits c.args.self in
    record { fits = rw (two_stages z c.in-TwoStage-2.is).den (omega (arith, z.slope_most)) }

pub overflow_mul-result-in-TwoStage-2-2 : goal.overflow_mul-result-in-TwoStage-2-2
overflow_mul-result-in-TwoStage-2-2 c =
    record { fits = rw ((two_stages (limits c.args.self) c.in-TwoStage-2.is).den, c.from-step.ensures) (omega (arith, gained_most c.args.self)) }

pub returns-in-Even : goal.returns-in-Even
unfolding outer_gain
returns-in-Even c =
    let a = c.args.self in
    rw (c.from-step.ensures, even_stages (limits a) c.in-Even.is) refl ∙ ap (λ (x : Section). outer_gain x a.card.step c.args.d) (section a)

pub returns-in-TwoStage : goal.returns-in-TwoStage
unfolding outer_gain
returns-in-TwoStage c =
    let a = c.args.self in
    let two = two_stages (limits a) c.in-TwoStage.is in
    let first = rw (two.num, two.den) at c.if-den-d.true in
    rw (c.from-step.ensures, two.not_even, le-leb _ _ first) refl ∙ ap (λ (x : Section). outer_gain x a.card.step c.args.d) (section a)

pub returns-in-TwoStage-2 : goal.returns-in-TwoStage-2
unfolding outer_gain
returns-in-TwoStage-2 c =
    let a = c.args.self in
    let two = two_stages (limits a) c.in-TwoStage.is in
    let second = rw (two.num, two.den) at c.if-den-d.false in
    rw (c.from-step.ensures, (two_stages (limits a) c.in-TwoStage-2.is).den, two.not_even, lt-leb _ _ second) refl
    ∙ ap (λ (x : Section). outer_gain x a.card.step c.args.d) (section a)
