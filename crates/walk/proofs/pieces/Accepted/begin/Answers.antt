-- `walk::pieces::Accepted::begin` meets its contract: the row holds what it gains, is walked through its piece, and is counted.
-- Assumes nothing.
use mathlib.Core.Path.{◌≡◌, ap, ◌∙◌}
use Prim.Native.Nat.{ℕ}
use native.Mathlib.Omega.{arith}
use Rattle.section.specs.Lines.{Section, section_of}
use Rattle.runoff.specs.Reckoning.{section_in}
use Rattle.runoff.proofs.Accepts.{accepted_rule}
use Rattle.walk.specs.declared.afresh.Gains.{Gains}
use Rattle.walk.specs.Turns.{turns_of}
use Rattle.walk.specs.Gains.{walker_by}
use Rattle.walk.proofs.AcceptedCards.{section}
use Rattle.walk.proofs.GainsBounded.{bounded}
use Rattle.walk.proofs.PiecesWalked.{gains, walks}
use Rattle.walk.proofs.pieces.Accepted.begin.Goals as goal
use Rattle.walk.proofs.pieces.Accepted.begin.Goals.{After-footing}

-- the section of the station
here : (c : After-footing) → section_in c.station-station.result.runoff ≡ section_of c.args.self.card
here c = ap section_in c.station-station.ensures.runoff ∙ section c.args.self

pub overflow_add-fresh : goal.overflow_add-fresh
overflow_add-fresh c =
    let a = c.args.self in
    record { fits = omega (arith, c.requires.row, c.requires.few, a.counted, (accepted_rule a.card).few a.passes) }

pub invariant_of-start : goal.invariant_of-start
invariant_of-start c =
    let a = c.args.self in
    record { bounded = rw c.gains.ensures (bounded a.card a.passes c.station-station.result (here c) (turns_of a.card) c.args.i) }

pub returns-clause-walks : goal.returns-clause-walks
returns-clause-walks c =
    let a = c.args.self in
    let x = section_of a.card in
    let t = c.station-station.result in
    let f = c.footing.result in
    let start = (goal.at.returns-clause-walks c).After-footing in
    walks a.card a.passes c.args.i (omega (arith, c.requires.row, a.counted)) f (rw c.station-station.ensures.d at c.footing.ensures) _
    (c.walker.ensures
    ∙ ap (λ (y : Section). walker_by f y c.gains.result t.d a.card.step) (here start)
    ∙ ap (λ (g : Gains). walker_by f x g t.d a.card.step) c.gains.ensures
    ∙ ap (λ (d : ℕ). walker_by f x (gains a.card c.args.i d) d a.card.step) c.station-station.ensures.d)
