-- `walk::pieces::Accepted::gains` meets its contract.
-- Assumes nothing.
use mathlib.Core.Path.{◌≡◌, refl, ap, ◌∙◌}
use mathlib.Core.Bool.{cond}
use Prim.Native.Nat.{ℕ, ◌*◌}
use lib.Dec.{ltb}
use native.Mathlib.Nat.{mul-le-mul}
use native.Mathlib.Omega.{arith}
use borrow.Author.Tests.{lt-ltb, le-ltb}
use Rattle.section.specs.Lines.{Section, section_of}
use Rattle.walk.specs.declared.afresh.Gains.{Gains}
use Rattle.walk.specs.declared.turns.Turns.{Turns}
use Rattle.walk.specs.Turns.{turns_of}
use Rattle.walk.specs.Gains.{outer_gain, gains_in}
use Rattle.walk.proofs.AcceptedCards.{limits, section, step_most}
use Rattle.walk.proofs.pieces.Accepted.gains.Goals as goal
use Rattle.walk.proofs.pieces.Accepted.gains.Goals.{After-from, then-i-self, else-i-self, then-i-self-2, else-i-self-2}

-- the five gains, where each is what it is to be
gains_are :
    (t : Turns) (x : Section) (s i d : ℕ) {outer inner shoulder widening lost : ℕ} → outer ≡ outer_gain x s d → inner ≡ cond (ltb i t.inner) 0 outer →
    shoulder ≡ cond (ltb i t.shoulder) 0 inner → widening ≡ x.W * s → lost ≡ cond (ltb i t.kept) widening 0 →
    ◌≡◌ {A = Gains} (record { outer = outer; inner = inner; shoulder = shoulder; widening = widening; lost = lost }) (gains_in t x s i d)
unfolding gains_in
gains_are t x s i d o n h w l = rw (l, w, h, n, o) refl

module _ (c : After-from) where
  inner_is : c.if-i-self.inner ≡ cond (ltb c.args.i c.args.self.turns.inner) 0 c.outer_gain-outer.result
  inner_is =
      elim c.if-i-self.branch [
        | then-i-self w ↦ rw (lt-ltb _ _ w.if-i-self.true) w.inner-is
        | else-i-self w ↦ rw (le-ltb _ _ w.if-i-self.false) w.inner-is
      ]

  shoulder_is : c.if-i-self-2.shoulder ≡ cond (ltb c.args.i c.args.self.turns.shoulder) 0 c.if-i-self.inner
  shoulder_is =
      elim c.if-i-self-2.branch [
        | then-i-self-2 w ↦ rw (lt-ltb _ _ w.if-i-self-2.true) w.shoulder-is
        | else-i-self-2 w ↦ rw (le-ltb _ _ w.if-i-self-2.false) w.shoulder-is
      ]

  widening_is : c.args.self.runoff.full_widening * c.from.result ≡ (section_of c.args.self.card).W * c.args.self.card.step
  widening_is = rw c.from.ensures (ap (λ (x : Section). x.W * c.args.self.card.step) (section c.args.self))

  all :
      {lost : ℕ} → lost ≡ cond (ltb c.args.i c.args.self.turns.kept) (c.args.self.runoff.full_widening * c.from.result) 0 →
      ◌≡◌ {A = Gains}
      (record {
        outer = c.outer_gain-outer.result;
        inner = c.if-i-self.inner;
        shoulder = c.if-i-self-2.shoulder;
        widening = c.args.self.runoff.full_widening * c.from.result;
        lost = lost;
      })
      (gains_in (turns_of c.args.self.card) (section_of c.args.self.card) c.args.self.card.step c.args.i c.args.d)
  all e =
      let a = c.args.self in
      gains_are a.turns (section_of a.card) _ _ _ c.outer_gain-outer.ensures inner_is shoulder_is widening_is e
      ∙ ap (λ (t : Turns). gains_in t (section_of a.card) a.card.step c.args.i c.args.d) a.turned

pub overflow_mul-widening : goal.overflow_mul-widening
overflow_mul-widening c =
    let a = c.args.self in
    record { fits = rw c.from.ensures (omega (arith, mul-le-mul (limits a).widening_most (step_most a))) }

pub returns-then-i-self-3 : goal.returns-then-i-self-3
returns-then-i-self-3 c = all (goal.at.returns-then-i-self-3 c).After-from (rw (lt-ltb _ _ c.if-i-self-3.true) refl)

pub returns-else-i-self-3 : goal.returns-else-i-self-3
returns-else-i-self-3 c = all (goal.at.returns-else-i-self-3 c).After-from (rw (le-ltb _ _ c.if-i-self-3.false) refl)
