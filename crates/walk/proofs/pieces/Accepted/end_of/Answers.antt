-- `walk::pieces::Accepted::end_of` meets its contract.
-- Assumes nothing.
use mathlib.Core.Path.{◌≡◌, refl, ap, ◌∙◌}
use mathlib.Core.Bool.{cond}
use Prim.Native.Nat.{ℕ, ◌-◌}
use lib.Dec.{ltb}
use borrow.Author.Tests.{lt-ltb, le-ltb}
use Rattle.walk.specs.declared.turns.Turns.{Turns}
use Rattle.walk.specs.Turns.{sooner, turns_of, end_by}
use Rattle.walk.proofs.pieces.Accepted.end_of.Goals as goal
use Rattle.walk.proofs.pieces.Accepted.end_of.Goals.{then-i-last, else-i-last}

-- the sooner of each turn and of what was found before
one_by_one :
    (t : Turns) (n i : ℕ) {a b c d e : ℕ} → a ≡ cond (ltb i (n - 1)) (n - 1) n → b ≡ sooner i t.joint a → c ≡ sooner i t.inner b →
    d ≡ sooner i t.shoulder c → e ≡ sooner i t.kept d → e ≡ end_by t n i
unfolding end_by
one_by_one t n i last joint inner shoulder kept = rw (kept, shoulder, inner, joint, last) refl

pub returns : goal.returns
returns c =
    let a = c.args.self in
    let last : c.if-i-last.end ≡ cond (ltb c.args.i (a.count - 1)) (a.count - 1) a.count =
    elim c.if-i-last.branch [
      | then-i-last w ↦ rw (lt-ltb _ _ w.if-i-last.true) w.end-is
      | else-i-last w ↦ rw (le-ltb _ _ w.if-i-last.false) w.end-is
    ]
    in
    one_by_one a.turns a.count c.args.i last c.sooner-end.ensures c.sooner-end-2.ensures c.sooner-end-3.ensures c.sooner.ensures
    ∙ ap (λ (t : Turns). end_by t a.count c.args.i) a.turned
    ∙ ap (λ (n : ℕ). end_by (turns_of a.card) n c.args.i) a.counted
