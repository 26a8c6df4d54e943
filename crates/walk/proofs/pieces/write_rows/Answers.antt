-- `walk::pieces::write_rows` meets its contract: an accepted card's rows are spaced so that the first past each station can be told.
-- Assumes nothing.
use mathlib.Core.Path.{◌≡◌, sym, ap, ◌∙◌, subst}
use Prim.Native.Nat.{ℕ, ◌-◌, ◌<◌}
use native.Mathlib.Omega.{arith}
use Rattle.section.specs.Lines.{Section, section_of}
use Rattle.runoff.specs.Reckoning.{section_in}
use Rattle.runoff.proofs.Accepts.{accepted}
use Rattle.runoff.proofs.Limits.{limits_of, same_section}
use Rattle.walk.specs.Turns.{turns_in}
use Rattle.walk.proofs.Premises.{change_premises}
use Rattle.walk.proofs.pieces.write_rows.Goals as goal
use Rattle.walk.proofs.pieces.write_rows.Goals.{Start}

-- the section of the runoff
its : (c : Start) → section_in c.args.r ≡ section_of c.args.card
its c = ap section_in c.requires.card_value.1 ∙ same_section c.args.card

pub invariant_of-spaced : goal.invariant_of-spaced
invariant_of-spaced c =
    let card = c.args.card in
    let passes = c.requires.card_value.0 in
    let own = change_premises card passes in
    let after = (accepted card passes).after in
    let is = sym (its (goal.at.invariant_of-spaced c).Start) in
    record {
      limits = rw c.requires.card_value.1 (limits_of card passes);
      steeper = subst (λ (x : Section). x.p < x.q) is own.steeper;
      wider = subst (λ (x : Section). x.m < x.c) is own.wider;
      apart = omega (arith, after.step_least);
      near = after.step_most;
    }

pub invariant_of-accepted : goal.invariant_of-accepted
invariant_of-accepted c =
    record {
      passes = c.requires.card_value.0;
      made = c.requires.card_value.1;
      counted = c.requires.count_value.0;
      turned =
          c.turns.ensures
          ∙ ap (λ (x : Section). turns_in x c.args.card.step (c.args.count - 1)) (its (goal.at.invariant_of-accepted c).Start)
          ∙ ap (λ (n : ℕ). turns_in (section_of c.args.card) c.args.card.step (n - 1)) c.requires.count_value.0;
    }
