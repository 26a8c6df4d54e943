-- The runoff of a card as the code holds it, with the joint as numerator and denominator.
-- Assumes nothing.
use Rattle.std.specs.Prelude.{◌≡◌, cond, ℕ, eqb, Result, Ok, Err}
use Rattle.card.specs.declared.Card.{Card}
use Rattle.runoff.specs.declared.Stages.{Stages}
use Rattle.runoff.specs.declared.Stages.TheVariants.{Even, TwoStage}
use Rattle.runoff.specs.declared.Runoff.{Runoff}
use Rattle.section.specs.Lines.{Section, section_of, is_even, joint_num, joint_den}
use Rattle.runoff.specs.Refusal.{refusal}

-- a runoff is either even or two-stage, with the joint as numerator and denominator
abbrev pub stages_of : Section → Stages
stages_of x = cond (is_even x) Even (TwoStage (joint_num x) joint_den)

abbrev pub runoff_by : Section → Runoff
runoff_by x =
    record {
      stages = stages_of x;
      half_width = x.h;
      shoulder_width = x.c;
      least_shoulder = x.m;
      crown_slope = x.p;
      shoulder_slope = x.q;
      full_slope = x.v;
      full_widening = x.W;
      clothoid = x.L;
    }

unfoldable pub runoff_of : Card → Runoff
runoff_of card = runoff_by (section_of card)

-- an accepted card's runoff; else the number of its first reason
unfoldable pub made_of : Card → Result Runoff ℕ
made_of card = cond (eqb (refusal card) 0) (Ok (runoff_of card)) (Err (refusal card))

-- the paper's number for each case of the answer
abbrev pub number_of : Result Runoff ℕ → ℕ
number_of (Ok r) = 0
number_of (Err n) = n

-- THEOREM (proofs/MadeNumber.antt): it is the number of the card's first reason
abbrev pub MadeTheorem : Type 0
MadeTheorem = (card : Card) → number_of (made_of card) ≡ refusal card
