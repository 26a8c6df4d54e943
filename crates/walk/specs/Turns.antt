-- The rows at which a piece begins, as the code finds them, and where a piece ends.
-- Assumes nothing.
use Rattle.std.specs.Prelude.{cond, ◌&&◌, ℕ, ◌+◌, ◌-◌, ◌/◌, ltb, min}
use Rattle.card.specs.declared.Card.{Card}
use Rattle.section.specs.Lines.{Section, section_of, is_even, joint_num, joint_den}
use Rattle.changes.specs.Rules.{Rule, inner_slope_rule, shoulder_slope_rule, inner_shoulder_rule}
use Rattle.changes.specs.Closed.{changes, change_num, change_den}
use Rattle.runoff.specs.Rows.{row_count}
use Rattle.walk.specs.declared.turns.Turns.{Turns}

-- the first row whose station is num/den + 1 in whole mm or farther, at most the last
unfoldable pub row_past : ℕ → ℕ → ℕ → ℕ → ℕ
row_past num den step last = min last ((num / den + 1 + (step - 1)) / step)

-- past the joint, and past the change of sides of a rule; the last row where there is none
unfoldable pub joint_turn : Section → ℕ → ℕ → ℕ
joint_turn x step last = cond (is_even x) last (row_past (joint_num x) joint_den step last)

unfoldable pub turn : Rule → Section → ℕ → ℕ → ℕ
turn rule x step last = cond (changes rule x) (row_past (change_num rule x) (change_den rule x) step last) last

unfoldable pub turns_in : Section → ℕ → ℕ → Turns
turns_in x step last =
    record {
      joint = joint_turn x step last;
      inner = turn inner_slope_rule x step last;
      shoulder = turn shoulder_slope_rule x step last;
      kept = turn inner_shoulder_rule x step last;
    }

-- of a card
abbrev pub last_of : Card → ℕ
last_of card = row_count card - 1

abbrev pub turns_of : Card → Turns
turns_of card = turns_in (section_of card) card.step (last_of card)

-- the sooner of two rows, of which `row` counts only past row i
abbrev pub sooner : ℕ → ℕ → ℕ → ℕ
sooner i row end = cond (ltb i row && ltb row end) row end

-- the first row past row i that begins a piece, and the last row is a piece of its own; past the last row, the count of rows
unfoldable pub end_by : Turns → ℕ → ℕ → ℕ
end_by t count i =
    sooner i t.kept (sooner i t.shoulder (sooner i t.inner (sooner i t.joint (cond (ltb i (count - 1)) (count - 1) count))))

abbrev pub end_of : Card → ℕ → ℕ
end_of card i = end_by (turns_of card) (row_count card) i
