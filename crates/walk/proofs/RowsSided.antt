-- What a row before the last sees of the stage and of the sides of the rules, by the rows at which pieces begin.
-- Assumes nothing.
use mathlib.Core.Path.{◌≡◌, refl}
use mathlib.Core.Bool.{Bool, true, false, cond}
use Prim.Native.Nat.{ℕ, ◌+◌, ◌*◌, ◌≤◌, ◌<◌}
use native.Mathlib.Decide.{dec_le}
use native.Mathlib.Omega.{arith}
use borrow.Author.Tests.{le-leb, lt-leb}
use Rattle.card.specs.Rows.{multiples_below, station_to}
use Rattle.card.proofs.RowPlaces.{station_most}
use Rattle.section.specs.Lines.{Section, joint_num}
use Rattle.section.proofs.Slopes.{even?, is_even_lem, not_even}
use Rattle.section.proofs.EdgePieces.{joint_before}
use Rattle.changes.specs.Rules.{Rule, inner_slope_rule, shoulder_slope_rule, inner_shoulder_rule}
use Rattle.changes.specs.Closed.{changes, change_num, change_den, ChangePremises}
use Rattle.changes.proofs.Compared.{Inside}
use Rattle.changes.proofs.Insides.{inside}
use Rattle.changes.proofs.WholeStations.{OuterParts, even_parts, first_parts, second_parts, WholeSided, inner_whole, shoulder_whole, width_whole}
use Rattle.runoff.specs.Reckoning.{slope_parts}
use Rattle.walk.specs.Turns.{row_past, joint_turn, turn, turns_in}
use Rattle.walk.proofs.RowsPast.{row_before}
use Rattle.walk.proofs.SlopesOn.{SidedAt, RowAt}

-- the outer slope in its stage
outer_at : (x : Section) (d : ℕ) → let o = slope_parts x d in OuterParts x d o.up o.down o.over
unfolding slope_parts
outer_at x d = go (even? x) (dec_le (3 * d) (joint_num x))
  where
    go : Dec (3 * x.L ≤ x.h * (x.p + x.v)) → Dec (3 * d ≤ joint_num x) → let o = slope_parts x d in OuterParts x d o.up o.down o.over
    go (yes even) _ = rw (is_even_lem x even) (even_parts x d even)
    go (no two) (yes h) = rw (not_even x (omega arith), le-leb (3 * d) (joint_num x) h) (first_parts x d (omega arith) h)
    go (no two) (no h) = rw (not_even x (omega arith), lt-leb (3 * d) (joint_num x) (omega arith)) (second_parts x d (omega arith) (omega arith))

module _ {added : ℕ} {x : Section} (ok : ChangePremises added x) (step : ℕ) (apart : 1 ≤ step) (j : ℕ) (on : j < multiples_below x.L step) where
  abbrev last : ℕ
  last = multiples_below x.L step

  abbrev d : ℕ
  d = station_to x.L step j

  module _ {num den : ℕ} (some : 1 ≤ den) (less : num < den * x.L) where
    before : j < row_past num den step last → den * d ≤ num
    before = (row_before x.L step num den apart some less j).0

    past : row_past num den step last ≤ j → num < den * d
    past h = go (dec_le (den * d) num)
      where
        go : Dec (den * d ≤ num) → num < den * d
        go (yes k) = absurd (omega (arith, h, (row_before x.L step num den apart some less j).1 k))
        go (no k) = omega arith

  -- a rule's sides, by the row past its change
  sided_at : (rule : Rule) {u w : ℕ} → WholeSided rule x d u w → SidedAt (turn rule x step last) j u w
  unfolding turn
  sided_at rule {u} {w} f = go (changes rule x) refl
    where
      go : (b : Bool) → changes rule x ≡ b → SidedAt (cond b (row_past (change_num rule x) (change_den rule x) step last) last) j u w
      go false e = record { before = λ _. f.never e; after = λ h. absurd (omega (arith, on)) }
      go true e =
          let z : Inside rule x = inside ok rule e in
          record {
            before = λ h. f.before (before z.fraction z.less h);
            after = λ h. f.after e (omega (arith, past z.fraction z.less h));
          }

  pub row_at : RowAt x (turns_in x step last) j d
  unfolding turns_in joint_turn
  row_at =
      let to = station_most x.L step j in
      record {
        first = λ two h. before (omega arith) (joint_before x two ok.climb.turned) (rw (not_even x two) at h);
        second = λ two h. past (omega arith) (joint_before x two ok.climb.turned) (rw (not_even x two) at h);
        inner = sided_at inner_slope_rule (inner_whole ok to (outer_at x d));
        shoulder = sided_at shoulder_slope_rule (shoulder_whole ok to (outer_at x d));
        kept = sided_at inner_shoulder_rule (width_whole ok to);
      }
