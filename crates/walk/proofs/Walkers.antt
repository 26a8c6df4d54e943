-- The row that is worked afresh at a station of an accepted card, walked k rows on, has the numbers of the card's row there.
-- Assumes nothing.
use mathlib.Core.Path.{◌≡◌, ap, ◌∙◌}
use mathlib.Core.List.{List, [], ◌∷◌}
use Prim.Native.Nat.{ℕ, ◌+◌, ◌*◌, ◌^◌, ◌≤◌, ◌<◌}
use native.Mathlib.Nat.{mod-eq_of_lt, mul-le-mul_left}
use native.Mathlib.Omega.{arith}
use lib.IntN.{ℤ, pos}
use mir.Syntax.{w32}
use Rattle.std.specs.Int.{cast_signed}
use Rattle.exact.specs.Exact.{Exact, whole}
use Rattle.card.specs.declared.Card.{Card}
use Rattle.card.specs.Rows.{in_units}
use Rattle.card.proofs.Moving.{axis_some}
use Rattle.section.specs.Lines.{Section, section_of, axis}
use Rattle.section.specs.Datum.{axis_on, moved}
use Rattle.walking.specs.declared.Parts.{Parts}
use Rattle.walking.specs.Curves.{walked, number}
use Rattle.walking.proofs.Counts.{kept_back}
use Rattle.runoff.specs.Refusal.{refusal}
use Rattle.runoff.specs.Runoff.{runoff_of}
use Rattle.runoff.specs.Rows.{row, cells, row_of}
use Rattle.runoff.proofs.Accepts.{accepted}
use Rattle.runoff.proofs.Limits.{limits_of}
use Rattle.walk.specs.declared.afresh.Footing.{Footing}
use Rattle.walk.specs.declared.afresh.Gains.{Gains}
use Rattle.walk.specs.Stepping.{cells_of, cells_on}
use Rattle.walk.specs.Gains.{height_curve, outer_curves, inner_curves, walker_by, Foots, Holds}
use Rattle.walk.proofs.WalkedNumbers.{widening_walked}
use Rattle.walk.proofs.WalkedHeights.{Line, Stands, axis_walked, line_walked}
use Rattle.walk.proofs.GainedLines.{outer_edge_line, outer_brow_line, inner_edge_line, inner_brow_line}
use Rattle.walk.proofs.NumberByNumber.{number_by_number}

same_seven :
    {a a' b b' c c' d d' e e' f f' g g' : ℤ} → a ≡ a' → b ≡ b' → c ≡ c' → d ≡ d' → e ≡ e' → f ≡ f' → g ≡ g' →
    ◌≡◌ {A = List ℤ} (a ∷ b ∷ c ∷ d ∷ e ∷ f ∷ g ∷ []) (a' ∷ b' ∷ c' ∷ d' ∷ e' ∷ f' ∷ g' ∷ [])
same_seven p q r s t u v = λ i. p i ∷ q i ∷ r i ∷ s i ∷ t i ∷ u i ∷ v i ∷ []

-- a station as 32 bits hold it
read_back : (n : ℕ) → n < 2 ^ 31 → cast_signed w32 n ≡ pos n
read_back n few = ap (cast_signed w32) (omega (arith, mod-eq_of_lt {n = n} {m = 2 ^ 32} (omega arith))) ∙ kept_back (pos n) few

-- at the station d, where the axis is at f, and the lines gain g with each row
module _
    (card : Card) (passes : refusal card ≡ 0) (f : Footing) (d : ℕ) (foots : Foots card d f) (g : Gains) (wider : g.widening ≡ (section_of card).W * card.step)
    (k : ℕ) (on : d + k * card.step ≤ card.clothoid) (holds : Holds (section_of card) card.step d g k) where
  abbrev x : Section
  x = section_of card

  abbrev there : ℕ
  there = d + k * card.step

  few : there ≤ 300000
  few = omega (arith, on, (accepted card passes).before.clothoid_most)

  stands : Stands f k (axis_on card.datum x (whole there))
  stands =
      record {
        rows = omega (arith, few, mul-le-mul_left k (accepted card passes).after.step_least);
        fraction = axis_some card.datum (axis x) (whole there) (omega arith) (omega arith);
        is = rw foots.unit (foots.stands k);
      }

  units : (y : Exact) → in_units f.axis.unit y ≡ in_units card.unit y
  units y = ap (λ (u : ℕ). in_units u y) foots.unit

  -- a line of the section, which is walked
  height :
      {y : Exact} {e : ℕ} {at rise bend : Parts} → Line x y e at rise bend k →
      number (walked k (height_curve f at rise bend e)) ≡ in_units card.unit (moved card.datum x (whole there) y)
  height {y} l = line_walked f l card.datum (whole there) (omega arith) stands ∙ units (moved card.datum x (whole there) y)

  pub walker_rows : cells_on (walker_by f x g d card.step) k ≡ cells (row_of card there)
  unfolding walker_by outer_curves inner_curves row runoff_of
  walker_rows =
      let r = runoff_of card in
      let z = limits_of card passes in
      ap cells_of (number_by_number k (walker_by f x g d card.step) (omega (arith, few)))
      ∙ same_seven
      (read_back there (omega (arith, few)))
      (widening_walked f.axis.unit f.axis.unit_least f.axis.unit_most {r = r} z card.step d k on g wider ∙ units _)
      (height (inner_brow_line r z card.step d k on g wider holds))
      (height (inner_edge_line r z card.step d k on g wider holds))
      (axis_walked f stands ∙ units _)
      (height (outer_edge_line r z card.step d k on g wider holds))
      (height (outer_brow_line r z card.step d k on g wider holds))
